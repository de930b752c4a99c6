-- How far the outputs of a run are that are written as drafts.
use Rattle.std.specs.Prelude.{◌≡◌, ◌⊎◌, ℕ, ◌+◌, ◌<◌, Option, refl}
use Rattle.std.specs.Coded.{Coded, code_by, coded×, coded_ℕ, coded_option}

-- The number of the process that the drafts' names tell, or none if outputs are written under their own names; how many
-- drafts there are, for how many the list has room, how many of them are on the disk for certain, and how many have got
-- their outputs' names. The drafts are numbered in the order in which they were begun. Those with the lowest numbers
-- are synced and moved.
pub record Drafting : Type 0 where
  pub process : Option ℕ
  pub begun : ℕ
  pub room : ℕ
  pub synced : ℕ
  pub moved : ℕ

abbrev pub drafting_code : Coded Drafting
drafting_code =
    code_by (Option ℕ × (ℕ × (ℕ × (ℕ × ℕ))))
    (coded× (coded_option coded_ℕ) (coded× coded_ℕ (coded× coded_ℕ (coded× coded_ℕ coded_ℕ))))
    (λ d. (d.process, (d.begun, (d.room, (d.synced, d.moved)))))
    (λ p. record { process = p.0; begun = p.1.0; room = p.1.1.0; synced = p.1.1.1.0; moved = p.1.1.1.1 }) (λ _. refl)

-- no draft yet
abbrev pub no_drafts : (process : Option ℕ) → Drafting
no_drafts process = record { process = process; begun = 0; room = 0; synced = 0; moved = 0 }

-- every draft has its output's name
abbrev pub all_moved : Drafting → Drafting
all_moved d = record d { synced = d.begun; moved = d.begun }

-- no draft is left that has not got its output's name
abbrev pub only_moved : Drafting → Drafting
only_moved d = record d { begun = d.moved; synced = d.moved }

-- One draft more was begun.
abbrev pub BeginsOne : Drafting → Drafting → Type 0
BeginsOne old new = new ≡ record old { begun = old.begun + 1; room = new.room }

-- No draft was begun, and there is perhaps more room for one.
abbrev pub BeginsNone : Drafting → Drafting → Type 0
BeginsNone old new = new ≡ record old { room = new.room }

-- One draft more was begun, or there is one that was begun before: the numbers don't tell whose output that one is.
abbrev pub HasDraft : Drafting → Drafting → Type 0
HasDraft old new = BeginsOne old new ⊎ (BeginsNone old new × (0 < old.begun))
