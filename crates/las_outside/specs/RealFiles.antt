-- What contracts see of the files of the system.
use Rattle.std.specs.Prelude.{◌≡◌, ◌⊎◌, ℕ, Option, None, refl}
use Rattle.std.specs.Coded.{Coded, code_by, coded×}
use Rattle.las_outside.specs.Drafting.{Drafting, drafting_code, no_drafts, all_moved}
use Rattle.las_outside.specs.Outside.{Outside, outside_code, with_read_fault, with_write_fault}

-- what the trait of files sees, and how far the drafts are
pub record SystemView : Type 0 where
  pub outside : Outside
  pub drafts : Drafting

abbrev pub system_code : Coded SystemView
system_code =
    code_by (Outside × Drafting) (coded× outside_code drafting_code) (λ s. (s.outside, s.drafts))
    (λ p. record { outside = p.0; drafts = p.1 }) (λ _. refl)

-- no call was made yet
abbrev pub untouched : (process : Option ℕ) → SystemView
untouched process = record {
  outside = record { held = None; read_faults = 0; write_faults = 0; asked = 0 };
  drafts = no_drafts process;
}

-- How drafts get their outputs' names, with the status that tells it.
pub record Publishes (status : ℕ) (old new : SystemView) : Type 0 where
  -- 0: each has got it
  pub done : status ≡ 0 → new ≡ record old { drafts = all_moved old.drafts }
  -- 3: an input was changed, and none has got it
  pub changed : status ≡ 3 → new ≡ record old { outside = with_read_fault old.outside }
  -- 4: a call on files failed
  pub fault : status ≡ 4 → new.outside ≡ with_write_fault old.outside
  -- No draft is begun or let go.
  pub begun : new.drafts.begun ≡ old.drafts.begun
  -- There is no other status.
  pub causes : (status ≡ 0) ⊎ (status ≡ 3) ⊎ (status ≡ 4)
