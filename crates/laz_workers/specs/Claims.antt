-- Claims: numbers that threads draw from one shared word, and what the passes know of it. A view is what one pass
-- knows, plain data that exists in proofs alone. The steps and the rule are this project's own.
use Rattle.std.specs.Prelude.{◌≡◌, ℕ, ◌+◌, ◌-◌, ◌^◌, ◌<◌, ◌≤◌, Bool, true, false, not, ◌&&◌, nat_lt, nat_le, List, []}
use Rattle.std.specs.Prelude.{◌∷◌, ◌++◌, All, count_by, sum_by, slice_set}
use mathlib.Core.Option.{some}
use lib.ListN.{get_elem?}
use Rattle.atomic_table.specs.Table.{State, Step, Me}
use Rattle.atomic_table.specs.Seated.{TableId}
use Rattle.laz_workers.specs.Numbers.{one_if, times, HoldsBelow}
use Rattle.laz_workers.specs.Seen.{PassSeen}
use Rattle.laz_workers.specs.declared.view.View.{View}
use Rattle.laz_workers.specs.declared.view.Sizes.{Sizes}

-- how many numbers of the list are at or past the total
abbrev pub past : ℕ → List ℕ → ℕ
past total xs = count_by (λ x. nat_le total x) xs

-- a pass that was split off and is not gone
abbrev pub is_split : View → Bool
is_split v = not v.opens && not v.gone

-- The views that the steps make.

-- making: the opening pass has drawn nothing
abbrev pub opened : Sizes → View
opened s = record {
  opens = true;
  gone = false;
  drawn = [];
  spent = false;
  rest = s.workers - 1;
  out = 0;
  joins = 0;
  total = s.total;
  workers = s.workers;
}

-- `split_seat`: what the opening pass is then
abbrev pub split_from : View → View
split_from v = record v { rest = v.rest - 1; out = v.out + 1 }

-- `split_seat`: the new pass
abbrev pub split_off : View → View
split_off v = record {
  opens = false;
  gone = false;
  drawn = [];
  spent = false;
  rest = 0;
  out = 0;
  joins = 0;
  total = v.total;
  workers = v.workers;
}

-- `fetch_add`: the old word is added to the caller's list, and the caller is spent exactly if that number is at or past
-- the total
abbrev pub drew : View → ℕ → View
drew v word = record v { drawn = v.drawn ++ word ∷ []; spent = nat_le v.total word }

-- `join_seat`: the other's list is added at the end
abbrev pub joined : View → View → View
joined v other = record v { drawn = v.drawn ++ other.drawn; out = v.out - 1; joins = v.joins + 1 }

-- `join_seat`: the other is gone, with an empty list
abbrev pub gone : View
gone = record {
  opens = false;
  gone = true;
  drawn = [];
  spent = false;
  rest = 0;
  out = 0;
  joins = 0;
  total = 0;
  workers = 0;
}

-- The rule.

-- What holds of one view. `splits` is the number of split passes that are not gone
pub record Fits (total workers splits : ℕ) (v : View) : Type 0 where
  -- a pass that is gone holds no number, and the opening one is never gone
  pub gone : v.gone ≡ true → (v.drawn ≡ []) × (v.opens ≡ false)
  -- all that are not gone have the same total and number of workers
  pub sizes : v.gone ≡ false → (v.total ≡ total) × (v.workers ≡ workers)
  -- a split pass holds one number at or past the total if it is spent, else none, and no pass is split from it
  pub split : is_split v ≡ true → (past total v.drawn ≡ one_if v.spent) × (v.rest ≡ 0) × (v.out ≡ 0)
  -- `out` of the opening pass is the number of split passes
  pub out : v.opens ≡ true → v.out ≡ splits
  -- each worker has a pass that is the opening one, was joined to it, is out or may still be split off
  pub seats : v.opens ≡ true → v.rest + v.out + v.joins + 1 ≡ workers
  -- the opening pass holds at most as many numbers at or past the total as passes were joined, and one more if it is
  -- spent
  pub opening : v.opens ≡ true → past total v.drawn ≤ v.joins + one_if v.spent

-- The rule of the word and the views
pub record Kept (total workers word : ℕ) (views : List View) : Type 0 where
  -- each number below the word stands in exactly one list, once, and no other number does
  pub once : (x : ℕ) → sum_by (λ v. times x v.drawn) views ≡ one_if (nat_lt x word)
  -- exactly one pass is the opening one
  pub one_opens : count_by (λ v. v.opens) views ≡ 1
  pub each : (i : ℕ) (v : View) → get_elem? views i ≡ some v → Fits total workers (count_by is_split views) v

-- The steps, over a word and views.

pub record Claiming : Type 0 where
  pub word : ℕ
  pub views : List View

pub data Event : Type 0 where
  splits : ℕ → Event
  draws : ℕ → Event
  joins : ℕ → ℕ → Event
  closes : ℕ → Event

-- making: the word is 0
abbrev pub made : Sizes → Claiming
made s = record { word = 0; views = opened s ∷ [] }

-- the pass i has the view v
abbrev pub Has : Claiming → ℕ → View → Type 0
Has s i v = get_elem? s.views i ≡ some v

-- the event may come at s, and leads to t
abbrev pub Leads : Claiming → Event → Claiming → Type 0
Leads s (splits i) t =
    (v : View) × Has s i v × (v.opens ≡ true) × (0 < v.rest)
    × (t ≡ record { word = s.word; views = slice_set s.views i (split_from v) ++ split_off v ∷ [] })
Leads s (draws i) t =
    (v : View) × Has s i v × (v.gone ≡ false) × (v.spent ≡ false)
    × (t ≡ record { word = s.word + 1; views = slice_set s.views i (drew v s.word) })
Leads s (joins i j) t =
    (v : View) × (u : View) × Has s i v × Has s j u × (v.opens ≡ true) × (is_split u ≡ true)
    × (t ≡ record { word = s.word; views = slice_set (slice_set s.views i (joined v u)) j gone })
Leads s (closes i) t = (v : View) × Has s i v × (v.opens ≡ true) × (v.out ≡ 0) × (t ≡ s)

-- the events, one after another, lead from s to t
abbrev pub Run : Claiming → List Event → Claiming → Type 0
Run s [] t = t ≡ s
Run s (e ∷ es) t = (between : Claiming) × Leads s e between × Run between es t

-- The rule as the table keeps it, with the ranges under which the word can't wrap.

abbrev pub InRange : Sizes → Type 0
InRange s = (s.total ≤ 2 ^ 24) × (0 < s.workers) × (s.workers ≤ 8)

abbrev pub Holds : Sizes → State (Unit {0}) View → Type 0
Holds s state = InRange s × ((word : ℕ) × (state.words ≡ word ∷ []) × Kept s.total s.workers word state.views)

-- What the caller of a `fetch_add` knows: the number is added to its list, and is greater than each that it held. If
-- the caller is the opening pass and no other is out, its list holds each number below the word that is left
pub record Draw (step : Step (Unit {0})) (v : Me (Unit {0}) View) (word : ℕ) (w : Me (Unit {0}) View) : Type 0 where
  pub view : w.0 ≡ drew v.0 word
  pub slots : w.1 ≡ v.1
  pub greater : All (λ x. x < word) v.0.drawn
  pub whole : v.0.opens ≡ true → v.0.out ≡ 0 → HoldsBelow (word + 1) w.0.drawn

-- What the opening pass knows after a load: if no other is out, its list holds each number below the word
pub record Look (step : Step (Unit {0})) (v : Me (Unit {0}) View) (word : ℕ) (w : Me (Unit {0}) View) : Type 0 where
  pub view : w.0 ≡ v.0
  pub slots : w.1 ≡ v.1
  pub whole : v.0.opens ≡ true → v.0.out ≡ 0 → HoldsBelow word w.0.drawn
  pub seats : v.0.opens ≡ true → v.0.rest + v.0.out + v.0.joins + 1 ≡ v.0.workers

-- What a pass shows of its view.
abbrev pub seen : TableId → View → PassSeen
seen id v = record {
  claims = record { word = id; total = v.total; workers = v.workers };
  opens = v.opens;
  drawn = v.drawn;
  spent = v.spent;
  rest = v.rest;
  out = v.out;
}

-- What each pass keeps of its own view
pub record IsLive (v : View) : Type 0 where
  pub here : v.gone ≡ false
  pub split : v.opens ≡ false → (v.rest ≡ 0) × (v.out ≡ 0)
  pub seats : v.opens ≡ true → v.rest + v.out + v.joins + 1 ≡ v.workers
  pub few : v.workers ≤ 8

-- Whatever steps the passes take, and in whatever order, the rule holds after each of them, and the word is at most the
-- total plus the number of workers
abbrev pub EveryRunKeepsTheRule : Type 0
EveryRunKeepsTheRule = (sizes : Sizes) (events : List Event) (s : Claiming) → InRange sizes → Run (made sizes) events s
    → Kept sizes.total sizes.workers s.word s.views × (s.word ≤ sizes.total + sizes.workers)

-- If the claims can be closed, the opening pass holds each number below the word once, and no other
abbrev pub EveryCloseIsWhole : Type 0
EveryCloseIsWhole = (total workers : ℕ) (s : Claiming) (i : ℕ) → Kept total workers s.word s.views
    → Leads s (closes i) s → (v : View) → Has s i v → HoldsBelow s.word v.drawn
