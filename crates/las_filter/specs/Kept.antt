-- What a plan keeps of a list of records.
use Rattle.std.specs.Prelude.{◌≡◌, ℕ, not, ◌||◌, if◌then◌else◌, List, [], ◌∷◌, ◌++◌, length, map, filter}
use Rattle.std.specs.Prelude.{Option, Some, None, is_some, position}
use Rattle.std.specs.Option.{is_none, some_prefix}
use Rattle.las_filter.specs.declared.keep.Keep.{Keep}
use Rattle.las_filter.specs.declared.change.Change.{Change}
use Rattle.las_filter.specs.declared.plan.Plan.{Plan}
use Rattle.las_filter.specs.Filters.{keeps_all}
use Rattle.las_filter.specs.Changes.{changed}

-- a plan as its two lists
pub record Steps : Type 0 where
  pub keeps : List Keep
  pub changes : List Change

abbrev pub steps_of : Plan → Steps
steps_of plan = record { keeps = plan.keeps.items; changes = plan.changes.items }

-- the records that are kept, in order, each changed; and if a change of one is refused, its number, counted from 0.
-- Then the records are those before it.
pub record Kept : Type 0 where
  pub records : List (List ℕ)
  pub raw_range : Option ℕ

-- each record that passes all filters, in order, changed or refused
abbrev pub outcomes : Steps → List (List ℕ) → List (Option (List ℕ))
outcomes plan records = map (changed plan.changes) (filter (keeps_all plan.keeps) records)

-- the records before the first that is refused, and the place of that one
abbrev pub kept_of : List (Option (List ℕ)) → Kept
kept_of outcomes = record { records = some_prefix outcomes; raw_range = position is_none outcomes }

abbrev pub kept : Steps → List (List ℕ) → Kept
kept plan records = kept_of (outcomes plan records)

-- what is kept with one record more that passes, changed or refused
abbrev pub kept_and : Kept → Option (List ℕ) → Kept
kept_and before (Some point) = record before { records = before.records ++ point ∷ [] }
kept_and before None = record before { raw_range = Some (length before.records) }

-- what is kept with one record more
abbrev pub kept_with : Steps → Kept → List ℕ → Kept
kept_with plan before point =
    if is_some before.raw_range || not (keeps_all plan.keeps point)
    then before
    else kept_and before (changed plan.changes point)

-- What is kept of a list is said one record at a time.
abbrev pub GrowsOneByOne : Type 0
GrowsOneByOne = (plan : Steps) (records : List (List ℕ)) (point : List ℕ)
    → kept plan (records ++ point ∷ []) ≡ kept_with plan (kept plan records) point

-- A record that is refused is counted after those that are kept.
abbrev pub CountsItsRecords : Type 0
CountsItsRecords = (plan : Steps) (records : List (List ℕ)) (number : ℕ)
    → (kept plan records).raw_range ≡ Some number → number ≡ length (kept plan records).records
