-- What a plan keeps of a list of records that is thinned too.
use Rattle.std.specs.Prelude.{◌≡◌, ℕ, suc, Bool, not, ◌&&◌, ◌||◌, if◌then◌else◌, List, [], ◌∷◌, ◌++◌}
use Rattle.std.specs.Prelude.{length, map, filter, is_some}
use Rattle.las_filter.specs.Filters.{keeps_all}
use Rattle.las_filter.specs.Changes.{changed}
use Rattle.las_filter.specs.Kept.{Steps, Kept, kept, kept_of, kept_and}
use Rattle.las_thin.specs.Placed.{Placed, placed, AreAscending}
use Rattle.las_thin.specs.Sieving.{Settings, PicksFirst, all_pass, sifted, stays}

-- records with their places, from a number on
abbrev pub numbered : ℕ → List (List ℕ) → List Placed
numbered n [] = []
numbered n (point ∷ points) = placed n point ∷ numbered (suc n) points

-- the records that pass all filters of a plan, each with its place in the list
abbrev pub passing : Steps → List (List ℕ) → List Placed
passing plan records = filter (λ a. keeps_all plan.keeps a.point) (numbered 0 records)

-- what is kept of some of them: each with the changes made in order, up to the first that is refused
abbrev pub kept_of_placed : Steps → List Placed → Kept
kept_of_placed plan records = kept_of (map (λ a. changed plan.changes a.point) records)

-- What a plan keeps when records are thinned: those that pass all filters, in order; of these the first of each
-- position, if positions are not to repeat; of these one in each cell, if there is a step; and each of these changed.
abbrev pub kept_behind : Steps → Settings → List (List ℕ) → Kept
kept_behind plan settings records = kept_of_placed plan (sifted settings (passing plan records))

-- what is kept of the records that pass a test by place too
abbrev pub kept_where : (Placed → Bool) → Steps → List (List ℕ) → Kept
kept_where test plan records = kept_of_placed plan (filter test (passing plan records))

-- Without a step and with repeated positions, it is what the plan alone keeps.
abbrev pub KeepsAsThePlan : Type 0
KeepsAsThePlan = (plan : Steps) (records : List (List ℕ))
    → kept_behind plan all_pass records ≡ kept plan records

-- What is kept when records are thinned is what passes the test whether it stays.
abbrev pub KeepsWhatStays : Type 0
KeepsWhatStays = (plan : Steps) (settings : Settings) (records : List (List ℕ))
    → kept_behind plan settings records ≡ kept_where (stays settings (passing plan records)) plan records

-- What is kept where a test passes is said one record at a time.
abbrev pub KeepsOneByOne : Type 0
KeepsOneByOne = (test : Placed → Bool) (plan : Steps) (records : List (List ℕ)) (point : List ℕ)
    → let before = kept_where test plan records in
    kept_where test plan (records ++ point ∷ [])
    ≡ (if is_some before.raw_range || not (keeps_all plan.keeps point && test (placed (length records) point))
    then before
    else kept_and before (changed plan.changes point))

-- The places of the records that pass ascend.
abbrev pub PlacesAscend : Type 0
PlacesAscend = (plan : Steps) (records : List (List ℕ)) → AreAscending (passing plan records)

-- With the first of a cell, what is kept when records are thinned is said one record at a time.
abbrev pub FirstKeepsOneByOne : Type 0
FirstKeepsOneByOne = (settings : Settings) (plan : Steps) (records : List (List ℕ)) (point : List ℕ)
    → PicksFirst settings.pick → let before = kept_behind plan settings records in let a = placed (length records) point in
    kept_behind plan settings (records ++ point ∷ [])
    ≡ (if is_some before.raw_range
    || not (keeps_all plan.keeps point && stays settings (passing plan records ++ a ∷ []) a)
    then before
    else kept_and before (changed plan.changes point))
