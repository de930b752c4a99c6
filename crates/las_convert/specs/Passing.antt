-- Which records pass the filters of a plan and are then let pass by a sieve.
use Rattle.std.specs.Prelude.{◌≡◌, ℕ, not, ◌&&◌, ◌||◌, if◌then◌else◌, List, [], ◌∷◌, ◌++◌, Bool, length, is_some}
use Rattle.las_filter.specs.Filters.{keeps_all}
use Rattle.las_filter.specs.Changes.{changed}
use Rattle.las_filter.specs.Kept.{Steps, kept_and}
use Rattle.las_thin.specs.Kept.{passing}
use Rattle.las_thin.specs.Placed.{Placed, placed}
use Rattle.las_thin.specs.Sieving.{Settings, judged_by, stays}
use Rattle.las_convert.specs.Adding.{kept_by}

-- a record that comes after others passes the filters, and stays where the sieve finds it
abbrev pub passes_after : Settings → (looked : List Placed) → Steps → (before : List (List ℕ)) → (point : List ℕ) → Bool
passes_after settings looked plan before point =
    let a = placed (length before) point in
    keeps_all plan.keeps point && stays settings (judged_by settings looked (passing plan before) a) a

-- What is kept is said one record at a time.
abbrev pub KeepsOneMore : Type 0
KeepsOneMore = (settings : Settings) (looked : List Placed) (plan : Steps) (before : List (List ℕ)) (point : List ℕ)
    → let now = kept_by settings looked plan before in
    kept_by settings looked plan (before ++ point ∷ [])
    ≡ (if is_some now.raw_range || not (passes_after settings looked plan before point)
    then now
    else kept_and now (changed plan.changes point))
