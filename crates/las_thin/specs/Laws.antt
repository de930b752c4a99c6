-- Laws of thinning.
use Rattle.std.specs.Prelude.{◌≡◌, ℕ, if◌then◌else◌, List, [], ◌∷◌, ◌++◌, filter, count_by}
use Rattle.std.specs.List.{list_any}
use Rattle.las_thin.specs.Placed.{Placed, AreAscending}
use Rattle.las_thin.specs.Cells.{Cell}
use Rattle.las_thin.specs.Thinning.{thinned, distinct, is_in}
use Rattle.las_thin.specs.Sieving.{Settings, PicksFirst, sifted, stays}
use Rattle.las_thin.specs.declared.pick.Pick.{Pick}

-- Each cell that has a record has exactly one that stays.
abbrev pub LeavesOneInEachCell : Type 0
LeavesOneInEachCell = (step : ℕ) (pick : Pick) (records : List Placed) → AreAscending records → (cell : Cell)
    → count_by (is_in step cell) (thinned step pick records)
    ≡ (if list_any (is_in step cell) records then 1 else 0)

-- To drop repeated positions first changes nothing of what is thinned.
abbrev pub ThinsRepeated : Type 0
ThinsRepeated = (step : ℕ) (pick : Pick) (records : List Placed)
    → thinned step pick (distinct records) ≡ thinned step pick records

-- With the first of a cell, what stays of a list is said one record at a time.
abbrev pub SiftsOneByOne : Type 0
SiftsOneByOne = (settings : Settings) (records : List Placed) (a : Placed) → PicksFirst settings.pick
    → AreAscending (records ++ a ∷ [])
    → sifted settings (records ++ a ∷ [])
    ≡ sifted settings records ++ (if stays settings (records ++ a ∷ []) a then a ∷ [] else [])

-- The records that are found to stay, in order, are what stays of the list.
abbrev pub SiftsWhole : Type 0
SiftsWhole = (settings : Settings) (records : List Placed) → AreAscending records
    → filter (stays settings records) records ≡ sifted settings records

-- With the first of a cell, what comes later does not change whether a record stays.
abbrev pub LaterChangesNothing : Type 0
LaterChangesNothing = (settings : Settings) (before after : List Placed) (a : Placed) → PicksFirst settings.pick
    → AreAscending (before ++ a ∷ after) → stays settings (before ++ a ∷ after) a ≡ stays settings (before ++ a ∷ []) a
