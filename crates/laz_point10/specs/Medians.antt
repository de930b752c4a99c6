-- The streaming median of a list of values, the latest one first (LASzip's POINT10, version 2).
use Rattle.std.specs.Prelude.{ℤ, pos, true, if◌then◌else◌, int_lt, int_le, List, [], ◌∷◌, take, drop, replicate}
use Rattle.std.specs.Prelude.{slice_index_or, ◌≤ℤ◌}
use Rattle.laz_point10.specs.declared.median.Median.{Median}

-- A value put among sorted ones, before the first that it is not above.
abbrev pub put_in : ℤ → List ℤ → List ℤ
put_in v [] = v ∷ []
put_in v (w ∷ ws) = if int_le v w then v ∷ w ∷ ws else w ∷ put_in v ws

-- The middle one of the five values.
abbrev pub middle : Median → ℤ
middle m = slice_index_or m.values 2 (pos 0)

-- One value more. If it is high, the greatest is dropped, and it turns low exactly if the value is at least the old
-- middle. If it is low, the least is dropped, and it turns high exactly if the value is at most the old middle.
unfoldable pub with_value : Median → ℤ → Median
with_value m v =
    if m.high then record { values = put_in v (take 4 m.values); high = int_lt v (middle m) }
    else record { values = put_in v (drop 1 m.values); high = int_le v (middle m) }

-- Five zeros, and high.
abbrev pub no_values : Median
no_values = record { values = replicate 5 (pos 0); high = true }

-- The median of a list of values, of which the first is the latest.
abbrev pub median_of : List ℤ → Median
median_of [] = no_values
median_of (v ∷ earlier) = with_value (median_of earlier) v

-- Each value is at most the next.
abbrev pub IsSorted : List ℤ → Type 0
IsSorted [] = Unit {0}
IsSorted (a ∷ []) = Unit {0}
IsSorted (a ∷ b ∷ values) = (a ≤ℤ b) × IsSorted (b ∷ values)
