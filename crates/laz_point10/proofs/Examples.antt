-- Worked values of the definitions.
use Rattle.std.proofs.Common.{◌≡◌, pos, negsuc, ◌+◌, ◌*◌, ◌/◌, ◌%◌, false, [], ◌∷◌, ◌++◌, replicate, refl, map}
use Rattle.std.specs.List.{range_with_len}
use Rattle.laz_range.specs.Span.{bytes_of, renormal_step, span, subspan}
use Rattle.laz_models.specs.Counting.{starts_of}
use Rattle.laz_models.specs.Cycles.{cycle_in}
use Rattle.laz_models.specs.Dist.{counts_at}
use Rattle.laz_models.specs.BitDist.{bit_counts_at}
use Rattle.laz_integer.specs.Corrector.{corrector_index, digits_within, width_of}
use Rattle.laz_integer.specs.Events.{Flag, Symbol, cuts_of}
use Rattle.laz_integer.specs.Integer.{bit_name, high_name, rest_events, width_name}
use Rattle.laz_integer.specs.Uses.{own_name}
use Rattle.las_header.specs.Numbers.{number_at}
use Rattle.laz_point10.specs.declared.point.Point.{Point}
use Rattle.laz_point10.specs.Medians.{median_of, middle, with_value}
use Rattle.laz_point10.specs.Points.{last_intensity, one_return, point_at, return_level, return_map, x_steps}
use Rattle.laz_point10.specs.PointEvents.{changes_kind, changes_of, even_below, intensity_kind, point_events, x_kind, y_context, y_kind, z_context, z_kind}
use Rattle.laz_integer.specs.Bytes.{has_bit}

-- a part of zeros, and one with intensity 7 and the flag byte of the first of one return
abbrev zeros : Point
zeros = point_at (replicate 20 0)

abbrev seven : Point
seven = point_at (replicate 12 0 ++ 7 ∷ 0 ∷ 9 ∷ 0 ∷ 0 ∷ 0 ∷ 0 ∷ 0 ∷ [])

-- the first point sets no last intensity: the same point after it has a changed one
again : point_events (seven ∷ []) seven
    ≡ Symbol (own_name changes_kind 0) 64 16
    ∷ Symbol (width_name intensity_kind 0) 17 3
    ∷ Symbol (high_name intensity_kind 3) 8 6
    ∷ Symbol (width_name x_kind 1) 33 0
    ∷ Flag (bit_name x_kind) false
    ∷ Symbol (width_name y_kind 1) 33 0
    ∷ Flag (bit_name y_kind) false
    ∷ Symbol (width_name z_kind 1) 33 0
    ∷ Flag (bit_name z_kind) false
    ∷ []
unfolding number_at has_bit changes_of even_below return_map return_level one_return with_value digits_within width_of corrector_index rest_events
again = refl

again_bytes : bytes_of (span (cuts_of (point_events (seven ∷ []) seven))) ≡ 64 ∷ 225 ∷ 163 ∷ 106 ∷ 128 ∷ 0 ∷ 0 ∷ []
unfolding number_at has_bit changes_of even_below return_map return_level one_return with_value digits_within width_of corrector_index rest_events renormal_step subspan starts_of counts_at cycle_in bit_counts_at
again_bytes = refl

zeros_bytes : bytes_of (span (cuts_of (point_events (zeros ∷ []) zeros))) ≡ 0 ∷ 0 ∷ 0 ∷ 1 ∷ 0 ∷ 0 ∷ 0 ∷ []
unfolding number_at has_bit changes_of even_below return_map return_level one_return with_value digits_within width_of corrector_index rest_events renormal_step subspan starts_of counts_at cycle_in bit_counts_at
zeros_bytes = refl

-- the third of three such points finds what the second set; the first alone sets nothing
last_values : (last_intensity (seven ∷ []) 0 ≡ 0) × (last_intensity (seven ∷ seven ∷ []) 0 ≡ 7) × (x_steps (seven ∷ []) 0 ≡ []) × (x_steps (seven ∷ seven ∷ []) 0 ≡ pos 0 ∷ [])
unfolding number_at return_map
last_values = (refl, refl, refl, refl)

-- medians of 0, 1, 3 and 4 values, the latest first
medians : map (λ n. middle (median_of n)) ([] ∷ (pos 5 ∷ []) ∷ (pos 5 ∷ pos 5 ∷ pos 5 ∷ []) ∷ (negsuc 2 ∷ negsuc 2 ∷ negsuc 2 ∷ negsuc 2 ∷ []) ∷ []) ≡ pos 0 ∷ pos 0 ∷ pos 5 ∷ negsuc 2 ∷ []
unfolding with_value
medians = refl

-- the map is the same by number of returns and return number, and by return number and number of returns
symmetric : map (λ i. return_map (8 * (i % 8) + i / 8)) (range_with_len 0 64) ≡ map return_map (range_with_len 0 64)
unfolding return_map
symmetric = refl

-- contexts of dy and z: bit 0 cleared, and the greatest
contexts : (y_context 9 7 ≡ 7) × (y_context 0 19 ≡ 18) × (y_context 9 20 ≡ 21) × (z_context 0 7 8 ≡ 6) × (z_context 9 32 32 ≡ 19)
unfolding even_below one_return
contexts = (refl, refl, refl, refl, refl)
