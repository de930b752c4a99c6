-- Worked values of the definitions.
use Rattle.std.proofs.Common.{◌≡◌, ℕ, ◌+◌, pos, List, [], ◌∷◌, ◌++◌, refl}
use Rattle.laz_gpstime.specs.declared.limits.TheConstants.{FULL, MULTI, MULTI_MINUS, TOTAL, UNCHANGED}
use Rattle.laz_integer.specs.Corrector.{digits_within, width_of, corrector_index}
use Rattle.laz_integer.specs.Events.{Bits, Event}
use Rattle.laz_integer.specs.Integer.{IntEvents, rest_events}
use Rattle.laz_gpstime.specs.Items.{point_with}
use Rattle.laz_gpstime.specs.Meanings.{time_kind}
use Rattle.laz_gpstime.specs.Sequences.{Point, difference, extremes, sequence}
use Rattle.laz_gpstime.specs.Times.{difference_symbol, time_at, time_events, time_symbol}

abbrev pub base : ℕ
base = 4611686018427387904

-- Points with these times, counted from 2^62, the latest first, after others. Each is spelled as a writer does.
abbrev pub points_after : List Point → List ℕ → List Point
points_after earlier [] = earlier
points_after earlier (t ∷ times) = let before = points_after earlier times in point_with (base + t) (time_events before (base + t)) ∷ before

-- The first point of a chunk, and points after it.
abbrev pub points : List ℕ → List Point
points times = points_after (point_with base [] ∷ []) times

-- A symbol of model d, and an integer after it.
abbrev both : ℕ → ℕ → ℕ → ℕ → ℕ → List Event
both d s ctx pred real = time_symbol d s ∷ IntEvents time_kind 32 ctx (pos pred) (pos real)

-- a time in eight bytes
pub at : time_at (44 ∷ 1 ∷ 0 ∷ 0 ∷ 0 ∷ 0 ∷ 0 ∷ 64 ∷ []) ≡ base + 300
at = refl

-- ---- known times: 0, 0, 10, 20, 20, then four jumps to 20,020, and one more to 25,020; 2^40 more; and 25,030
pub same : time_events (points ([])) (base + 0) ≡ time_symbol 0 0 ∷ []
unfolding digits_within width_of corrector_index rest_events
same = refl

pub first : time_events (points (0 ∷ [])) (base + 10) ≡ both 0 1 0 0 10
unfolding digits_within width_of corrector_index rest_events
first = refl

pub one : time_events (points (10 ∷ 0 ∷ [])) (base + 20) ≡ both 10 1 1 10 10
unfolding digits_within width_of corrector_index rest_events
one = refl

pub same_again : time_events (points (20 ∷ 10 ∷ 0 ∷ [])) (base + 20) ≡ time_symbol 10 511 ∷ []
unfolding digits_within width_of corrector_index rest_events
same_again = refl

pub far : time_events (points (20 ∷ 20 ∷ 10 ∷ 0 ∷ [])) (base + 5020) ≡ both 10 500 4 5000 5000
unfolding digits_within width_of corrector_index rest_events
far = refl

pub far_again : time_events (points (5020 ∷ 20 ∷ 20 ∷ 10 ∷ 0 ∷ [])) (base + 10020) ≡ both 10 500 4 5000 5000
unfolding digits_within width_of corrector_index rest_events
far_again = refl

pub far_third : time_events (points (10020 ∷ 5020 ∷ 20 ∷ 20 ∷ 10 ∷ 0 ∷ [])) (base + 15020) ≡ both 10 500 4 5000 5000
unfolding digits_within width_of corrector_index rest_events
far_third = refl

pub far_fourth : time_events (points (15020 ∷ 10020 ∷ 5020 ∷ 20 ∷ 20 ∷ 10 ∷ 0 ∷ [])) (base + 20020) ≡ both 10 500 4 5000 5000
unfolding digits_within width_of corrector_index rest_events
far_fourth = refl

pub set : time_events (points (20020 ∷ 15020 ∷ 10020 ∷ 5020 ∷ 20 ∷ 20 ∷ 10 ∷ 0 ∷ [])) (base + 25020) ≡ both 5000 1 1 5000 5000
unfolding digits_within width_of corrector_index rest_events
set = refl

pub opened : time_events (points (25020 ∷ 20020 ∷ 15020 ∷ 10020 ∷ 5020 ∷ 20 ∷ 20 ∷ 10 ∷ 0 ∷ [])) (base + 1099511652796) ≡ both 5000 512 8 1073741824 1073742080 ++ Bits 16 25020 ∷ Bits 16 0 ∷ []
unfolding digits_within width_of corrector_index rest_events
opened = refl

pub back : time_events (points (1099511652796 ∷ 25020 ∷ 20020 ∷ 15020 ∷ 10020 ∷ 5020 ∷ 20 ∷ 20 ∷ 10 ∷ 0 ∷ [])) (base + 25030) ≡ time_symbol 0 5 ∷ both 5000 0 7 0 10
unfolding digits_within width_of corrector_index rest_events
back = refl

-- the third of the jumps is the third extreme difference, and the fourth sets the difference
pub third_extreme : extremes (points (15020 ∷ 10020 ∷ 5020 ∷ 20 ∷ 20 ∷ 10 ∷ 0 ∷ [])) 0 ≡ 3
unfolding digits_within width_of corrector_index rest_events
third_extreme = refl

pub not_set : difference (points (15020 ∷ 10020 ∷ 5020 ∷ 20 ∷ 20 ∷ 10 ∷ 0 ∷ [])) 0 ≡ 10
unfolding digits_within width_of corrector_index rest_events
not_set = refl

pub fourth_sets : difference (points (20020 ∷ 15020 ∷ 10020 ∷ 5020 ∷ 20 ∷ 20 ∷ 10 ∷ 0 ∷ [])) 0 ≡ 5000
unfolding digits_within width_of corrector_index rest_events
fourth_sets = refl

pub count_begins_anew : extremes (points (20020 ∷ 15020 ∷ 10020 ∷ 5020 ∷ 20 ∷ 20 ∷ 10 ∷ 0 ∷ [])) 0 ≡ 0
unfolding digits_within width_of corrector_index rest_events
count_begins_anew = refl

-- the new sequence is 1, and has no difference; the last point is in sequence 0 again
pub in_one : sequence (points (1099511652796 ∷ 25020 ∷ 20020 ∷ 15020 ∷ 10020 ∷ 5020 ∷ 20 ∷ 20 ∷ 10 ∷ 0 ∷ [])) ≡ 1
unfolding digits_within width_of corrector_index rest_events
in_one = refl

pub no_difference : difference (points (1099511652796 ∷ 25020 ∷ 20020 ∷ 15020 ∷ 10020 ∷ 5020 ∷ 20 ∷ 20 ∷ 10 ∷ 0 ∷ [])) 1 ≡ 0
unfolding digits_within width_of corrector_index rest_events
no_difference = refl

pub in_zero : sequence (points (25030 ∷ 1099511652796 ∷ 25020 ∷ 20020 ∷ 15020 ∷ 10020 ∷ 5020 ∷ 20 ∷ 20 ∷ 10 ∷ 0 ∷ [])) ≡ 0
unfolding digits_within width_of corrector_index rest_events
in_zero = refl

-- ---- 5,020 spelled as 499 times the difference and 10 more, which no writer does
abbrev pub foreign : List Point
foreign = point_with (base + 5020) (both 10 499 3 4990 5000) ∷ points (20 ∷ 20 ∷ 10 ∷ 0 ∷ [])

-- symbol 499 is not extreme, so the next four times have symbol 500 each, and the last of them sets the difference
pub foreign_first : time_events (points_after foreign ([])) (base + 10020) ≡ both 10 500 4 5000 5000
unfolding digits_within width_of corrector_index rest_events
foreign_first = refl

pub foreign_second : time_events (points_after foreign (10020 ∷ [])) (base + 15020) ≡ both 10 500 4 5000 5000
unfolding digits_within width_of corrector_index rest_events
foreign_second = refl

pub foreign_third : time_events (points_after foreign (15020 ∷ 10020 ∷ [])) (base + 20020) ≡ both 10 500 4 5000 5000
unfolding digits_within width_of corrector_index rest_events
foreign_third = refl

pub foreign_fourth : time_events (points_after foreign (20020 ∷ 15020 ∷ 10020 ∷ [])) (base + 25020) ≡ both 10 500 4 5000 5000
unfolding digits_within width_of corrector_index rest_events
foreign_fourth = refl

pub foreign_not_yet : difference (points_after foreign (20020 ∷ 15020 ∷ 10020 ∷ [])) 0 ≡ 10
unfolding digits_within width_of corrector_index rest_events
foreign_not_yet = refl

pub foreign_sets : difference (points_after foreign (25020 ∷ 20020 ∷ 15020 ∷ 10020 ∷ [])) 0 ≡ 5000
unfolding digits_within width_of corrector_index rest_events
foreign_sets = refl

-- ---- halves go away from 0: 5, 4, -5 and 15 by 10, and 5 by -10
pub half_up : difference_symbol 10 5 ≡ 1
half_up = refl

pub below_half : difference_symbol 10 4 ≡ 0
below_half = refl

pub half_down : difference_symbol 10 4294967291 ≡ 501
half_down = refl

pub half_more : difference_symbol 10 15 ≡ 2
half_more = refl

pub half_turned : difference_symbol 4294967286 5 ≡ 501
half_turned = refl

-- multiples end at 500 and at -10
pub most : difference_symbol 10 4990 ≡ 499
most = refl

pub more : difference_symbol 10 5010 ≡ 500
more = refl

pub nine_below : difference_symbol 10 4294967206 ≡ 509
nine_below = refl

pub ten_below : difference_symbol 10 4294967196 ≡ 510
ten_below = refl

pub more_below : difference_symbol 10 4294967186 ≡ 510
more_below = refl

-- the numbers that the definitions take from the code
full_is : FULL ≡ 512
full_is = refl

multi_is : MULTI ≡ 500
multi_is = refl

multi_minus_is : MULTI_MINUS ≡ 10
multi_minus_is = refl

total_is : TOTAL ≡ 516
total_is = refl

unchanged_is : UNCHANGED ≡ 511
unchanged_is = refl
