-- A point's fields, what its flag byte says of returns, and look-ups in the earlier points of its chunk, the latest one
-- first.
use Rattle.std.specs.Prelude.{ℕ, ℤ, pos, ◌+◌, ◌-◌, ◌*◌, ◌/◌, ◌%◌, ◌==◌, ◌<◌, if◌then◌else◌, List, [], ◌∷◌, map, drop}
use Rattle.std.specs.Prelude.{slice_index, FitsSigned}
use Rattle.std.specs.List.{filter, zip}
use Rattle.std.specs.Int.{w32, int_wrapping_sub}
use Rattle.las_points.specs.Record.{x_of, y_of, z_of, intensity_of, flags_of, class_byte_of, user_of, source_of}
use Rattle.laz_point10.specs.declared.point.Point.{Point}
use Rattle.laz_point10.specs.declared.history.Predictions.{Predictions}
use Rattle.laz_point10.specs.Medians.{middle, median_of}

-- The point in the 20 bytes of a record.
abbrev pub point_at : List ℕ → Point
point_at part =
    record {
      x = x_of part;
      y = y_of part;
      z = z_of part;
      intensity = intensity_of part;
      flags = flags_of part;
      classification = class_byte_of part;
      scan_angle = slice_index part 16;
      user_data = user_of part;
      point_source = source_of part;
    }

-- The fields hold what a record can.
pub record IsPoint (point : Point) : Type 0 where
  pub x : FitsSigned w32 point.x
  pub y : FitsSigned w32 point.y
  pub z : FitsSigned w32 point.z
  pub intensity : point.intensity < 65536
  pub flags : point.flags < 256
  pub classification : point.classification < 256
  pub scan_angle : point.scan_angle < 256
  pub user_data : point.user_data < 256
  pub point_source : point.point_source < 65536

-- ---- what a flag byte says

-- The return number, and the number of returns of the pulse.
abbrev pub return_number : ℕ → ℕ
return_number flags = flags % 8

abbrev pub number_of_returns : ℕ → ℕ
number_of_returns flags = flags / 8 % 8

-- The scan direction bit.
abbrev pub direction_bit : ℕ → ℕ
direction_bit flags = flags / 64 % 2

-- LASzip's map of returns: a row for each number of returns, and in it a number for each return number.
abbrev pub map_rows : List ℕ
map_rows =
    15 ∷ 14 ∷ 13 ∷ 12 ∷ 11 ∷ 10 ∷ 9 ∷ 8
    ∷ 14 ∷ 0 ∷ 1 ∷ 3 ∷ 6 ∷ 10 ∷ 10 ∷ 9
    ∷ 13 ∷ 1 ∷ 2 ∷ 4 ∷ 7 ∷ 11 ∷ 11 ∷ 10
    ∷ 12 ∷ 3 ∷ 4 ∷ 5 ∷ 8 ∷ 12 ∷ 12 ∷ 11
    ∷ 11 ∷ 6 ∷ 7 ∷ 8 ∷ 9 ∷ 13 ∷ 13 ∷ 12
    ∷ 10 ∷ 10 ∷ 11 ∷ 12 ∷ 13 ∷ 14 ∷ 14 ∷ 13
    ∷ 9 ∷ 10 ∷ 11 ∷ 12 ∷ 13 ∷ 14 ∷ 15 ∷ 14
    ∷ 8 ∷ 9 ∷ 10 ∷ 11 ∷ 12 ∷ 13 ∷ 14 ∷ 15
    ∷ []

-- Where the map has a flag byte: 0 to 15.
unfoldable pub return_map : ℕ → ℕ
return_map flags = slice_index map_rows (8 * number_of_returns flags + return_number flags)

-- How far the return number is from the number of returns: 0 to 7.
unfoldable pub return_level : ℕ → ℕ
return_level flags = (number_of_returns flags - return_number flags) + (return_number flags - number_of_returns flags)

-- 1 if the pulse has one return, else 0.
unfoldable pub one_return : ℕ → ℕ
one_return flags = if number_of_returns flags == 1 then 1 else 0

-- ---- look-ups in the earlier points

-- The first of a list, or a given value if there is none.
abbrev pub latest_or : {X : Type 0} → X → List X → X
latest_or d [] = d
latest_or d (x ∷ xs) = x

-- The point without any bit set, which stands for that before a chunk's first.
abbrev pub zero_point : Point
zero_point = record {
  x = pos 0;
  y = pos 0;
  z = pos 0;
  intensity = 0;
  flags = 0;
  classification = 0;
  scan_angle = 0;
  user_data = 0;
  point_source = 0;
}

abbrev pub latest_point : List Point → Point
latest_point points = latest_or zero_point points

-- Each point after the chunk's first, with the point before it.
abbrev pub steps : List Point → List (Point × Point)
steps points = zip points (drop 1 points)

-- Those whose point has this number in the map, or this level.
abbrev pub steps_at : (ℕ → ℕ) → ℕ → List Point → List (Point × Point)
steps_at key n points = filter (λ s. key s.0.flags == n) (steps points)

-- The last intensity of m: that of the latest point after the first with m in the map, or 0.
abbrev pub last_intensity : List Point → ℕ → ℕ
last_intensity points m = latest_or 0 (map (λ s. s.0.intensity) (steps_at return_map m points))

-- The last height of a level: that of the latest point after the first with this level, or 0.
abbrev pub last_height : List Point → ℕ → ℤ
last_height points level = latest_or (pos 0) (map (λ s. s.0.z) (steps_at return_level level points))

-- The differences of x, and of y, to the point before, over the points after the first with m in the map.
abbrev pub x_steps : List Point → ℕ → List ℤ
x_steps points m = map (λ s. int_wrapping_sub w32 s.0.x s.1.x) (steps_at return_map m points)

abbrev pub y_steps : List Point → ℕ → List ℤ
y_steps points m = map (λ s. int_wrapping_sub w32 s.0.y s.1.y) (steps_at return_map m points)

-- What earlier points predict of a point with this flag byte.
abbrev pub predictions_of : List Point → ℕ → Predictions
predictions_of points flags =
    record {
      previous = latest_point points;
      intensity = last_intensity points (return_map flags);
      dx = middle (median_of (x_steps points (return_map flags)));
      dy = middle (median_of (y_steps points (return_map flags)));
      z = last_height points (return_level flags);
    }
