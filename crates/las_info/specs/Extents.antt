-- The least and the greatest raw coordinates of records.
use Rattle.std.specs.Prelude.{ℕ, ℤ, pos, List, [], ◌∷◌, map, fold, slice_index_or, Option, Some, None}
use Rattle.std.specs.Int.{int_max, int_min}
use Rattle.las_points.specs.Record.{x_of, y_of, z_of}
use Rattle.las_info.specs.declared.extents.Extents.{Extents}
use Rattle.las_info.specs.declared.extents.Range.{Range}

-- the least and the greatest of a number and others
abbrev pub range_of : (number : ℤ) → (others : List ℤ) → Range
range_of number others = record { low = fold int_min number others; high = fold int_max number others }

-- of each coordinate of some records, if there are any
abbrev pub extents_of : (records : List (List ℕ)) → Option Extents
extents_of [] = None
extents_of (p ∷ records) = Some record {
  x = range_of (x_of p) (map x_of records);
  y = range_of (y_of p) (map y_of records);
  z = range_of (z_of p) (map z_of records);
}

-- a range with one number more
abbrev pub widened : Range → (number : ℤ) → Range
widened range number = record { low = int_min range.low number; high = int_max range.high number }

-- extents with one record more
abbrev pub extents_with : Option Extents → (point : List ℕ) → Option Extents
extents_with None point = extents_of (point ∷ [])
extents_with (Some extents) point = Some record {
  x = widened extents.x (x_of point);
  y = widened extents.y (y_of point);
  z = widened extents.z (z_of point);
}

-- a range whose ends stand in one lane of the least numbers and of the greatest
abbrev pub lane_range : (low high : List ℤ) → (lane : ℕ) → Range
lane_range low high lane = record { low = slice_index_or low lane (pos 0); high = slice_index_or high lane (pos 0) }

-- extents whose ends stand in lanes: x in the first, y in the second and z in the third
abbrev pub extents_in : (low high : List ℤ) → Extents
extents_in low high = record { x = lane_range low high 0; y = lane_range low high 1; z = lane_range low high 2 }
