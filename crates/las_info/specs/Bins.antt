-- The bins of a record, one rule for each tap.
use Rattle.std.specs.Prelude.{ℕ, ◌/◌, List}
use Rattle.las_points.specs.Record.{intensity_of}

-- 256 intensities have one bin
abbrev pub intensity_bin : (point : List ℕ) → ℕ
intensity_bin point = intensity_of point / 256
