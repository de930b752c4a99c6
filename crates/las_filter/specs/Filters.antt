-- Which records a filter keeps, by the fields of the record as it was read (LAStools, options of `las2las`).
use Rattle.std.specs.Prelude.{ℕ, Bool, not, ◌&&◌, nat_le, List}
use Rattle.std.specs.List.{list_all}
use Rattle.las_points.specs.Record.{class_of, intensity_of, return_number_of, returns_of_pulse}
use Rattle.las_filter.specs.Masks.{has_bit}
use Rattle.las_filter.specs.declared.keep.Keep.{Keep}
use Rattle.las_filter.specs.declared.keep.Keep.TheVariants.{Classes, DropClasses, Returns, DropReturns, First, Last}
use Rattle.las_filter.specs.declared.keep.Keep.TheVariants.{Intensity, NotBelow, NotAbove}

-- a filter holds of a record
abbrev pub keeps : Keep → List ℕ → Bool
keeps (Classes mask) point = has_bit mask (class_of point)
keeps (DropClasses mask) point = not (has_bit mask (class_of point))
keeps (Returns mask) point = has_bit mask (return_number_of point)
keeps (DropReturns mask) point = not (has_bit mask (return_number_of point))
keeps First point = nat_le (return_number_of point) 1
keeps Last point = nat_le (returns_of_pulse point) (return_number_of point)
keeps (Intensity low high) point = nat_le low (intensity_of point) && nat_le (intensity_of point) high
keeps (NotBelow least) point = nat_le least (intensity_of point)
keeps (NotAbove most) point = nat_le (intensity_of point) most

-- all filters hold of a record
abbrev pub keeps_all : List Keep → List ℕ → Bool
keeps_all filters point = list_all (λ filter. keeps filter point) filters
