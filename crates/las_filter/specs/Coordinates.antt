-- The coordinates of a record at another place.
use Rattle.std.specs.Prelude.{ℕ, ℤ, ◌+ℤ◌, pos, negsuc, Bool, nat_lt, ◌^◌, if◌then◌else◌, List, Option, Some, None}
use Rattle.las_points.specs.Record.{x_of, y_of, z_of, with_signed_at}

-- a number is in the range of a coordinate, signed of 32 bits
abbrev pub is_coordinate : ℤ → Bool
is_coordinate (pos n) = nat_lt n (2 ^ 31)
is_coordinate (negsuc n) = nat_lt n (2 ^ 31)

-- a coordinate, or none if it is out of range
abbrev pub in_range : ℤ → Option ℤ
in_range coordinate = if is_coordinate coordinate then Some coordinate else None

-- the record at other coordinates, or none if one of them is out of range
unfoldable pub placed : Option ℤ → Option ℤ → Option ℤ → List ℕ → Option (List ℕ)
placed (Some x) (Some y) (Some z) point = Some (with_signed_at 8 z (with_signed_at 4 y (with_signed_at 0 x point)))
placed _ _ _ point = None

-- the record with numbers added to its coordinates
abbrev pub translated : ℤ → ℤ → ℤ → List ℕ → Option (List ℕ)
translated x y z point =
    placed (in_range (x_of point +ℤ x)) (in_range (y_of point +ℤ y)) (in_range (z_of point +ℤ z)) point
