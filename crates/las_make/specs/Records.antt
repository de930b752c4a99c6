-- The records that are made: each is fixed by its number and the numbers that are drawn for it.
use Rattle.std.specs.Prelude.{ℕ, ◌+◌, ◌*◌, ◌/◌, ◌%◌, ◌^◌, if◌then◌else◌, List, [], ◌∷◌, ◌++◌, map}
use Rattle.std.specs.List.{range_with_len}
use Rattle.byteorder.specs.Endian.{little_bytes}
use Rattle.las_make.specs.declared.drawing.Draws.{Draws}
use Rattle.las_header.specs.Fields.{has_colours, has_time}

-- the coordinates: rows of 1,000 records that stand 10 apart, each up to 15 off its place, at heights of 5,000 to 5,063
abbrev pub x_made : (k : ℕ) → Draws → ℕ
x_made k d = 10 * (k % 1000) + d.x % 16

abbrev pub y_made : (k : ℕ) → Draws → ℕ
y_made k d = 10 * (k / 1000) + d.y % 16

abbrev pub z_made : Draws → ℕ
z_made d = 5000 + d.z % 64

abbrev pub intensity_made : Draws → ℕ
intensity_made d = d.intensity % 4096

-- the number of returns of the pulse, 1 to 4, and the return number within it
abbrev pub returns_made : Draws → ℕ
returns_made d = 1 + d.returns % 4

abbrev pub return_made : Draws → ℕ
return_made d = 1 + d.number % returns_made d

-- the flag byte: the scan direction changes with each row
abbrev pub flags_made : (k : ℕ) → Draws → ℕ
flags_made k d = return_made d + 8 * returns_made d + 64 * (k / 1000 % 2)

-- the class, 1 to 6, with no class flag
abbrev pub class_made : Draws → ℕ
class_made d = 1 + d.class % 6

-- the fields of format 0: scan angle and user data are 0, and the point source is 1
unfoldable pub base_fields : (k : ℕ) → Draws → List ℕ
base_fields k d =
    little_bytes 4 (x_made k d) ++ little_bytes 4 (y_made k d) ++ little_bytes 4 (z_made d)
    ++ little_bytes 2 (intensity_made d) ++ flags_made k d ∷ class_made d ∷ 0 ∷ 0 ∷ [] ++ little_bytes 2 1

-- the GPS time: the bits of a double that grow from 2.0 on
abbrev pub time_field : (format k : ℕ) → List ℕ
time_field format k = if has_time format then little_bytes 8 (2 ^ 62 + 40000 * k) else []

-- red, green and blue, which is red again: each fills an upper byte
abbrev pub red_made : Draws → ℕ
red_made d = 256 * (d.colours % 256)

abbrev pub green_made : Draws → ℕ
green_made d = 256 * (d.colours / 256 % 256)

abbrev pub colour_fields : (format : ℕ) → Draws → List ℕ
colour_fields format d =
    if has_colours format
    then little_bytes 2 (red_made d) ++ little_bytes 2 (green_made d) ++ little_bytes 2 (red_made d) else []

-- the extra bytes count up from the number of the record
abbrev pub extra_bytes : (extra k : ℕ) → List ℕ
extra_bytes extra k = map (λ j. (k + j) % 256) (range_with_len 0 extra)

-- a record as its bytes
unfoldable pub record_bytes : (format extra k : ℕ) → Draws → List ℕ
record_bytes format extra k d =
    base_fields k d ++ time_field format k ++ colour_fields format d ++ extra_bytes extra k
