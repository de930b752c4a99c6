-- The fields of a point record by their places (LAS 1.2 specification, "Point Data Record Format 0" to "3").
use Rattle.std.specs.Prelude.{◌≡◌, ◌⊎◌, ◌==◌, if◌then◌else◌, ℕ, ℤ, ◌+◌, ◌*◌, ◌/◌, ◌%◌, List, slice_index, slice_set}
use Rattle.std.specs.Int.{w8, w32, cast_signed, cast_unsigned}
use Rattle.las_header.specs.declared.limits.TheConstants.{POINT_RECORD}
use Rattle.las_header.specs.Numbers.{number_at, with_number_at}

-- the coordinates: signed numbers of 32 bits, before scale and offset
abbrev pub x_of : List ℕ → ℤ
x_of point = cast_signed w32 (number_at 4 0 point)

abbrev pub y_of : List ℕ → ℤ
y_of point = cast_signed w32 (number_at 4 4 point)

abbrev pub z_of : List ℕ → ℤ
z_of point = cast_signed w32 (number_at 4 8 point)

abbrev pub intensity_of : List ℕ → ℕ
intensity_of point = number_at 2 12 point

-- return number, number of returns, scan direction and edge of flight line, in one byte
abbrev pub flags_of : List ℕ → ℕ
flags_of point = slice_index point 14

abbrev pub return_number_of : List ℕ → ℕ
return_number_of point = flags_of point % 8

abbrev pub returns_of_pulse : List ℕ → ℕ
returns_of_pulse point = flags_of point / 8 % 8

abbrev pub direction_of : List ℕ → ℕ
direction_of point = flags_of point / 64 % 2

-- the classification byte: the class in its low five bits, then the three class flags
abbrev pub class_byte_of : List ℕ → ℕ
class_byte_of point = slice_index point 15

abbrev pub class_of : List ℕ → ℕ
class_of point = class_byte_of point % 32

abbrev pub angle_of : List ℕ → ℤ
angle_of point = cast_signed w8 (slice_index point 16)

abbrev pub user_of : List ℕ → ℕ
user_of point = slice_index point 17

abbrev pub source_of : List ℕ → ℕ
source_of point = number_at 2 18 point

-- the formats with a GPS time, after the fields of format 0
abbrev pub HasTime : ℕ → Type 0
HasTime format = (format ≡ 1) ⊎ (format ≡ 3)

-- the GPS time, as the bits of its double
abbrev pub time_of : List ℕ → ℕ
time_of point = number_at 8 POINT_RECORD point

-- the formats with colours, after the fields of format 0 and the time if there is one
abbrev pub HasColours : ℕ → Type 0
HasColours format = (format ≡ 2) ⊎ (format ≡ 3)

abbrev pub colours_at : (format : ℕ) → ℕ
colours_at format = if format == 2 then POINT_RECORD else POINT_RECORD + 8

-- red, green and blue
abbrev pub colours_of : (format : ℕ) → List ℕ → ℕ × ℕ × ℕ
colours_of format point =
    let at = colours_at format in
    (number_at 2 at point, number_at 2 (at + 2) point, number_at 2 (at + 4) point)

-- the record with another value of a field, and every other byte as it was
abbrev pub with_signed_at : (at : ℕ) → ℤ → List ℕ → List ℕ
with_signed_at at value point = with_number_at 4 at (cast_unsigned w32 value) point

abbrev pub with_class : ℕ → List ℕ → List ℕ
with_class class point = slice_set point 15 (class_byte_of point / 32 * 32 + class)

abbrev pub with_user : ℕ → List ℕ → List ℕ
with_user value point = slice_set point 17 value
