-- The fields of the public header block by their places (LAS specification 1.0 to 1.4, "Public Header Block").
use Rattle.std.specs.Prelude.{ℕ, ◌+◌, ◌*◌, ◌/◌, ◌%◌, ◌==◌, nat_le, nat_lt, ◌&&◌, Bool, if◌then◌else◌, List, take}
use Rattle.std.specs.Prelude.{slice_index}
use Rattle.las_header.specs.declared.limits.TheConstants.{HEADER_BLOCK, HEADER_BLOCK_1_3, HEADER_BLOCK_1_4}
use Rattle.las_header.specs.declared.limits.TheConstants.{POINT_RECORD, MAX_OFFSET, MAX_PLAIN_OFFSET}
use Rattle.las_header.specs.Numbers.{number_at, numbers_at}

-- version: the major number, then the minor one
abbrev pub major_of : List ℕ → ℕ
major_of head = slice_index head 24

abbrev pub minor_of : List ℕ → ℕ
minor_of head = slice_index head 25

-- header size, in bytes
abbrev pub header_size_of : List ℕ → ℕ
header_size_of head = number_at 2 94 head

-- the least header size of a minor version: the length of its public header block
abbrev pub least_header_size : ℕ → ℕ
least_header_size minor =
    if nat_lt minor 3 then HEADER_BLOCK else (if minor == 3 then HEADER_BLOCK_1_3 else HEADER_BLOCK_1_4)

-- offset to point data: where the first point record begins
abbrev pub point_offset_of : List ℕ → ℕ
point_offset_of head = number_at 4 96 head

-- number of variable-length records (VLRs)
abbrev pub vlr_count_of : List ℕ → ℕ
vlr_count_of head = number_at 4 100 head

-- the point data format byte; LASzip sets its bit 7 if the points are packed
abbrev pub format_byte_of : List ℕ → ℕ
format_byte_of head = slice_index head 104

abbrev pub is_packed : List ℕ → Bool
is_packed head = nat_le 128 (format_byte_of head)

-- the point data format without that bit
abbrev pub format_of : List ℕ → ℕ
format_of head = format_byte_of head % 128

-- the greatest offset to point data
abbrev pub offset_limit : List ℕ → ℕ
offset_limit head = if is_packed head then MAX_OFFSET else MAX_PLAIN_OFFSET

-- point data record length, in bytes
abbrev pub record_length_of : List ℕ → ℕ
record_length_of head = number_at 2 105 head

-- the length of a point record of each format, in bytes, before any extra bytes
abbrev pub format_size : ℕ → ℕ
format_size format = POINT_RECORD + 8 * (format % 2) + 6 * (format / 2)

-- the formats, of 0 to 3, whose records have a GPS time, and those whose records have colours
abbrev pub has_time : (format : ℕ) → Bool
has_time format = format % 2 == 1

abbrev pub has_colours : (format : ℕ) → Bool
has_colours format = nat_le 2 format

-- number of points by return, for the returns 1 to 5
abbrev pub returns_of : List ℕ → List ℕ
returns_of head = numbers_at 4 5 111 head

-- LAS 1.4 alone: number of extended VLRs
abbrev pub extended_count_of : List ℕ → ℕ
extended_count_of head = number_at 4 243 head

-- LAS 1.4 has a second set of counts, of eight bytes each
abbrev pub has_long_counts : List ℕ → Bool
has_long_counts head = minor_of head == 4

-- the number of point records in each set; the one of four bytes is called the legacy number by LAS 1.4
abbrev pub short_points_of : List ℕ → ℕ
short_points_of head = number_at 4 107 head

abbrev pub long_points_of : List ℕ → ℕ
long_points_of head = number_at 8 247 head

-- LAS 1.4 alone: number of points by return, for the returns 1 to 15
abbrev pub long_returns_of : List ℕ → List ℕ
long_returns_of head = numbers_at 8 15 255 head

-- number of point records: LAS 1.4 leaves the short number at 0 if it uses the long one alone
abbrev pub points_of : List ℕ → ℕ
points_of head = if has_long_counts head
    && (short_points_of head == 0) then long_points_of head else short_points_of head

-- the bytes of a file before the point data
abbrev pub head_of : (file : List ℕ) → List ℕ
head_of file = take (point_offset_of file) file
