-- Which files are refused, and by which cause: the first condition that holds, in the order of the lists here.
-- The conditions of packed points follow in the crates that read them, and are joined to these lists.
use Rattle.std.specs.Prelude.{◌≡◌, ℕ, ◌+◌, ◌-◌, ◌*◌, ◌^◌, ◌==◌, nat_le, nat_lt, nat_eq, not, ◌&&◌, ◌||◌, Bool}
use Rattle.std.specs.Prelude.{if◌then◌else◌, List, [], ◌∷◌, ◌++◌, length, codes, take, Option, Some, None}
use Rattle.std.specs.List.{starts_with}
use Rattle.las_header.specs.declared.limits.TheConstants.{HEADER_BLOCK, LAST_MINOR, LAST_FORMAT, MAX_EXTRA}
use Rattle.las_header.specs.declared.refusal.Refusal.{Refusal}
use Rattle.las_header.specs.declared.refusal.Refusal.TheVariants as cause
use Rattle.las_header.specs.Fields.{major_of, minor_of, header_size_of, least_header_size, point_offset_of}
use Rattle.las_header.specs.Fields.{offset_limit, is_packed, format_of, format_size, record_length_of, has_long_counts}
use Rattle.las_header.specs.Fields.{extended_count_of, short_points_of, long_points_of, points_of, head_of}
use Rattle.las_header.specs.Vlrs.{vlrs_end, laszip_vlrs_of}

-- the first cause of a list whose condition holds
abbrev pub first_cause : List (Bool × Refusal) → Option Refusal
first_cause [] = None
first_cause (c ∷ cs) = if c.0 then Some c.1 else first_cause cs

-- Short: the file ends within the public header block of LAS 1.0.
abbrev pub is_short : (size : ℕ) → Bool
is_short size = nat_lt size HEADER_BLOCK

-- Magic: the file signature is another than `LASF`.
abbrev pub lacks_signature : (head : List ℕ) → Bool
lacks_signature head = not (starts_with nat_eq head (codes "LASF"))

-- Version: the major version is not 1, or the minor one is above 4.
abbrev pub has_other_version : (head : List ℕ) → Bool
has_other_version head = not (major_of head == 1) || nat_lt LAST_MINOR (minor_of head)

-- HeaderSize: the header size is below the length of the version's public header block.
abbrev pub has_short_header : (head : List ℕ) → Bool
has_short_header head = nat_lt (header_size_of head) (least_header_size (minor_of head))

-- Offset: the offset to the point data is below the header size, above the size of the file, or above its limit.
abbrev pub has_bad_offset : (head : List ℕ) → (size : ℕ) → Bool
has_bad_offset head size =
    nat_lt (point_offset_of head) (header_size_of head) || nat_lt size (point_offset_of head)
    || nat_lt (offset_limit head) (point_offset_of head)

-- Vlrs: the VLRs, one after another from the header size on, pass the offset to the point data.
abbrev pub has_long_vlrs : (head : List ℕ) → Bool
has_long_vlrs head = nat_lt (point_offset_of head) (vlrs_end head)

-- Format: the point data format is above 3.
abbrev pub has_other_format : (head : List ℕ) → Bool
has_other_format head = nat_lt LAST_FORMAT (format_of head)

-- RecordLength: the record length is below the size of the format, or above that size plus 192.
abbrev pub has_bad_record_length : (head : List ℕ) → Bool
has_bad_record_length head =
    nat_lt (record_length_of head) (format_size (format_of head))
    || nat_lt (format_size (format_of head) + MAX_EXTRA) (record_length_of head)

-- Extended: LAS 1.4, and there are extended VLRs.
abbrev pub has_extended_vlrs : (head : List ℕ) → Bool
has_extended_vlrs head = has_long_counts head && not (extended_count_of head == 0)

-- PointCounts: LAS 1.4, and the long number of points is 2^32 or more, or both numbers of points are there and differ.
abbrev pub has_bad_counts : (head : List ℕ) → Bool
has_bad_counts head =
    has_long_counts head
    && (nat_le (2 ^ 32) (long_points_of head)
    || (not (short_points_of head == 0) && not (long_points_of head == 0)
    && not (short_points_of head == long_points_of head)))

-- how many bytes the point records take that the header counts
abbrev pub counted_size : (head : List ℕ) → ℕ
counted_size head = record_length_of head * points_of head

-- Count: a plain file ends before the last record that the header counts.
abbrev pub ends_early : (head : List ℕ) → (size : ℕ) → Bool
ends_early head size = not (is_packed head) && nat_lt (size - point_offset_of head) (counted_size head)

-- Trailing: a plain file goes on after the last record that the header counts.
abbrev pub goes_on : (head : List ℕ) → (size : ℕ) → Bool
goes_on head size = not (is_packed head) && nat_lt (counted_size head) (size - point_offset_of head)

-- StrayVlr: a plain file has a laszip VLR.
abbrev pub has_stray_vlr : (head : List ℕ) → Bool
has_stray_vlr head = not (is_packed head) && nat_lt 0 (length (laszip_vlrs_of head))

-- the conditions that the first 227 bytes of a file decide, in order
abbrev pub front_causes : (front : List ℕ) → (size : ℕ) → List (Bool × Refusal)
front_causes front size =
    (is_short size, cause.Short) ∷ (lacks_signature front, cause.Magic) ∷ (has_other_version front, cause.Version)
    ∷ (has_short_header front, cause.HeaderSize) ∷ (has_bad_offset front size, cause.Offset) ∷ []

-- the conditions that the bytes before the point data decide, in order
abbrev pub head_causes : (head : List ℕ) → (size : ℕ) → List (Bool × Refusal)
head_causes head size =
    (has_long_vlrs head, cause.Vlrs) ∷ (has_other_format head, cause.Format)
    ∷ (has_bad_record_length head, cause.RecordLength)
    ∷ (has_extended_vlrs head, cause.Extended) ∷ (has_bad_counts head, cause.PointCounts)
    ∷ (ends_early head size, cause.Count)
    ∷ (goes_on head size, cause.Trailing) ∷ (has_stray_vlr head, cause.StrayVlr) ∷ []

-- the conditions of a file that its first bytes and its head decide, in order
abbrev pub causes_of : (file : List ℕ) → List (Bool × Refusal)
causes_of file = front_causes file (length file) ++ head_causes (head_of file) (length file)

-- The first 227 bytes of a file decide what the file does.
abbrev pub FrontDecides : Type 0
FrontDecides = (file : List ℕ) (size : ℕ) → front_causes (take HEADER_BLOCK file) size ≡ front_causes file size

-- one cause, or else the other
abbrev pub or_else : Option Refusal → Option Refusal → Option Refusal
or_else None other = other
or_else (Some cause) other = Some cause

-- The first cause of two joined lists is that of the first list, or else that of the second.
abbrev pub FirstOfBoth : Type 0
FirstOfBoth = (xs ys : List (Bool × Refusal)) → first_cause (xs ++ ys) ≡ or_else (first_cause xs) (first_cause ys)
