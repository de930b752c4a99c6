-- Values that compute: heads of each version, what they are refused for when some bytes are others, and heads that are
-- changed.
use Rattle.std.proofs.Common.{◌≡◌, ℕ, ◌+◌, ◌^◌, List, [], ◌∷◌, ◌++◌, replicate, codes, length, take, Option, Some, None, refl}
use Rattle.std.specs.List.{splice}
use Rattle.byteorder.specs.Endian.{little_bytes}
use Rattle.las_header.specs.declared.limits.TheConstants.{COUNTS_AT, COUNTS_SIZE, HEADER_BLOCK, HEADER_BLOCK_1_3, HEADER_BLOCK_1_4, LAST_FORMAT, LAST_MINOR, LASZIP_DESCRIPTION, LASZIP_RECORD_ID, LASZIP_USER_ID, LONG_COUNTS_AT, LONG_COUNTS_SIZE, MAX_CHUNK_POINTS, MAX_EXTRA, MAX_LASZIP_PAYLOAD, MAX_OFFSET, MAX_PLAIN_OFFSET, MIN_CHUNK_POINTS, POINT_RECORD, VLR_HEAD}
use Rattle.las_header.specs.declared.refusal.Refusal.{Refusal}
use Rattle.las_header.specs.declared.refusal.Refusal.TheVariants as cause
use Rattle.las_header.specs.Numbers.{number_at, with_number_at}
use Rattle.las_header.specs.Fields.{format_size, points_of, returns_of, long_returns_of}
use Rattle.las_header.specs.Vlrs.{vlrs_of, vlrs_end, laszip_vlrs_of}
use Rattle.las_header.specs.Counting.{short_bytes, long_bytes, counts_bytes, with_counts}
use Rattle.las_header.specs.Causes.{cause_number, cause_name}
use Rattle.las_header.specs.Refusals.{first_cause, causes_of}
use Rattle.las_header.specs.Plain.{laszip_vlr, with_vlr, plain_of, plain_head, records_of}

-- a head that counts some records of 20 bytes, from its version, VLRs and the bytes after them; the header block of LAS
-- 1.4 goes on with the second set of counts
abbrev pub head_of_version : (minor header_size points vlr_count : ℕ) → (rest : List ℕ) → List ℕ
head_of_version minor header_size points vlr_count rest =
    codes "LASF" ++ replicate 20 0 ++ (1 ∷ minor ∷ []) ++ replicate 68 0 ++ (little_bytes 2 header_size ++ little_bytes 4 (227 + length rest))
    ++ (little_bytes 4 vlr_count ++ (0 ∷ little_bytes 2 20)) ++ little_bytes 4 points ++ replicate 116 0 ++ rest

-- a plain LAS 1.2 head of 227 bytes
abbrev head : (points : ℕ) → List ℕ
head points = head_of_version 2 227 points 0 []

-- what LAS 1.4 adds: 8 bytes, the place and number of extended VLRs, the number of points, those by return
abbrev long_block : (extended points : ℕ) → List ℕ
long_block extended points = replicate 16 0 ++ little_bytes 4 extended ++ little_bytes 8 points ++ little_bytes 8 points ++ replicate 112 0

abbrev head_1_4 : (short extended long : ℕ) → List ℕ
head_1_4 short extended long = head_of_version 4 375 short 0 (long_block extended long)

abbrev point_record : List ℕ
point_record = 5 ∷ 0 ∷ 0 ∷ 0 ∷ 6 ∷ 0 ∷ 0 ∷ 0 ∷ 7 ∷ 0 ∷ 0 ∷ 0 ∷ 0 ∷ 0 ∷ 9 ∷ 2 ∷ 0 ∷ 0 ∷ 1 ∷ 0 ∷ []

lowest_byte_first : number_at 4 1 (9 ∷ 1 ∷ 2 ∷ 0 ∷ 0 ∷ 9 ∷ []) ≡ 513
unfolding number_at
lowest_byte_first = refl

written : with_number_at 2 1 258 (9 ∷ 9 ∷ 9 ∷ 9 ∷ []) ≡ 9 ∷ 2 ∷ 1 ∷ 9 ∷ []
written = refl

abbrev first_of : (file : List ℕ) → Option Refusal
first_of file = first_cause (causes_of file)

-- a file of one record that its header counts is accepted
accepted : first_of (head 1 ++ point_record) ≡ None
unfolding number_at
accepted = refl

cut_short : first_of (head 2 ++ point_record) ≡ Some cause.Count
unfolding number_at
cut_short = refl

goes_on : first_of (head 1 ++ point_record ++ 0 ∷ []) ≡ Some cause.Trailing
unfolding number_at
goes_on = refl

-- 226 bytes are no header block
short : first_of (replicate 226 0) ≡ Some cause.Short
unfolding number_at
short = refl

-- with two causes the first is named: format 4, and one record too few
first_is_named : first_of (splice (head 2) 104 105 (4 ∷ []) ++ point_record) ≡ Some cause.Format
unfolding number_at
first_is_named = refl

-- minor version 5
later_version : first_of (splice (head 1) 25 26 (5 ∷ []) ++ point_record) ≡ Some cause.Version
unfolding number_at
later_version = refl

-- LAS 1.3 needs a header size of 235
short_header : first_of (head_of_version 3 234 1 0 (replicate 8 0) ++ point_record) ≡ Some cause.HeaderSize
unfolding number_at
short_header = refl

the_head : plain_head (head 1 ++ point_record) ≡ head 1
unfolding number_at
the_head = refl

the_records : records_of (head 2 ++ point_record ++ point_record) ≡ point_record ∷ point_record ∷ []
unfolding number_at
the_records = refl

-- LAS 1.4: both sets of counts, the long one alone, both and different, an extended VLR, a header size of 374
both_sets : first_of (head_1_4 1 0 1 ++ point_record) ≡ None
unfolding number_at
both_sets = refl

long_alone : (first_of (head_1_4 0 0 1 ++ point_record) ≡ None) × (points_of (head_1_4 0 0 1) ≡ 1)
unfolding number_at
long_alone = (refl, refl)

counts_differ : first_of (head_1_4 1 0 2 ++ point_record) ≡ Some cause.PointCounts
unfolding number_at
counts_differ = refl

extended : first_of (head_1_4 1 1 1 ++ point_record) ≡ Some cause.Extended
unfolding number_at
extended = refl

short_1_4 : first_of (with_number_at 2 94 374 (head_1_4 1 0 1) ++ point_record) ≡ Some cause.HeaderSize
unfolding number_at
short_1_4 = refl

two_points : counts_bytes (record { points = 2; returns = 2 ∷ 0 ∷ 0 ∷ 0 ∷ 0 ∷ 0 ∷ 0 ∷ [] })
    ≡ 2 ∷ 0 ∷ 0 ∷ 0 ∷ 2 ∷ replicate 19 0
unfolding short_bytes
two_points = refl

counted_again : points_of (with_counts (record { points = 258; returns = 1 ∷ 2 ∷ 3 ∷ 4 ∷ 5 ∷ 6 ∷ 7 ∷ [] }) (head 1)) ≡ 258
unfolding short_bytes long_bytes number_at
counted_again = refl

returned_again : returns_of (with_counts (record { points = 258; returns = 1 ∷ 2 ∷ 3 ∷ 4 ∷ 5 ∷ 6 ∷ 7 ∷ [] }) (head 1)) ≡ 1 ∷ 2 ∷ 3 ∷ 4 ∷ 5 ∷ []
unfolding short_bytes long_bytes number_at
returned_again = refl

-- LAS 1.4 has the returns up to 15 too
long_again : long_returns_of (with_counts (record { points = 258; returns = 1 ∷ 2 ∷ 3 ∷ 4 ∷ 5 ∷ 6 ∷ 7 ∷ [] }) (head_1_4 1 0 1))
    ≡ 1 ∷ 2 ∷ 3 ∷ 4 ∷ 5 ∷ 6 ∷ 7 ∷ replicate 8 0
unfolding short_bytes long_bytes number_at
long_again = refl

-- the record lengths of the formats 0 to 3 in the LAS 1.2 specification
sizes : format_size 0 ∷ format_size 1 ∷ format_size 2 ∷ format_size 3 ∷ [] ≡ 20 ∷ 28 ∷ 26 ∷ 34 ∷ []
sizes = refl

trailing : (cause_number cause.Trailing ≡ 10) × (cause_name cause.Trailing ≡ codes "Trailing")
trailing = (refl, refl)

last : cause_number cause.NotPacked ≡ 27
last = refl

-- two VLRs of 3 and 40 bytes, the second a laszip VLR, and a gap of two bytes
abbrev vlrs : List ℕ
vlrs = replicate 20 0 ++ little_bytes 2 3 ++ replicate 35 7 ++ (laszip_vlr (replicate 40 9) ++ 5 ∷ 6 ∷ [])

abbrev packed_head : List ℕ
packed_head = splice (head_of_version 2 227 1 2 vlrs) 104 105 (128 ∷ [])

places : vlrs_of packed_head ≡ record { start = 227; length = 3 } ∷ record { start = 284; length = 40 } ∷ []
unfolding number_at
places = refl

laszip_places : (laszip_vlrs_of packed_head ≡ record { start = 284; length = 40 } ∷ []) × (vlrs_end packed_head ≡ 378)
unfolding number_at
laszip_places = (refl, refl)

-- without the laszip VLR, and with it again
plain_again : plain_of packed_head ≡ head_of_version 2 227 1 1 (replicate 20 0 ++ little_bytes 2 3 ++ replicate 35 7 ++ (5 ∷ 6 ∷ []))
unfolding number_at
plain_again = refl

packed_again : with_vlr (replicate 40 9) (plain_of packed_head) ≡ packed_head
unfolding number_at
packed_again = refl

-- a VLR of one byte more passes the offset
long_vlr : first_of (with_number_at 2 304 43 packed_head) ≡ Some cause.Vlrs
unfolding number_at
long_vlr = refl

-- ---- limits, as the standard and this program have them
last_minor : LAST_MINOR ≡ 4
last_minor = refl

most_extra_bytes : MAX_EXTRA ≡ 192
most_extra_bytes = refl

-- a laszip VLR of the greatest length fits after the head of a plain file
greatest_plain_offset : (MAX_PLAIN_OFFSET ≡ 16777104) × (MAX_PLAIN_OFFSET + (54 + 58) ≡ 2 ^ 24)
greatest_plain_offset = (refl, refl)

laszip_description : LASZIP_DESCRIPTION ≡ codes "laszip version 2 items" ++ replicate 10 0
laszip_description = refl

-- by which the laszip VLR is known
laszip_user_id : LASZIP_USER_ID ≡ codes "laszip encoded" ++ 0 ∷ 0 ∷ []
laszip_user_id = refl

laszip_record_id : LASZIP_RECORD_ID ≡ 22204
laszip_record_id = refl

-- what it begins with: two zeros, the user ID, and the record ID with its lowest byte first
laszip_front : take 20 (laszip_vlr []) ≡ 0 ∷ 0 ∷ codes "laszip encoded" ++ 0 ∷ 0 ∷ 188 ∷ 86 ∷ []
laszip_front = refl

-- the numbers that the definitions take from the code
counts_at_is : COUNTS_AT ≡ 107
counts_at_is = refl

counts_size_is : COUNTS_SIZE ≡ 24
counts_size_is = refl

header_block_is : HEADER_BLOCK ≡ 227
header_block_is = refl

header_block_1_3_is : HEADER_BLOCK_1_3 ≡ 235
header_block_1_3_is = refl

header_block_1_4_is : HEADER_BLOCK_1_4 ≡ 375
header_block_1_4_is = refl

last_format_is : LAST_FORMAT ≡ 3
last_format_is = refl

long_counts_at_is : LONG_COUNTS_AT ≡ 247
long_counts_at_is = refl

long_counts_size_is : LONG_COUNTS_SIZE ≡ 128
long_counts_size_is = refl

max_chunk_points_is : MAX_CHUNK_POINTS ≡ 250000
max_chunk_points_is = refl

max_laszip_payload_is : MAX_LASZIP_PAYLOAD ≡ 58
max_laszip_payload_is = refl

max_offset_is : MAX_OFFSET ≡ 16777216
max_offset_is = refl

min_chunk_points_is : MIN_CHUNK_POINTS ≡ 256
min_chunk_points_is = refl

point_record_is : POINT_RECORD ≡ 20
point_record_is = refl

vlr_head_is : VLR_HEAD ≡ 54
vlr_head_is = refl
