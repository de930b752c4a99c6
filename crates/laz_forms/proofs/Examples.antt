-- Values that compute: a file of one record and one of none, packed; blocks and pieces; and where a table stands.
use Rattle.std.proofs.Common.{◌≡◌, ℕ, true, false, List, [], ◌∷◌, ◌++◌, replicate, codes, length, take, drop, Some, None, refl}
use Rattle.byteorder.specs.Endian.{little_bytes}
use Rattle.laz_range.specs.Span.{renormal_step, subspan}
use Rattle.laz_models.specs.BitDist.{bit_counts_at}
use Rattle.laz_models.specs.Counting.{starts_of}
use Rattle.laz_models.specs.Cycles.{cycle_in}
use Rattle.laz_models.specs.Dist.{counts_at}
use Rattle.laz_integer.specs.Corrector.{digits_within, width_of, corrector_index}
use Rattle.laz_integer.specs.Integer.{rest_events}
use Rattle.las_header.specs.declared.refusal.Refusal.TheVariants as cause
use Rattle.las_header.specs.Counting.{short_bytes, long_bytes}
use Rattle.las_header.specs.Numbers.{number_at}
use Rattle.las_header.specs.Refusals.{first_cause}
use Rattle.laz_forms.specs.declared.limits.TheConstants.{PLAIN_BLOCK}
use Rattle.laz_forms.specs.Hands.{chunks_packed, hands_for}
use Rattle.laz_forms.specs.Outputs.{finished, stopped}
use Rattle.laz_forms.specs.Packing.{blocks_of, packed_file}
use Rattle.laz_forms.specs.Pieces.{pieces_from, plain_pieces, whole_piece}
use Rattle.laz_forms.specs.Refusing.{chunks_place, has_bad_pointer, table_end, table_part, table_place, tested_causes}

-- a LAS 1.2 head of 227 bytes and format 0, whose points are first returns
abbrev pub head : (offset vlrs format points : ℕ) → List ℕ
head offset vlrs format points =
    codes "LASF" ++ replicate 20 0 ++ (1 ∷ 2 ∷ []) ++ replicate 68 0 ++ little_bytes 2 227 ++ little_bytes 4 offset
    ++ little_bytes 4 vlrs ++ (format ∷ 20 ∷ 0 ∷ []) ++ little_bytes 4 points ++ little_bytes 4 points ++ replicate 112 0

abbrev pub point : List ℕ
point = 5 ∷ 0 ∷ 0 ∷ 0 ∷ 6 ∷ 0 ∷ 0 ∷ 0 ∷ 7 ∷ 0 ∷ 0 ∷ 0 ∷ 0 ∷ 0 ∷ 9 ∷ 0 ∷ 0 ∷ 0 ∷ 0 ∷ 0 ∷ []

-- its laszip VLR, with chunks of 50,000 points
abbrev pub vlr : List ℕ
vlr =
    (0 ∷ 0 ∷ []) ++ codes "laszip encoded" ++ (0 ∷ 0 ∷ 188 ∷ 86 ∷ 40 ∷ 0 ∷ []) ++ codes "laszip version 2 items" ++ replicate 10 0
    ++ (2 ∷ 0 ∷ 0 ∷ 0 ∷ 2 ∷ 2 ∷ 0 ∷ 0 ∷ 0 ∷ 0 ∷ 0 ∷ 0 ∷ 80 ∷ 195 ∷ 0 ∷ 0 ∷ []) ++ replicate 16 255
    ++ (1 ∷ 0 ∷ 6 ∷ 0 ∷ 20 ∷ 0 ∷ 2 ∷ 0 ∷ [])

-- the record, and the end of a stream without events
abbrev pub chunk : List ℕ
chunk = point ++ (1 ∷ 0 ∷ 0 ∷ 0 ∷ [])

-- one chunk of 24 bytes
abbrev pub table : List ℕ
table = 0 ∷ 0 ∷ 0 ∷ 0 ∷ 1 ∷ 0 ∷ 0 ∷ 0 ∷ 44 ∷ 92 ∷ 0 ∷ 0 ∷ 0 ∷ []

-- the file of one record, and its packed form with this pointer
abbrev pub one : List ℕ
one = head 227 0 0 1 ++ point

abbrev pub one_packed : (pointer : List ℕ) → List ℕ
one_packed pointer = head 321 1 128 1 ++ vlr ++ pointer ++ chunk ++ table

abbrev pub pointer : List ℕ
pointer = 97 ∷ 1 ∷ 0 ∷ 0 ∷ 0 ∷ 0 ∷ 0 ∷ 0 ∷ []

-- ---- packed files
packed : packed_file one 50000 ≡ one_packed pointer
unfolding number_at digits_within width_of corrector_index rest_events renormal_step subspan starts_of counts_at cycle_in bit_counts_at
packed = refl

none_packed : packed_file (head 227 0 0 0) 50000 ≡ head 321 1 128 0 ++ vlr ++ (73 ∷ 1 ∷ 0 ∷ 0 ∷ 0 ∷ 0 ∷ 0 ∷ 0 ∷ []) ++ replicate 8 0
unfolding number_at
none_packed = refl

sizes : (length one ≡ 247) × (length (one_packed pointer) ≡ 366) × (length (packed_file (head 227 0 0 0) 50000) ≡ 337)
unfolding number_at
sizes = (refl, refl, refl)

-- the parts of the 366 bytes, by their places
parts : (take 8 (drop 321 (one_packed pointer)) ≡ little_bytes 8 353) × (take 24 (drop 329 (one_packed pointer)) ≡ chunk)
    × (drop 353 (one_packed pointer) ≡ table)
parts = (refl, refl, refl)

-- ---- outputs
-- from a head that counts no record: as the records are pushed, and when it is stopped before a chunk is full
finished_packed : finished (record { name = []; head = head 227 0 0 0; chunk = Some 50000; counted = true }) point ≡ one_packed pointer
unfolding number_at short_bytes long_bytes digits_within width_of corrector_index rest_events renormal_step subspan starts_of counts_at cycle_in bit_counts_at
finished_packed = refl

finished_plain : finished (record { name = []; head = head 227 0 0 0; chunk = None; counted = true }) point ≡ one
unfolding number_at short_bytes long_bytes
finished_plain = refl

stopped_packed : stopped (record { name = []; head = head 227 0 0 1; chunk = Some 50000; counted = false }) point ≡ head 321 1 128 1 ++ vlr ++ little_bytes 8 321
unfolding number_at
stopped_packed = refl

-- ---- blocks and pieces
last_block : blocks_of 2 (1 ∷ 2 ∷ 3 ∷ 4 ∷ 5 ∷ []) ≡ (1 ∷ 2 ∷ []) ∷ (3 ∷ 4 ∷ []) ∷ (5 ∷ []) ∷ []
last_block = refl

full_blocks : blocks_of 2 (1 ∷ 2 ∷ 3 ∷ 4 ∷ []) ≡ (1 ∷ 2 ∷ []) ∷ (3 ∷ 4 ∷ []) ∷ []
full_blocks = refl

no_block : blocks_of 2 [] ≡ []
no_block = refl

three_pieces : pieces_from 10 (2 ∷ 2 ∷ 1 ∷ []) (44 ∷ 31 ∷ 24 ∷ [])
    ≡ whole_piece 10 44 2 ∷ whole_piece 54 31 2 ∷ whole_piece 85 24 1 ∷ []
three_pieces = refl

one_piece : plain_pieces one ≡ whole_piece 227 20 1 ∷ []
unfolding number_at
one_piece = refl

-- ---- where a table stands
after_the_chunk : (chunks_place (one_packed pointer) ≡ 329) × (table_place (one_packed pointer) ≡ 353) × (table_end (one_packed pointer) ≡ 366)
    × (table_part (one_packed pointer) ≡ table)
unfolding number_at
after_the_chunk = (refl, refl, refl, refl)

-- eight bytes 255, and the pointer after the table
abbrev pub last_pointer : List ℕ
last_pointer = one_packed (replicate 8 255) ++ pointer

named_at_the_end : (length last_pointer ≡ 374) × (table_place last_pointer ≡ 353) × (table_end last_pointer ≡ 366) × (table_part last_pointer ≡ table)
    × (has_bad_pointer last_pointer ≡ false)
unfolding number_at
named_at_the_end = (refl, refl, refl, refl, refl)

-- ---- what tests refuse
no_cause : (first_cause (tested_causes one) ≡ None) × (first_cause (tested_causes (one_packed pointer)) ≡ None) × (first_cause (tested_causes last_pointer) ≡ None)
unfolding number_at
no_cause = (refl, refl, refl)

before_the_chunks : first_cause (tested_causes (one_packed (little_bytes 8 328))) ≡ Some cause.TablePointer
unfolding number_at
before_the_chunks = refl

past_the_end : first_cause (tested_causes (one_packed (little_bytes 8 367))) ≡ Some cause.TablePointer
unfolding number_at
past_the_end = refl

without_a_pointer : first_cause (tested_causes (take 328 (one_packed pointer))) ≡ Some cause.TablePointer
unfolding number_at
without_a_pointer = refl

-- the last pointer would stand where the first one does
no_last_pointer : first_cause (tested_causes (take 329 (one_packed (replicate 8 255)))) ≡ Some cause.TablePointer
unfolding number_at
no_last_pointer = refl

-- ---- hands: one chunk is work for one, three for three; a plain output, or no record, is work for one
one_chunk : hands_for (chunks_packed (Some 250000) 250000) 8 ≡ 1
one_chunk = refl

three_chunks : hands_for (chunks_packed (Some 250000) 500001) 8 ≡ 3
three_chunks = refl

many_chunks : hands_for (chunks_packed (Some 256) 1000000) 8 ≡ 8
many_chunks = refl

plain_output : hands_for (chunks_packed None 1000000) 8 ≡ 1
plain_output = refl

no_chunk : hands_for (chunks_packed (Some 50000) 0) 8 ≡ 1
no_chunk = refl

-- ---- a plain file is read in blocks of 50,000 records
plain_block : PLAIN_BLOCK ≡ 50000
plain_block = refl
