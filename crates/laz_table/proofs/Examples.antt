-- Worked values of the definitions: entries, tables, chunks, payloads, and what a laszip VLR is refused for.
use Rattle.std.proofs.Common.{◌≡◌, ℕ, pos, negsuc, true, false, List, [], ◌∷◌, ◌++◌, Some, None, refl, replicate}
use Rattle.laz_table.specs.declared.limits.TheConstants.{ARITHMETIC_CODER, CHUNKED_COMPRESSOR, COUNTED_CHUNKS, ITEM_VERSION, MAX_CHUNKS, MAX_CHUNK_BYTES, MIN_TABLE_BYTES, PAYLOAD_ITEM, PAYLOAD_START, TABLE_CONTEXTS, TABLE_START}
use Rattle.std.proofs.Common.{codes, subst, sym, arith, rules}
use Rattle.std.specs.List.{splice}
use Rattle.byteorder.specs.Endian.{little_bytes}
use Rattle.las_header.specs.declared.refusal.Refusal.TheVariants as cause
use Rattle.las_header.specs.Numbers.{number_at, with_number_at}
use Rattle.las_header.specs.Plain.{with_vlr}
use Rattle.las_header.specs.Refusals.{first_cause}
use Rattle.laz_range.specs.Span.{IsBytes, renormal_step, subspan}
use Rattle.laz_models.specs.BitDist.{bit_counts_at}
use Rattle.laz_models.specs.Counting.{starts_of}
use Rattle.laz_models.specs.Cycles.{cycle_in}
use Rattle.laz_models.specs.Dist.{counts_at}
use Rattle.laz_integer.specs.Corrector.{digits_within, width_of, corrector, corrector_index}
use Rattle.laz_integer.specs.Integer.{IntState, rest_events}
use Rattle.laz_table.specs.declared.chunks.Blocks.TheVariants.{Fixed, Counted}
use Rattle.laz_table.specs.Payload.{item_bytes, items_of, items_part, laszip_payload, payload_start}
use Rattle.laz_table.specs.VlrCauses.{chunk_count, chunk_size_of, extra_of, has_other_compressor, has_other_items}
use Rattle.laz_table.specs.VlrCauses.{has_other_shape, is_bad_chunk_size, is_counted, lacks_vlr, makes_many_chunks}
use Rattle.laz_table.specs.VlrCauses.{payload_at, payload_causes, payload_of, vlr_causes}
use Rattle.laz_table.specs.Entries.{bytes_entry, context_of, entries_of, events_of, no_entry, number_events}
use Rattle.laz_table.specs.Entries.{points_entry, prediction, signed, table_use}
use Rattle.laz_table.specs.Table.{TableHolds, stream_of, table_bytes}
use Rattle.laz_table.specs.Chunks.{AllowsSizes, BeginsTable, HasOtherBytes, HasTable, IsChunkCount, are_counted, fixed_sizes}
use Rattle.laz_table.specs.Chunks.{sizes_of}
use Rattle.laz_table.specs.Steps.{entries_made, latest_after, next_counts_points, number_made, table_start}
use Rattle.laz_table.proofs.TableBytes.{fixed-bytes}
use Rattle.laz_table.proofs.TableLaws.{holds-fixed, one-held}

-- ---- entries
in_turn : entries_of (7 ∷ 9 ∷ []) (24 ∷ 30 ∷ [])
    ≡ points_entry 7 ∷ bytes_entry 24 ∷ points_entry 9 ∷ bytes_entry 30 ∷ []
in_turn = refl

bytes_alone : entries_of [] (24 ∷ 30 ∷ []) ≡ bytes_entry 24 ∷ bytes_entry 30 ∷ []
bytes_alone = refl

first_predictions : (prediction true no_entry ≡ 0) × (prediction false no_entry ≡ 0)
first_predictions = (refl, refl)

-- each number is predicted as the one before it of its kind
by_kind : events_of no_entry (entries_of (7 ∷ 9 ∷ []) (24 ∷ 30 ∷ []))
    ≡ number_events true 0 7 ++ (number_events false 0 24
    ++ (number_events true 7 9 ++ (number_events false 24 30 ++ [])))
by_kind = refl

latest : latest_after no_entry (entries_of (7 ∷ 9 ∷ []) (24 ∷ 30 ∷ [])) ≡ record { points = 9; bytes = 30 }
latest = refl

contexts : (context_of true ≡ 0) × (context_of false ≡ 1)
contexts = (refl, refl)

name_of_use : table_use ≡ codes "table"
name_of_use = refl

signed_numbers : (signed 24 ≡ pos 24) × (signed 4294967295 ≡ negsuc 0)
signed_numbers = (refl, refl)

-- width 5 and index 23 are the corrector 24; width 0 and index 1 the corrector 1, which wraps
numbers_made : (number_made 0 (5, 23) ≡ 24) × (number_made 4294967295 (0, 1) ≡ 0)
unfolding corrector
numbers_made = (refl, refl)

in_turn_again : (models : IntState) → entries_made (table_start models true) ((0, 1) ∷ (5, 23) ∷ (0, 0) ∷ [])
    ≡ points_entry 1 ∷ bytes_entry 24 ∷ points_entry 1 ∷ []
unfolding corrector
in_turn_again models = refl

bytes_alone_again : (models : IntState) → entries_made (table_start models false) ((5, 23) ∷ (0, 0) ∷ [])
    ≡ bytes_entry 24 ∷ bytes_entry 24 ∷ []
unfolding corrector
bytes_alone_again models = refl

kinds_in_turn : (next_counts_points true true ≡ false) × (next_counts_points true false ≡ true)
    × (next_counts_points false false ≡ false)
kinds_in_turn = (refl, refl, refl)

-- ---- tables
no_stream : stream_of [] ≡ []
no_stream = refl

no_chunk : table_bytes [] [] ≡ 0 ∷ 0 ∷ 0 ∷ 0 ∷ 0 ∷ 0 ∷ 0 ∷ 0 ∷ []
no_chunk = refl

one_chunk : table_bytes [] (24 ∷ []) ≡ 0 ∷ 0 ∷ 0 ∷ 0 ∷ 1 ∷ 0 ∷ 0 ∷ 0 ∷ 44 ∷ 92 ∷ 0 ∷ 0 ∷ 0 ∷ []
unfolding digits_within width_of corrector_index rest_events renormal_step subspan starts_of counts_at cycle_in bit_counts_at
one_chunk = refl

shorter_chunk : table_bytes [] (23 ∷ []) ≡ 0 ∷ 0 ∷ 0 ∷ 0 ∷ 1 ∷ 0 ∷ 0 ∷ 0 ∷ 44 ∷ 29 ∷ 0 ∷ 0 ∷ 0 ∷ []
unfolding digits_within width_of corrector_index rest_events renormal_step subspan starts_of counts_at cycle_in bit_counts_at
shorter_chunk = refl

counted_chunk : table_bytes (1 ∷ []) (24 ∷ []) ≡ 0 ∷ 0 ∷ 0 ∷ 0 ∷ 1 ∷ 0 ∷ 0 ∷ 0 ∷ 4 ∷ 139 ∷ 211 ∷ 0 ∷ 0 ∷ 0 ∷ []
unfolding digits_within width_of corrector_index rest_events renormal_step subspan starts_of counts_at cycle_in bit_counts_at
counted_chunk = refl

equal_chunks : table_bytes (1 ∷ 1 ∷ []) (24 ∷ 24 ∷ []) ≡ 0 ∷ 0 ∷ 0 ∷ 0 ∷ 2 ∷ 0 ∷ 0 ∷ 0 ∷ 4 ∷ 139 ∷ 210 ∷ 37 ∷ 0 ∷ 0 ∷ 0 ∷ []
unfolding digits_within width_of corrector_index rest_events renormal_step subspan starts_of counts_at cycle_in bit_counts_at
equal_chunks = refl

-- the table of one chunk of 24 bytes holds it
one_held : TableHolds (0 ∷ 0 ∷ 0 ∷ 0 ∷ 1 ∷ 0 ∷ 0 ∷ 0 ∷ 44 ∷ 92 ∷ 0 ∷ 0 ∷ 0 ∷ []) 1 false [] (24 ∷ [])
one_held =
    subst (λ (bytes : List ℕ). TableHolds bytes 1 false [] (24 ∷ [])) one_chunk
    (holds-fixed (24 ∷ []) (omega arith) (omega arith, tt))

-- and no other one
one_only : (others more : List ℕ) → BeginsTable (0 ∷ 0 ∷ 0 ∷ 0 ∷ 1 ∷ 0 ∷ 0 ∷ 0 ∷ 44 ∷ 92 ∷ 0 ∷ 0 ∷ 0 ∷ []) (Fixed 50000 50000) others more → (others ≡ []) × (more ≡ 24 ∷ [])
one_only others more other =
    let bytes = 0 ∷ 0 ∷ 0 ∷ 0 ∷ 1 ∷ 0 ∷ 0 ∷ 0 ∷ 44 ∷ 92 ∷ 0 ∷ 0 ∷ 0 ∷ [] in
    let small : IsBytes bytes = subst IsBytes one_chunk (fixed-bytes (24 ∷ []) (omega arith, tt)) in
    let same = one-held bytes 1 false [] (24 ∷ []) others more small one_held (subst (λ (n : ℕ). TableHolds bytes n false others more) other.count other.holds) in
    (sym same.0, sym same.1)

-- and so it is one of a file of 50,000 points with that chunk size, whose chunks have 24 bytes in all and not 23
one_table : HasTable (0 ∷ 0 ∷ 0 ∷ 0 ∷ 1 ∷ 0 ∷ 0 ∷ 0 ∷ 44 ∷ 92 ∷ 0 ∷ 0 ∷ 0 ∷ []) (Fixed 50000 50000) [] (24 ∷ [])
one_table = record { begins = record { count = refl; holds = one_held }; only = one_only }

other_bytes : HasOtherBytes (0 ∷ 0 ∷ 0 ∷ 0 ∷ 1 ∷ 0 ∷ 0 ∷ 0 ∷ 44 ∷ 92 ∷ 0 ∷ 0 ∷ 0 ∷ []) (Fixed 50000 50000) 23
other_bytes = ([], 24 ∷ [], one_table, λ is. omega (arith, is))

-- ---- chunks
kinds : (are_counted (Fixed 256 600) ≡ false) × (are_counted (Counted 600) ≡ true)
kinds = (refl, refl)

three_chunks : IsChunkCount (Fixed 256 600) 3
three_chunks = refl

most_chunks : IsChunkCount (Counted 600) 600 × (¬ IsChunkCount (Counted 600) 601)
most_chunks = (omega arith, λ is. omega (arith, is))

sizes_that_add_up : AllowsSizes (Counted 250001) (250000 ∷ 1 ∷ [])
sizes_that_add_up = (search rules, refl)

point_too_few : ¬ AllowsSizes (Counted 3) (1 ∷ 1 ∷ [])
point_too_few allows = omega (arith, allows.1)

sizes_of_kinds : (sizes_of (Fixed 256 600) [] ≡ 256 ∷ 256 ∷ 88 ∷ []) × (sizes_of (Counted 3) (1 ∷ 2 ∷ []) ≡ 1 ∷ 2 ∷ [])
sizes_of_kinds = (refl, refl)

-- ---- payloads
all_items : items_of 3 5
    ≡ record { kind = 6; size = 20 } ∷ record { kind = 7; size = 8 } ∷ record { kind = 8; size = 6 }
    ∷ record { kind = 0; size = 5 } ∷ []
all_items = refl

time_item : item_bytes (record { kind = 7; size = 8 }) ≡ 7 ∷ 0 ∷ 8 ∷ 0 ∷ 2 ∷ 0 ∷ []
time_item = refl

one_item : items_part (items_of 0 0) ≡ 1 ∷ 0 ∷ 6 ∷ 0 ∷ 20 ∷ 0 ∷ 2 ∷ 0 ∷ []
one_item = refl

abbrev front : List ℕ
front = 2 ∷ 0 ∷ 0 ∷ 0 ∷ 2 ∷ 2 ∷ 0 ∷ 0 ∷ 0 ∷ 0 ∷ 0 ∷ 0 ∷ 80 ∷ 195 ∷ 0 ∷ 0 ∷ replicate 16 255

start : payload_start 50000 ≡ front
start = refl

points_alone : laszip_payload 0 0 50000 ≡ front ++ (1 ∷ 0 ∷ 6 ∷ 0 ∷ 20 ∷ 0 ∷ 2 ∷ 0 ∷ [])
points_alone = refl

with_time : laszip_payload 1 0 50000 ≡ front ++ (2 ∷ 0 ∷ 6 ∷ 0 ∷ 20 ∷ 0 ∷ 2 ∷ 0 ∷ 7 ∷ 0 ∷ 8 ∷ 0 ∷ 2 ∷ 0 ∷ [])
with_time = refl

with_colour : laszip_payload 2 0 50000 ≡ front ++ (2 ∷ 0 ∷ 6 ∷ 0 ∷ 20 ∷ 0 ∷ 2 ∷ 0 ∷ 8 ∷ 0 ∷ 6 ∷ 0 ∷ 2 ∷ 0 ∷ [])
with_colour = refl

with_all : laszip_payload 3 192 50000 ≡ front ++ (4 ∷ 0 ∷ 6 ∷ 0 ∷ 20 ∷ 0 ∷ 2 ∷ 0 ∷ 7 ∷ 0 ∷ 8 ∷ 0 ∷ 2 ∷ 0 ∷ 8 ∷ 0 ∷ 6 ∷ 0 ∷ 2 ∷ 0 ∷ 0 ∷ 0 ∷ 192 ∷ 0 ∷ 2 ∷ 0 ∷ [])
with_all = refl

-- ---- chunk sizes
none_of_none : chunk_count 0 50000 ≡ 0
none_of_none = refl

one_short : chunk_count 50000 50000 ≡ 1
one_short = refl

one_more : chunk_count 50001 50000 ≡ 2
one_more = refl

size_of_none : is_bad_chunk_size 5 0 ≡ true
size_of_none = refl

long_chunk : is_bad_chunk_size 250001 4294967294 ≡ true
long_chunk = refl

few_points : is_bad_chunk_size 250000 4294967294 ≡ false
few_points = refl

own_sizes : is_bad_chunk_size 4294967295 4294967295 ≡ false
own_sizes = refl

many_chunks : makes_many_chunks 16777217 1 ≡ true
many_chunks = refl

enough_chunks : makes_many_chunks 16777216 1 ≡ false
enough_chunks = refl

last_chunk : fixed_sizes 256 600 ≡ 256 ∷ 256 ∷ 88 ∷ []
last_chunk = refl

counted_size : (is_counted 4294967295 ≡ true) × (is_counted 4294967294 ≡ false)
counted_size = (refl, refl)

-- ---- causes
abbrev written : List ℕ
written = laszip_payload 0 0 50000

shapes : (has_other_shape written ≡ false) × (has_other_shape (written ++ 0 ∷ []) ≡ true)
    × (has_other_shape (replicate 33 0) ≡ true)
unfolding number_at
shapes = (refl, refl, refl)

-- a payload of two items that says that it has one
items_left_over : has_other_shape (front ++ (1 ∷ 0 ∷ replicate 12 0)) ≡ true
unfolding number_at
items_left_over = refl

compressors : (has_other_compressor written ≡ false) × (has_other_compressor (with_number_at 2 0 1 written) ≡ true)
    × (has_other_compressor (with_number_at 2 2 1 written) ≡ true)
unfolding number_at
compressors = (refl, refl, refl)

other_items : (has_other_items 0 0 written ≡ false) × (has_other_items 1 0 written ≡ true)
    × (has_other_items 0 0 (with_number_at 2 38 1 written) ≡ true)
other_items = (refl, refl, refl)

-- version, options and the two numbers that are not used may be others
any_of_those : first_cause (payload_causes 0 0 1 (splice (splice written 4 12 (replicate 8 9)) 16 32 (replicate 16 7)))
    ≡ None
unfolding number_at
any_of_those = refl

-- with two causes the first is named
first_named : first_cause (payload_causes 1 0 1 (with_number_at 2 0 1 written)) ≡ Some cause.Compressor
unfolding number_at
first_named = refl

too_many_chunks : first_cause (payload_causes 0 0 16777217 (laszip_payload 0 0 1)) ≡ Some cause.TooManyChunks
unfolding number_at
too_many_chunks = refl

third_byte : payload_at (record { start = 1; length = 2 }) (replicate 55 0 ++ 8 ∷ 9 ∷ 7 ∷ []) ≡ 8 ∷ 9 ∷ []
third_byte = refl

-- a plain LAS 1.2 head of 227 bytes, for format 0 and 3 extra bytes
abbrev plain : List ℕ
plain =
    codes "LASF" ++ replicate 20 0 ++ (1 ∷ 2 ∷ []) ++ replicate 68 0 ++ (little_bytes 2 227 ++ little_bytes 4 227)
    ++ (replicate 4 0 ++ (0 ∷ little_bytes 2 23)) ++ little_bytes 4 1 ++ replicate 116 0

abbrev packed : List ℕ
packed = with_vlr (laszip_payload 0 3 50000) plain

extra_bytes : extra_of plain ≡ 3
unfolding number_at
extra_bytes = refl

no_vlr : (lacks_vlr plain ≡ true) × (first_cause (vlr_causes plain) ≡ Some cause.NoVlr)
unfolding number_at
no_vlr = (refl, refl)

one_vlr : (payload_of packed ≡ laszip_payload 0 3 50000) × (chunk_size_of packed ≡ 50000)
unfolding number_at
one_vlr = (refl, refl)

not_refused : (lacks_vlr packed ≡ false) × (first_cause (vlr_causes packed) ≡ None)
unfolding number_at
not_refused = (refl, refl)

-- the numbers that the definitions take from the code
arithmetic_coder_is : ARITHMETIC_CODER ≡ 0
arithmetic_coder_is = refl

chunked_compressor_is : CHUNKED_COMPRESSOR ≡ 2
chunked_compressor_is = refl

counted_chunks_is : COUNTED_CHUNKS ≡ 4294967295
counted_chunks_is = refl

item_version_is : ITEM_VERSION ≡ 2
item_version_is = refl

max_chunks_is : MAX_CHUNKS ≡ 16777216
max_chunks_is = refl

max_chunk_bytes_is : MAX_CHUNK_BYTES ≡ 24
max_chunk_bytes_is = refl

min_table_bytes_is : MIN_TABLE_BYTES ≡ 12
min_table_bytes_is = refl

payload_item_is : PAYLOAD_ITEM ≡ 6
payload_item_is = refl

payload_start_is : PAYLOAD_START ≡ 34
payload_start_is = refl

table_contexts_is : TABLE_CONTEXTS ≡ 2
table_contexts_is = refl

table_start_is : TABLE_START ≡ 8
table_start_is = refl
