-- Files as another writer or a fault may leave them: the pointer at the end, the table cut off, a chunk a byte short.
use Rattle.std.proofs.Common.{◌≡◌, ℕ, zero, suc, ◌-◌, ◌≤◌, ◌&&◌, nat_lt, Bool, true, List, [], ◌∷◌, ◌++◌, take, drop, Some, None, inl, refl, arith, lit<, lit≤}
use Rattle.std.proofs.lemmas.Bool.{ltb-true, and_parts}
use Rattle.laz_range.specs.Span.{IsBytes, renormal_step, subspan}
use Rattle.laz_models.specs.BitDist.{bit_counts_at}
use Rattle.laz_models.specs.Counting.{starts_of}
use Rattle.laz_models.specs.Cycles.{cycle_in}
use Rattle.laz_models.specs.Dist.{counts_at}
use Rattle.laz_integer.specs.Corrector.{digits_within, width_of, corrector_index}
use Rattle.laz_integer.specs.Integer.{rest_events}
use Rattle.las_header.specs.declared.refusal.Refusal.TheVariants as cause
use Rattle.las_header.specs.Conditions.{conditions}
use Rattle.las_header.specs.Fields.{head_of}
use Rattle.las_header.specs.Numbers.{number_at}
use Rattle.las_header.proofs.Public.{IsFirst-append_none, IsFirst-tests}
use Rattle.laz_table.specs.Chunks.{IsAccepted, LacksTable}
use Rattle.laz_chunk.proofs.Public.{chunk-least}
use Rattle.laz_forms.specs.Pieces.{Piece, pieces_from, whole_piece}
use Rattle.laz_forms.specs.Records.{AreRecordsOf, HoldBlocks, HoldsBlock, Unpacks}
use Rattle.laz_forms.specs.Refusing.{IsAcceptedFile, IsRefusal, blocks_in, chunk_causes, chunks_place, table_part, table_place, tested_causes}
use Rattle.laz_forms.proofs.Chunked.{pieces_hold, table_accepted}
use Rattle.laz_forms.proofs.Examples.{chunk, head, last_pointer, one, one_packed, point, pointer, table, vlr}

all_small : List ℕ → Bool
all_small [] = true
all_small (x ∷ xs) = nat_lt x 256 && all_small xs

bytes-by : (xs : List ℕ) → all_small xs ≡ true → IsBytes xs
unfolding all_small
bytes-by [] e i = lit< tt
bytes-by (x ∷ xs) e zero = ltb-true x 256 (and_parts (nat_lt x 256) (all_small xs) e).0
bytes-by (x ∷ xs) e (suc i) = bytes-by xs (and_parts (nat_lt x 256) (all_small xs) e).1 i

point-bytes : IsBytes point
unfolding all_small
point-bytes = bytes-by point refl

-- ---- the pointer at the end
table_at_the_end : IsAccepted (table_part last_pointer) (blocks_in (head_of last_pointer)) (table_place last_pointer - chunks_place last_pointer) (1 ∷ []) (24 ∷ [])
unfolding number_at digits_within width_of corrector_index rest_events renormal_step subspan starts_of counts_at cycle_in bit_counts_at
table_at_the_end = table_accepted 50000 1 (24 ∷ []) (lit< tt) (lit< tt, tt) refl

accepted_at_the_end : IsAcceptedFile last_pointer
unfolding number_at
accepted_at_the_end =
    IsFirst-append_none (conditions (tested_causes last_pointer)) (chunk_causes true last_pointer) None
    (IsFirst-tests (tested_causes last_pointer)) table_at_the_end.fine

unpacked_at_the_end : Unpacks last_pointer one
unfolding number_at digits_within width_of corrector_index rest_events renormal_step subspan starts_of counts_at cycle_in bit_counts_at
unpacked_at_the_end =
    let pieces = pieces_from 329 (1 ∷ []) (24 ∷ []) in
    let hold : HoldBlocks last_pointer pieces (point ∷ []) =
    pieces_hold last_pointer refl 50000 329 (1 ∷ []) (point ∷ []) (table ++ pointer) (lit≤ tt, lit≤ tt, record { length = refl; bytes = point-bytes }, tt) refl in
    (point ∷ [], (pieces, (1 ∷ [], 24 ∷ [], table_at_the_end, refl), hold), refl)

-- ---- without the last 12 bytes
abbrev cut : List ℕ
cut = take 354 (one_packed pointer)

no_table : LacksTable (table_part cut) (blocks_in (head_of cut))
unfolding number_at
no_table sizes counts has = let long : 8 ≤ 1 = has.begins.holds.long in absurd (omega (arith, long))

refused_for_its_table : IsRefusal cut (Some cause.Table)
unfolding number_at
refused_for_its_table =
    IsFirst-append_none (conditions (tested_causes cut)) (chunk_causes true cut) (Some cause.Table)
    (IsFirst-tests (tested_causes cut)) (inl (no_table, refl))

-- ---- the last byte of the chunk left out
abbrev short_table : List ℕ
short_table = 0 ∷ 0 ∷ 0 ∷ 0 ∷ 1 ∷ 0 ∷ 0 ∷ 0 ∷ 44 ∷ 29 ∷ 0 ∷ 0 ∷ 0 ∷ []

abbrev short : List ℕ
short = head 321 1 128 1 ++ vlr ++ (96 ∷ 1 ∷ 0 ∷ 0 ∷ 0 ∷ 0 ∷ 0 ∷ 0 ∷ []) ++ take 23 chunk ++ short_table

table_of_short : IsAccepted (table_part short) (blocks_in (head_of short)) (table_place short - chunks_place short) (1 ∷ []) (23 ∷ [])
unfolding number_at digits_within width_of corrector_index rest_events renormal_step subspan starts_of counts_at cycle_in bit_counts_at
table_of_short = table_accepted 50000 1 (23 ∷ []) (lit< tt) (lit< tt, tt) refl

accepted_short : IsAcceptedFile short
unfolding number_at
accepted_short =
    IsFirst-append_none (conditions (tested_causes short)) (chunk_causes true short) None
    (IsFirst-tests (tested_causes short)) table_of_short.fine

abbrev piece : Piece
piece = whole_piece 329 23 1

bad_chunk : (block : List ℕ) → HoldsBlock short piece block → ⊥
unfolding number_at
bad_chunk block holds = let long : 24 ≤ 23 = chunk-least _ (take 23 (drop 329 short)) holds.0 holds.1.holds in absurd (omega (arith, long))

first_chunk_bad : AreRecordsOf short [] (Some 0)
unfolding number_at
first_chunk_bad = (piece ∷ [], (1 ∷ [], 23 ∷ [], table_of_short, refl), (tt, (piece, refl, bad_chunk)))
