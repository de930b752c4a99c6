-- Each file has an answer, and an accepted one has pieces and records.
use Rattle.std.proofs.Common.{◌≡◌, inl, inr, ℕ, suc, ◌-◌, Bool, true, false, List, [], ◌∷◌, ◌++◌, length, take, Option, Some, None, refl, sym, ◌∙◌, subst}
use Rattle.las_header.specs.declared.refusal.Refusal.{Refusal}
use Rattle.las_header.specs.Conditions.{Condition, IsFirst, conditions}
use Rattle.las_header.specs.Fields.{head_of, is_packed}
use Rattle.laz_table.specs.declared.chunks.Blocks.{Blocks}
use Rattle.laz_table.specs.Chunks.{HasTable, IsAccepted, LacksTable, are_counted, sizes_of, table_causes}
use Rattle.laz_table.specs.Table.{TableHolds}
use Rattle.laz_forms.specs.Existing.{HasAnAnswer, HasPieces, HasSomeRecords, HasSomeInRange}
use Rattle.laz_chunk.specs.Layouts.{record_length}
use Rattle.laz_forms.specs.Packing.{record_layout}
use Rattle.laz_forms.specs.Pieces.{ArePieces, ArePiecesIf, Piece, piece_bytes, pieces_from, plain_pieces}
use Rattle.laz_forms.specs.Ranges.{first_of, parts_of}
use Rattle.laz_forms.specs.Records.{AreRead, HoldsBlock, HoldsIf, cut_block, moved}
use Rattle.laz_forms.specs.Refusing.{IsAcceptedFile, blocks_in, chunk_causes, chunks_place, table_end, table_part, table_place, tested_causes}
use Rattle.laz_forms.proofs.SearchedChunks.{HoldsRecords, records_decided}
use Rattle.laz_forms.proofs.SearchedTables.{bytes_decided, lack_decided, points_decided, some_table}
use Rattle.laz_forms.proofs.Searching.{Decided, decided_if, is_true}

-- ---- an answer

-- each condition of a list holds or does not
abbrev AreDecided : List Condition → Type 0
AreDecided [] = Unit {0}
AreDecided (c ∷ cs) = Decided c.holds × AreDecided cs

tests_decided : (tests : List (Bool × Refusal)) (cs : List Condition) → AreDecided cs → AreDecided (conditions tests ++ cs)
tests_decided [] cs decided = decided
tests_decided (t ∷ tests) cs decided = (is_true t.0, tests_decided tests cs decided)

causes_decided : (packed : Bool) (file : List ℕ) → AreDecided (chunk_causes packed file)
causes_decided false file = tt
causes_decided true file =
    let bytes = table_part file in
    let blocks = blocks_in (head_of file) in
    (lack_decided bytes blocks, (bytes_decided bytes blocks (table_place file - chunks_place file), (points_decided bytes blocks, tt)))

abbrev HasFirst : List Condition → Type 0
HasFirst cs = (answer : Option Refusal) × IsFirst cs answer

first_or : (c : Condition) (cs : List Condition) → HasFirst cs → Decided c.holds → HasFirst (c ∷ cs)
first_or c cs rest (inl holds) = (Some c.cause, inl (holds, refl))
first_or c cs rest (inr deny) = (rest.0, inr (deny, rest.1))

first_there : (cs : List Condition) → AreDecided cs → HasFirst cs
first_there [] decided = (None, refl)
first_there (c ∷ cs) decided = first_or c cs (first_there cs decided.1) decided.0

pub has_an_answer : HasAnAnswer
has_an_answer file =
    let cs = chunk_causes (is_packed (head_of file)) file in
    first_there (conditions (tested_causes file) ++ cs) (tests_decided (tested_causes file) cs (causes_decided (is_packed (head_of file)) file))

-- ---- the pieces

none_after : (xs ys : List Condition) → IsFirst (xs ++ ys) None → IsFirst ys None
none_after [] ys is = is
none_after (c ∷ xs) ys is = elim is [
  | inl here ↦ let clash = here.1 in absurd (cc)
  | inr after ↦ none_after xs ys after.1
]

module _ (bytes : List ℕ) (blocks : Blocks) (total : ℕ) where
  accepted : (coded counts : List ℕ) → IsFirst (table_causes bytes blocks total) None → HasTable bytes blocks coded counts → IsAccepted bytes blocks total (sizes_of blocks coded) counts
  accepted coded counts fine table = record { coded = coded; table = table; sizes_are = refl; fine = fine }

  not_lacking : IsFirst (table_causes bytes blocks total) None → LacksTable bytes blocks → ⊥
  not_lacking fine lacks = elim fine [
    | inl here ↦ let clash = here.1 in absurd (cc)
    | inr after ↦ after.0 lacks
  ]

  accepted_there : IsFirst (table_causes bytes blocks total) None → (sizes : List ℕ) × (counts : List ℕ) × IsAccepted bytes blocks total sizes counts
  accepted_there fine = elim (some_table bytes blocks) [
    | inl h ↦ (sizes_of blocks h.0.0, h.0.1, accepted h.0.0 h.0.1 fine h.1)
    | inr none ↦ absurd (not_lacking fine (λ coded counts table. none ((coded, counts), table, tt)))
  ]

pieces_if : (packed : Bool) (file : List ℕ) → IsFirst (chunk_causes packed file) None → (pieces : List Piece) × ArePiecesIf packed file pieces
pieces_if false file fine = (plain_pieces file, refl)
pieces_if true file fine =
    let h = accepted_there (table_part file) (blocks_in (head_of file)) (table_place file - chunks_place file) fine in
    (pieces_from (chunks_place file) h.0 h.1, (h.0, h.1, h.2, refl))

pub has_pieces : HasPieces
has_pieces file accepted = pieces_if (is_packed (head_of file)) file (none_after (conditions (tested_causes file)) (chunk_causes (is_packed (head_of file)) file) accepted)

-- ---- the records

one_more : (file : List ℕ) (p : Piece) (b : List ℕ) (pieces : List Piece) (blocks : List (List ℕ)) (bad : Option ℕ) → HoldsBlock file p b → AreRead file pieces blocks bad → (worse : Option ℕ) × AreRead file (p ∷ pieces) (b ∷ blocks) worse
one_more file p b pieces blocks None h read = (None, (h, read))
one_more file p b pieces blocks (Some i) h read = (Some (suc i), ((h, read.0), read.1))

abbrev HasRead : (file : List ℕ) → List Piece → Type 0
HasRead file pieces = (blocks : List (List ℕ)) × (bad : Option ℕ) × AreRead file pieces blocks bad

abbrev HasBlock : (file : List ℕ) → Piece → Type 0
HasBlock file piece = (block : List ℕ) × HoldsBlock file piece block

-- whether a piece holds a block is decided, and of a plain file it holds one
block_decided : (packed : Bool) (file : List ℕ) (p : Piece) → Decided ((block : List ℕ) × HoldsIf packed file p block)
block_decided false file p = inl (piece_bytes file p, refl)
block_decided true file p =
    let head = head_of file in
    decided_if {A = HoldsRecords (record_layout head) p.count (piece_bytes file p)} {B = (block : List ℕ) × HoldsIf true file p block}
    (λ h. (cut_block (record_length (record_layout head)) p h.0, (h.0, record { are = h.1; holds = h.2 }, refl)))
    (λ h. (h.1.0, h.1.1.are, h.1.1.holds))
    (records_decided (record_layout head) p.count (piece_bytes file p))

read_or : (file : List ℕ) (p : Piece) (pieces : List Piece) → HasRead file pieces → Decided (HasBlock file p) → HasRead file (p ∷ pieces)
read_or file p pieces r (inl h) = let longer = one_more file p h.0 pieces r.0 r.1 h.1 r.2 in (h.0 ∷ r.0, longer.0, longer.1)
read_or file p pieces r (inr none) = ([], Some 0, (tt, (p, refl, λ block holds. none (block, holds))))

read_there : (file : List ℕ) (pieces : List Piece) → HasRead file pieces
read_there file [] = ([], None, tt)
read_there file (p ∷ pieces) = read_or file p pieces (read_there file pieces) (block_decided (is_packed (head_of file)) file p)

pub has_records : HasSomeRecords
has_records file accepted =
    let p = has_pieces file accepted in
    let r = read_there file p.0 in
    (r.0, r.1, (p.0, p.1, r.2))

pub has_records_in : HasSomeInRange
has_records_in file range accepted =
    let p = has_pieces file accepted in
    let r = read_there file (parts_of file range p.0) in
    (r.0, moved (first_of file range p.0) r.1, (p.0, r.1, p.1, r.2, refl))
