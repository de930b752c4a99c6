-- Chunks one after another: their numbers, and the blocks that they hold wherever they stand.
use Rattle.std.proofs.Common.{◌≡◌, ℕ, suc, ◌+◌, ◌≤◌, sum, Bool, true, false, List, [], ◌∷◌, ◌++◌, length, map, take, drop, refl, sym, ap, subst, ◌∙◌, arith, append_assoc, length-drop}
use Rattle.std.proofs.lemmas.List.{drop-drop, drop_at, length-take-le, take_at}
use Rattle.std.proofs.Math.Seq.{take-add}
use Rattle.std.specs.List.{AllByRecursion, concat}
use Rattle.las_header.specs.Fields.{head_of, is_packed}
use Rattle.laz_table.specs.Chunks.{IsCountedSize}
use Rattle.laz_table.specs.Laws.{AreWords}
use Rattle.laz_chunk.specs.Chunks.{AreRecords, Holds}
use Rattle.laz_chunk.specs.Layouts.{Layout, record_length}
use Rattle.laz_forms.specs.Packing.{record_layout}
use Rattle.laz_forms.specs.Pieces.{ArePieces, ArePiecesIf, Piece, piece_bytes, pieces_from, whole_piece}
use Rattle.laz_forms.specs.Records.{HoldBlocks, HoldsBlock, HoldsChunk, HoldsIf}
use Rattle.laz_forms.specs.Refusing.{chunks_place}
use Rattle.laz_forms.proofs.Public.{whole_cut}
use Rattle.laz_copied.specs.Copied.{Chunk, byte_lists_in, chunk_at, chunk_counts}
use Rattle.laz_models.proofs.Public.{sum-cons}
use Rattle.laz_integer.proofs.Public.{cons_same}

-- ---- chunks that hold blocks
abbrev pub ChunkHolds : Layout → Chunk → List ℕ → Type 0
ChunkHolds l chunk block = AreRecords l chunk.count block × Holds l chunk.bytes block

abbrev pub ChunksHold : Layout → List Chunk → List (List ℕ) → Type 0
ChunksHold l [] [] = Unit {0}
ChunksHold l [] (b ∷ blocks) = ⊥
ChunksHold l (c ∷ chunks) [] = ⊥
ChunksHold l (c ∷ chunks) (b ∷ blocks) = ChunkHolds l c b × ChunksHold l chunks blocks

pub hold-append : (l : Layout) (xs ys : List Chunk) (bs cs : List (List ℕ)) → ChunksHold l xs bs → ChunksHold l ys cs → ChunksHold l (xs ++ ys) (bs ++ cs)
hold-append l [] ys [] cs h k = k
hold-append l [] ys (b ∷ bs) cs h k = absurd h
hold-append l (x ∷ xs) ys [] cs h k = absurd h
hold-append l (x ∷ xs) ys (b ∷ bs) cs h k = (h.0, hold-append l xs ys bs cs h.1 k)

-- those of a packed file
as_chunk : (packed : Bool) (file : List ℕ) (at size count : ℕ) (block : List ℕ) → packed ≡ true → HoldsIf packed file (whole_piece at size count) block → ChunkHolds (record_layout (head_of file)) (chunk_at file (whole_piece at size count)) block
as_chunk true file at size count block e h =
    let long = record_length (record_layout (head_of file)) in
    subst (λ (b : List ℕ). ChunkHolds (record_layout (head_of file)) (chunk_at file (whole_piece at size count)) b) (sym (h.2 ∙ sym (whole_cut long at size count h.0 h.1.are.length))) (h.1.are, h.1.holds)
as_chunk false file at size count block e h = absurd (cc)

hold_of_file : (file : List ℕ) → is_packed (head_of file) ≡ true → (at : ℕ) (counts sizes : List ℕ) (blocks : List (List ℕ)) → HoldBlocks file (pieces_from at counts sizes) blocks → ChunksHold (record_layout (head_of file)) (map (chunk_at file) (pieces_from at counts sizes)) blocks
hold_of_file file packed at [] sizes [] h = tt
hold_of_file file packed at [] sizes (b ∷ blocks) h = absurd h
hold_of_file file packed at (n ∷ counts) [] [] h = tt
hold_of_file file packed at (n ∷ counts) [] (b ∷ blocks) h = absurd h
hold_of_file file packed at (n ∷ counts) (s ∷ sizes) [] h = absurd h
hold_of_file file packed at (n ∷ counts) (s ∷ sizes) (b ∷ blocks) h = (as_chunk (is_packed (head_of file)) file at s n b packed h.0, hold_of_file file packed (at + s) counts sizes blocks h.1)

hold_if : (packed : Bool) (file : List ℕ) (pieces : List Piece) (blocks : List (List ℕ)) → packed ≡ true → is_packed (head_of file) ≡ true → ArePiecesIf packed file pieces → HoldBlocks file pieces blocks → ChunksHold (record_layout (head_of file)) (map (chunk_at file) pieces) blocks
hold_if false file pieces blocks e packed are hold = absurd (cc)
hold_if true file pieces blocks e packed are hold =
    subst (λ (ps : List Piece). ChunksHold (record_layout (head_of file)) (map (chunk_at file) ps) blocks) (sym are.3)
    (hold_of_file file packed (chunks_place file) are.0 are.1 blocks (subst (λ (ps : List Piece). HoldBlocks file ps blocks) are.3 hold))

pub hold_of_pieces : (file : List ℕ) (pieces : List Piece) (blocks : List (List ℕ)) → is_packed (head_of file) ≡ true → ArePieces file pieces → HoldBlocks file pieces blocks → ChunksHold (record_layout (head_of file)) (map (chunk_at file) pieces) blocks
hold_of_pieces file pieces blocks packed are hold = hold_if (is_packed (head_of file)) file pieces blocks packed packed are hold

-- chunks that stand in a file one after another are its pieces, and hold there what they hold
module _ (file : List ℕ) (packed : is_packed (head_of file) ≡ true) where
  holds_there : (at size count : ℕ) (block : List ℕ) → HoldsChunk (head_of file) count (piece_bytes file (whole_piece at size count)) block → HoldsBlock file (whole_piece at size count) block
  holds_there at size count block h =
      subst (λ (b : Bool). HoldsIf b file (whole_piece at size count) block) (sym packed) (block, h, whole_cut (record_length (record_layout (head_of file))) at size count block h.are.length)

  pub hold_in_file : (at : ℕ) (chunks : List Chunk) (blocks : List (List ℕ)) (rest : List ℕ) → drop at file ≡ concat (byte_lists_in chunks) ++ rest
      → ChunksHold (record_layout (head_of file)) chunks blocks → HoldBlocks file (pieces_from at (chunk_counts chunks) (map length (byte_lists_in chunks))) blocks
  hold_in_file at [] [] rest there h = tt
  hold_in_file at [] (b ∷ blocks) rest there h = absurd h
  hold_in_file at (c ∷ chunks) [] rest there h = absurd h
  hold_in_file at (c ∷ chunks) (b ∷ blocks) rest there h =
      let more = concat (byte_lists_in chunks) ++ rest in
      let from : drop at file ≡ c.bytes ++ more = there ∙ append_assoc c.bytes (concat (byte_lists_in chunks)) rest in
      let part : take (length c.bytes) (drop at file) ≡ c.bytes = ap (λ (t : List ℕ). take (length c.bytes) t) from ∙ take_at c.bytes more (length c.bytes) refl in
      let next : drop (at + length c.bytes) file ≡ more = sym (drop-drop (length c.bytes) at file) ∙ ap (λ (t : List ℕ). drop (length c.bytes) t) from ∙ drop_at c.bytes more (length c.bytes) refl in (
        holds_there at (length c.bytes) c.count b
            (record { are = h.0.0; holds = subst (λ (t : List ℕ). Holds (record_layout (head_of file)) t b) (sym part) h.0.1 }),
        hold_in_file (at + length c.bytes) chunks blocks rest next h.1,
      )

-- ---- the numbers of a file's chunks
pub counts_listed : (file : List ℕ) (at : ℕ) (counts sizes : List ℕ) → length counts ≡ length sizes → chunk_counts (map (chunk_at file) (pieces_from at counts sizes)) ≡ counts
counts_listed file at [] sizes e = refl
counts_listed file at (n ∷ counts) [] e = absurd (omega (arith, e))
counts_listed file at (n ∷ counts) (s ∷ sizes) e = ap (λ (l : List ℕ). n ∷ l) (counts_listed file (at + s) counts sizes (omega (arith, e)))

pub sizes_listed : (file : List ℕ) (at : ℕ) (counts sizes : List ℕ) → length counts ≡ length sizes → at + sum sizes ≤ length file → map length (byte_lists_in (map (chunk_at file) (pieces_from at counts sizes))) ≡ sizes
sizes_listed file at [] [] e lie = refl
sizes_listed file at [] (s ∷ sizes) e lie = absurd (omega (arith, e))
sizes_listed file at (n ∷ counts) [] e lie = absurd (omega (arith, e))
sizes_listed file at (n ∷ counts) (s ∷ sizes) e lie =
    let first = sum-cons s sizes in
    cons_same (length (take s (drop at file))) s (map length (byte_lists_in (map (chunk_at file) (pieces_from (at + s) counts sizes)))) sizes
    (length-take-le s (drop at file) (omega (arith, length-drop at file, lie, first)))
    (sizes_listed file (at + s) counts sizes (omega (arith, e)) (omega (arith, lie, first)))

-- ---- what is known of chunks, one after another
pub record AreGoodChunks (chunks : List Chunk) : Type 0 where
  pub words : AreWords (map length (byte_lists_in chunks))
  pub range : AllByRecursion IsCountedSize (chunk_counts chunks)

pub no_chunks : AreGoodChunks []
no_chunks = record { words = tt; range = tt }

words-append : (xs ys : List Chunk) → AreWords (map length (byte_lists_in xs)) → AreWords (map length (byte_lists_in ys)) → AreWords (map length (byte_lists_in (xs ++ ys)))
words-append [] ys h k = k
words-append (x ∷ xs) ys h k = (h.0, words-append xs ys h.1 k)

range-append : (xs ys : List Chunk) → AllByRecursion IsCountedSize (chunk_counts xs) → AllByRecursion IsCountedSize (chunk_counts ys) → AllByRecursion IsCountedSize (chunk_counts (xs ++ ys))
range-append [] ys h k = k
range-append (x ∷ xs) ys h k = (h.0, range-append xs ys h.1 k)

pub good-append : (xs ys : List Chunk) → AreGoodChunks xs → AreGoodChunks ys → AreGoodChunks (xs ++ ys)
good-append xs ys h k = record { words = words-append xs ys h.words k.words; range = range-append xs ys h.range k.range }

pub sum_counts-append : (xs ys : List Chunk) → sum (chunk_counts (xs ++ ys)) ≡ sum (chunk_counts xs) + sum (chunk_counts ys)
sum_counts-append [] ys = omega arith
sum_counts-append (x ∷ xs) ys = omega (arith, sum-cons x.count (chunk_counts (xs ++ ys)), sum-cons x.count (chunk_counts xs), sum_counts-append xs ys)

pub length_counts : (xs : List Chunk) → length (chunk_counts xs) ≡ length xs
length_counts [] = refl
length_counts (x ∷ xs) = ap suc (length_counts xs)

pub length_bytes : (xs : List Chunk) → length (map length (byte_lists_in xs)) ≡ length xs
length_bytes [] = refl
length_bytes (x ∷ xs) = ap suc (length_bytes xs)

pub length_byte_lists : (xs : List Chunk) → length (byte_lists_in xs) ≡ length xs
length_byte_lists [] = refl
length_byte_lists (x ∷ xs) = ap suc (length_byte_lists xs)

-- the chunks of a file stand in it one after another, so they are one part of it
pub chunks_joined : (file : List ℕ) (at : ℕ) (counts sizes : List ℕ) → concat (byte_lists_in (map (chunk_at file) (pieces_from at counts sizes))) ≡ take (sum (map (λ p. p.size) (pieces_from at counts sizes))) (drop at file)
chunks_joined file at [] sizes = refl
chunks_joined file at (n ∷ counts) [] = refl
chunks_joined file at (n ∷ counts) (s ∷ sizes) =
    let rest = drop at file in
    let more = map (λ (p : Piece). p.size) (pieces_from (at + s) counts sizes) in
    ap (λ (t : List ℕ). take s rest ++ t) (chunks_joined file (at + s) counts sizes ∙ ap (λ (t : List ℕ). take (sum more) t) (sym (drop-drop s at file)))
    ∙ sym (take-add s (sum more) rest) ∙ ap (λ (m : ℕ). take m rest) (sym (sum-cons s more))

-- ---- the numbers of pieces
pub piece_counts : (file : List ℕ) (pieces : List Piece) → chunk_counts (map (chunk_at file) pieces) ≡ map (λ p. p.count) pieces
piece_counts file [] = refl
piece_counts file (p ∷ pieces) = ap (λ (l : List ℕ). p.count ∷ l) (piece_counts file pieces)

pub piece_sizes : (at : ℕ) (counts sizes : List ℕ) → length counts ≡ length sizes → map (λ p. p.size) (pieces_from at counts sizes) ≡ sizes
piece_sizes at [] [] e = refl
piece_sizes at [] (s ∷ sizes) e = absurd (omega (arith, e))
piece_sizes at (n ∷ counts) [] e = absurd (omega (arith, e))
piece_sizes at (n ∷ counts) (s ∷ sizes) e = ap (λ (l : List ℕ). s ∷ l) (piece_sizes (at + s) counts sizes (omega (arith, e)))
