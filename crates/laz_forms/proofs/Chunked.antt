-- The chunks of blocks of records: their sizes, their table, and the pieces that they are.
use Rattle.std.proofs.Common.{◌≡◌, ℕ, ◌+◌, ◌*◌, ◌-◌, ◌<◌, ◌≤◌, ◌==◌, sum, Bool, true, false, List, [], ◌∷◌, ◌++◌, length, map, take, drop, None, inr, refl, sym, ap, subst, ◌∙◌, arith, append_assoc}
use Rattle.std.proofs.lemmas.Bool.{cond-false, ne_eqb}
use Rattle.std.proofs.lemmas.List.{drop-drop, drop_at, take_all, take_at}
use Rattle.std.proofs.lemmas.List.Concat.{concat_is, length-flat_map}
use Rattle.std.proofs.lemmas.List.Sums.{sum-map}
use Rattle.std.proofs.Math.Nat.{mul-le-mul}
use Rattle.std.specs.List.{concat}
use Rattle.las_header.specs.Conditions.{IsFirst}
use Rattle.las_header.specs.Fields.{head_of, is_packed}
use Rattle.laz_chunk.specs.Chunks.{AreRecords, Holds, chunk_bytes}
use Rattle.laz_chunk.specs.Layouts.{Layout, most_events, record_length, room_for}
use Rattle.laz_chunk.proofs.Public.{chunk-holds, chunk-most}
use Rattle.laz_table.specs.declared.chunks.Blocks.TheVariants.{Fixed}
use Rattle.laz_table.specs.Chunks.{BeginsTable, HasTable, IsAccepted, fixed_sizes, table_causes}
use Rattle.laz_table.specs.Laws.{AreWords}
use Rattle.laz_table.specs.Table.{TableHolds, table_bytes}
use Rattle.laz_table.specs.VlrCauses.{chunk_count}
use Rattle.laz_table.proofs.Public.{fixed-bytes, holds-fixed, one-held}
use Rattle.laz_forms.specs.Packing.{record_layout}
use Rattle.laz_forms.specs.Pieces.{piece_bytes, pieces_from, whole_piece}
use Rattle.laz_forms.specs.Records.{HoldBlocks, HoldsBlock, HoldsChunk, HoldsIf, cut_block}
use Rattle.laz_forms.proofs.Blocks.{AreBlocks}

-- what lists have in all
pub sum-lengths : (xs : List (List ℕ)) → sum (map length xs) ≡ length (concat xs)
sum-lengths xs = sum-map length xs ∙ sym (length-flat_map (λ x. x) xs) ∙ ap length (sym (concat_is xs))

module _ (l : Layout) (extra : l.extra ≤ 192) (length-few : record_length l ≤ 226) where
  -- a chunk is short
  small : (count : ℕ) (records : List ℕ) → 1 ≤ count → count ≤ 250000 → AreRecords l count records → length (chunk_bytes l records) < 4294967296
  small count records one few are =
      let room : room_for l count ≡ record_length l + 4 + 3 * most_events l * (count - 1) =
      cond-false (count == 0) 0 (record_length l + 4 + 3 * most_events l * (count - 1)) (ne_eqb count 0 (λ e. absurd (omega (arith, e, one)))) in
      let events : 3 * most_events l ≤ 690 = omega (arith, extra) in
      let others : count - 1 ≤ 250000 = omega (arith, few) in
      omega (arith, chunk-most l count (chunk_bytes l records) records one are.length (chunk-holds l count records one are), room, mul-le-mul events others, length-few)

  pub words : (most : ℕ) (counts : List ℕ) (blocks : List (List ℕ)) → most ≤ 250000 → AreBlocks l most counts blocks → AreWords (map length (map (chunk_bytes l) blocks))
  words most [] [] few are = tt
  words most [] (b ∷ blocks) few are = absurd are
  words most (n ∷ counts) [] few are = absurd are
  words most (n ∷ counts) (b ∷ blocks) few are = (omega (arith, small n b are.0 (omega (arith, are.1, few)) are.2), words most counts blocks few are.3)

-- ---- the table of chunks of a fixed size
module _ (chunk points : ℕ) (sizes : List ℕ) (few : length sizes < 4294967296) (words-are : AreWords sizes) (count : length sizes ≡ chunk_count points chunk) where
  table : List ℕ
  table = table_bytes [] sizes

  held : TableHolds table (length sizes) false [] sizes
  unfolding table
  held = holds-fixed sizes (omega (arith, few)) words-are

  begins : BeginsTable table (Fixed chunk points) [] sizes
  begins = record { count = count; holds = held }

  only : (others more : List ℕ) → BeginsTable table (Fixed chunk points) others more → (others ≡ []) × (more ≡ sizes)
  unfolding table
  only others more other =
      let long : length more ≡ length sizes = other.count ∙ sym count in
      let same = one-held table (length sizes) false [] sizes others more (fixed-bytes sizes words-are) held (subst (λ (n : ℕ). TableHolds table n false others more) long other.holds) in
      (sym same.0, sym same.1)

  has : HasTable table (Fixed chunk points) [] sizes
  has = record { begins = begins; only = only }

  no_cause : IsFirst (table_causes table (Fixed chunk points) (sum sizes)) None
  no_cause = inr (
    λ lacks. lacks [] sizes has,
    inr (λ other. other.3 (ap sum (only other.0 other.1 other.2.begins).1), inr (λ none. none, refl)),
  )

  pub table_accepted : IsAccepted (table_bytes [] sizes) (Fixed chunk points) (sum sizes) (fixed_sizes chunk points) sizes
  unfolding table
  table_accepted = record {
    coded = [];
    table = has;
    sizes_are = refl;
    fine = no_cause;
  }

-- ---- the pieces of a file that has the chunks
-- a whole piece takes all of its block
pub whole_cut : (long at size count : ℕ) (block : List ℕ) → length block ≡ long * count → block ≡ cut_block long (whole_piece at size count) block
whole_cut long at size count block same =
    let none : long * 0 ≡ 0 = omega arith in
    sym (take_all (long * count) block (omega (arith, same))) ∙ ap (λ (n : ℕ). take (long * count) (drop n block)) (sym none)

module _ (file : List ℕ) (packed : is_packed (head_of file) ≡ true) where
  l : Layout
  l = record_layout (head_of file)

  -- a whole piece holds the block that its chunk holds
  holds_block : (at size count : ℕ) (block : List ℕ) → HoldsChunk (head_of file) count (piece_bytes file (whole_piece at size count)) block → HoldsBlock file (whole_piece at size count) block
  holds_block at size count block h = subst (λ (b : Bool). HoldsIf b file (whole_piece at size count) block) (sym packed) (block, h, whole_cut (record_length (record_layout (head_of file))) at size count block h.are.length)

  pub pieces_hold : (most at : ℕ) (counts : List ℕ) (blocks : List (List ℕ)) (rest : List ℕ) → AreBlocks (record_layout (head_of file)) most counts blocks
      → drop at file ≡ concat (map (chunk_bytes (record_layout (head_of file))) blocks) ++ rest
      → HoldBlocks file (pieces_from at counts (map length (map (chunk_bytes (record_layout (head_of file))) blocks))) blocks
  pieces_hold most at [] [] rest are there = tt
  pieces_hold most at [] (b ∷ blocks) rest are there = absurd are
  pieces_hold most at (n ∷ counts) [] rest are there = absurd are
  pieces_hold most at (n ∷ counts) (b ∷ blocks) rest are there =
      let layout = record_layout (head_of file) in
      let bytes = chunk_bytes layout b in
      let more = concat (map (chunk_bytes layout) blocks) ++ rest in
      let from : drop at file ≡ bytes ++ more = there ∙ append_assoc bytes (concat (map (chunk_bytes layout) blocks)) rest in
      let part : take (length bytes) (drop at file) ≡ bytes = ap (λ (t : List ℕ). take (length bytes) t) from ∙ take_at bytes more (length bytes) refl in
      let next : drop (at + length bytes) file ≡ more = sym (drop-drop (length bytes) at file) ∙ ap (λ (t : List ℕ). drop (length bytes) t) from ∙ drop_at bytes more (length bytes) refl in (
        holds_block at (length bytes) n b (record {
          are = are.2;
          holds = subst (λ (t : List ℕ). Holds layout t b) (sym part) (chunk-holds layout n b are.0 are.2);
        }),
        pieces_hold most (at + length bytes) counts blocks rest are.3 next,
      )

  -- the bytes of the pieces are the chunks
  pub bytes_are : (most at : ℕ) (counts : List ℕ) (blocks : List (List ℕ)) (rest : List ℕ) → AreBlocks (record_layout (head_of file)) most counts blocks
      → drop at file ≡ concat (map (chunk_bytes (record_layout (head_of file))) blocks) ++ rest
      → map (piece_bytes file) (pieces_from at counts (map length (map (chunk_bytes (record_layout (head_of file))) blocks))) ≡ map (chunk_bytes (record_layout (head_of file))) blocks
  bytes_are most at [] [] rest are there = refl
  bytes_are most at [] (b ∷ blocks) rest are there = absurd are
  bytes_are most at (n ∷ counts) [] rest are there = absurd are
  bytes_are most at (n ∷ counts) (b ∷ blocks) rest are there =
      let layout = record_layout (head_of file) in
      let bytes = chunk_bytes layout b in
      let more = concat (map (chunk_bytes layout) blocks) ++ rest in
      let from : drop at file ≡ bytes ++ more = there ∙ append_assoc bytes (concat (map (chunk_bytes layout) blocks)) rest in
      let part : take (length bytes) (drop at file) ≡ bytes = ap (λ (t : List ℕ). take (length bytes) t) from ∙ take_at bytes more (length bytes) refl in
      let next : drop (at + length bytes) file ≡ more = sym (drop-drop (length bytes) at file) ∙ ap (λ (t : List ℕ). drop (length bytes) t) from ∙ drop_at bytes more (length bytes) refl in
      ap (λ (t : List ℕ). t ∷ map (piece_bytes file) (pieces_from (at + length bytes) counts (map length (map (chunk_bytes layout) blocks)))) part
      ∙ ap (λ (ts : List (List ℕ)). bytes ∷ ts) (bytes_are most (at + length bytes) counts blocks rest are.3 next)
