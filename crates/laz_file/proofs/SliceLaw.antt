-- The records of a range of a file are a slice of its records.
use Rattle.std.proofs.Common.{◌≡◌, ℕ, ◌+◌, ◌-◌, ◌*◌, ◌≤◌, nat_lt, Bool, true, false, cond, List, [], ◌∷◌, map, take, drop, None, refl, sym, ◌∙◌, ap, subst, arith}
use Rattle.std.specs.List.{concat}
use Rattle.std.proofs.lemmas.List.{drop-drop, drop-take, take-take}
use Rattle.std.proofs.Math.Nat.{mul-le-mul_left}
use Rattle.las_header.specs.Fields.{head_of, is_packed, point_offset_of, points_of, record_length_of}
use Rattle.las_header.specs.Heads.{IsHead}
use Rattle.laz_chunk.specs.Layouts.{record_length}
use Rattle.laz_forms.specs.Laws.{IsSliceOfRecords}
use Rattle.laz_forms.specs.Packing.{record_layout}
use Rattle.laz_forms.specs.Pieces.{ArePiecesIf, Piece, piece_bytes, pieces_from, plain_from, whole_piece}
use Rattle.laz_forms.specs.Ranges.{Range, part_in, parts_if, parts_in, taken_of}
use Rattle.laz_forms.specs.Records.{HoldBlocks, HoldsBlock, HoldsChunk, HoldsIf, cut_block}
use Rattle.laz_forms.specs.Refusing.{chunks_place}
use Rattle.laz_table.specs.Chunks.{fixed_sizes}
use Rattle.laz_forms.proofs.Public.{accepted_is_head}
use Rattle.laz_forms.proofs.Public.{whole_cut}
use Rattle.laz_reader.proofs.Public.{summed}
use Rattle.laz_forms.proofs.Public.{record_is}
use Rattle.laz_forms.proofs.Public.{AreWhole, parts_cut, slice}
use Rattle.laz_forms.proofs.Public.{hold-plain, only-plain, pieces-joined}

-- ---- packed files
module _ (file : List ℕ) (packed : is_packed (head_of file) ≡ true) where
  -- a whole piece holds all of what its chunk holds
  whole_held : (at size count : ℕ) (block : List ℕ) → HoldsBlock file (whole_piece at size count) block → HoldsChunk (head_of file) count (piece_bytes file (whole_piece at size count)) block
  whole_held at size count block h =
      let c = subst (λ (b : Bool). HoldsIf b file (whole_piece at size count) block) packed h in
      let same : block ≡ c.0 = c.2 ∙ sym (whole_cut (record_length (record_layout (head_of file))) at size count c.0 c.1.are.length) in
      subst (λ (b : List ℕ). HoldsChunk (head_of file) count (piece_bytes file (whole_piece at size count)) b) (sym same) c.1

  whole_blocks_are : (at : ℕ) (counts sizes : List ℕ) (blocks : List (List ℕ)) → HoldBlocks file (pieces_from at counts sizes) blocks → AreWhole (record_length (record_layout (head_of file))) (pieces_from at counts sizes) blocks
  whole_blocks_are at [] sizes [] h = tt
  whole_blocks_are at [] sizes (b ∷ blocks) h = absurd h
  whole_blocks_are at (n ∷ counts) [] [] h = tt
  whole_blocks_are at (n ∷ counts) [] (b ∷ blocks) h = absurd h
  whole_blocks_are at (n ∷ counts) (s ∷ sizes) [] h = absurd h
  whole_blocks_are at (n ∷ counts) (s ∷ sizes) (b ∷ blocks) h = ((whole_held at s n b h.0).are.length, whole_blocks_are (at + s) counts sizes blocks h.1)

  -- one piece, if it meets the range
  one : (range : Range) (first at s n : ℕ) (b : List ℕ) (pieces : List Piece) (blocks : List (List ℕ)) → HoldsBlock file (whole_piece at s n) b
      → HoldBlocks file (parts_in range (first + n) pieces) (parts_cut (record_length (record_layout (head_of file))) range (first + n) pieces blocks) → (t : Bool)
      → HoldBlocks file (cond t (part_in range first (whole_piece at s n) ∷ parts_in range (first + n) pieces) (parts_in range (first + n) pieces))
      (cond t (cut_block (record_length (record_layout (head_of file))) (part_in range first (whole_piece at s n)) b ∷ parts_cut (record_length (record_layout (head_of file))) range (first + n) pieces blocks)
      (parts_cut (record_length (record_layout (head_of file))) range (first + n) pieces blocks))
  one range first at s n b pieces blocks h rest true = (
    subst (λ (t : Bool). HoldsIf t file (part_in range first (whole_piece at s n)) (cut_block (record_length (record_layout (head_of file))) (part_in range first (whole_piece at s n)) b)) (sym packed) (b, whole_held at s n b h, refl),
    rest,
  )
  one range first at s n b pieces blocks h rest false = rest

  -- the parts hold the parts of the blocks
  parts_hold : (range : Range) (first at : ℕ) (counts sizes : List ℕ) (blocks : List (List ℕ)) → HoldBlocks file (pieces_from at counts sizes) blocks
      → HoldBlocks file (parts_in range first (pieces_from at counts sizes)) (parts_cut (record_length (record_layout (head_of file))) range first (pieces_from at counts sizes) blocks)
  parts_hold range first at [] sizes [] h = tt
  parts_hold range first at [] sizes (b ∷ blocks) h = absurd h
  parts_hold range first at (n ∷ counts) [] [] h = tt
  parts_hold range first at (n ∷ counts) [] (b ∷ blocks) h = absurd h
  parts_hold range first at (n ∷ counts) (s ∷ sizes) [] h = absurd h
  parts_hold range first at (n ∷ counts) (s ∷ sizes) (b ∷ blocks) h =
      one range first at s n b (pieces_from (at + s) counts sizes) blocks h.0 (parts_hold range (first + n) (at + s) counts sizes blocks h.1) (nat_lt 0 (taken_of range first n))

  packed_slice : (range : Range) (at : ℕ) (counts sizes : List ℕ) (blocks : List (List ℕ)) → IsHead (head_of file) → HoldBlocks file (pieces_from at counts sizes) blocks → range.start ≤ range.stop
      → concat (parts_cut (record_length (record_layout (head_of file))) range 0 (pieces_from at counts sizes) blocks)
      ≡ take (record_length_of (head_of file) * (range.stop - range.start)) (drop (record_length_of (head_of file) * range.start) (concat blocks))
  packed_slice range at counts sizes blocks head h order =
      slice (record_length (record_layout (head_of file))) range (pieces_from at counts sizes) blocks (whole_blocks_are at counts sizes blocks h) order
      ∙ ap (λ (n : ℕ). take (n * (range.stop - range.start)) (drop (n * range.start) (concat blocks))) (record_is (head_of file) head)

-- ---- plain files
plain_joined : (file : List ℕ) (size at n : ℕ) → concat (map (piece_bytes file) (plain_from size at n)) ≡ take (size * n) (drop at file)
plain_joined file size at n = pieces-joined file at size (fixed_sizes 50000 n) ∙ ap (λ (k : ℕ). take k (drop at file)) (summed size n)

plain_slice : (file : List ℕ) (size offset points : ℕ) (range : Range) → range.start ≤ range.stop → range.stop ≤ points
    → concat (map (piece_bytes file) (plain_from size (offset + size * range.start) (range.stop - range.start)))
    ≡ take (size * (range.stop - range.start)) (drop (size * range.start) (concat (map (piece_bytes file) (plain_from size offset points))))
plain_slice file size offset points range order within =
    let m = range.stop - range.start in
    let k = points - range.start in
    let all : size * points ≡ size * range.start + size * k = let e : points ≡ range.start + k = omega (arith, order, within) in ap (λ (n : ℕ). size * n) e ∙ omega arith in
    let few : m ≤ k = omega (arith, order, within) in
    let rest = drop offset file in
    plain_joined file size (offset + size * range.start) m
    ∙ ap (take (size * m)) (sym (drop-drop (size * range.start) offset file))
    ∙ sym (take-take (size * m) (size * k) (drop (size * range.start) rest) (mul-le-mul_left size few))
    ∙ ap (take (size * m)) (sym (drop-take (size * range.start) (size * k) rest))
    ∙ ap (λ (n : ℕ). take (size * m) (drop (size * range.start) (take n rest))) (sym all)
    ∙ ap (λ (t : List ℕ). take (size * m) (drop (size * range.start) t)) (sym (plain_joined file size offset points))

-- ---- both
sliced : (packed : Bool) (file : List ℕ) (range : Range) (pieces : List Piece) (blocks : List (List ℕ)) → is_packed (head_of file) ≡ packed → IsHead (head_of file) → range.start ≤ range.stop → range.stop ≤ points_of (head_of file)
    → ArePiecesIf packed file pieces → HoldBlocks file pieces blocks
    → (parts : List (List ℕ)) × HoldBlocks file (parts_if packed (head_of file) (point_offset_of file) range pieces) parts
    × (concat parts ≡ take (record_length_of (head_of file) * (range.stop - range.start)) (drop (record_length_of (head_of file) * range.start) (concat blocks)))
sliced true file range pieces blocks is head order within are hold =
    let from = pieces_from (chunks_place file) are.0 are.1 in
    let h = subst (λ (ps : List Piece). HoldBlocks file ps blocks) are.3 hold in
    let parts = parts_cut (record_length (record_layout (head_of file))) range 0 from blocks in (
      parts,
      subst (λ (ps : List Piece). HoldBlocks file (parts_in range 0 ps) parts) (sym are.3) (parts_hold file is range 0 (chunks_place file) are.0 are.1 blocks h),
      packed_slice file is range (chunks_place file) are.0 are.1 blocks head h order,
    )
sliced false file range pieces blocks is head order within are hold =
    let size = record_length_of (head_of file) in
    let offset = point_offset_of file in
    let some = plain_from size (offset + size * range.start) (range.stop - range.start) in
    let same : blocks ≡ map (piece_bytes file) (plain_from size offset (points_of (head_of file))) = only-plain file is pieces blocks hold ∙ ap (map (piece_bytes file)) are in (
      map (piece_bytes file) some,
      hold-plain file is some,
      plain_slice file size offset (points_of (head_of file)) range order within ∙ ap (λ (bs : List (List ℕ)). take (size * (range.stop - range.start)) (drop (size * range.start) (concat bs))) (sym same),
    )

pub slice_of_records : IsSliceOfRecords
slice_of_records file range blocks accepted bytes order within of =
    let s = sliced (is_packed (head_of file)) file range of.0 blocks refl (accepted_is_head file accepted bytes) order within of.1 of.2 in
    (s.0, (of.0, None, of.1, s.1, refl), s.2)
