-- The blocks of an accepted file's pieces, and of those of a range of it, are whole records.
use Rattle.std.proofs.Common.{◌≡◌, inl, inr, ℕ, zero, suc, ◌+◌, ◌*◌, ◌-◌, ◌%◌, ◌≤◌, min, Bool, true, false, List, [], ◌∷◌, length, map, take, drop, refl, sym, ◌∙◌, ap, subst, arith}
use Rattle.std.specs.Prelude.{All}
use Rattle.std.proofs.Math.Nat.{mul-le-mul_left, mul-mod_right}
use Rattle.std.proofs.lemmas.Bool.{cases_lt}
use Rattle.std.proofs.lemmas.List.{length-drop, length-take}
use Rattle.std.proofs.lemmas.List.Elements.{All-cons, All-nil}
use Rattle.las_header.specs.Fields.{head_of, is_packed, point_offset_of, points_of, record_length_of}
use Rattle.laz_range.specs.Span.{IsBytes}
use Rattle.laz_chunk.specs.Layouts.{record_length}
use Rattle.laz_table.specs.Chunks.{fixed_sizes}
use Rattle.laz_forms.specs.Packing.{record_layout}
use Rattle.laz_forms.specs.Pieces.{ArePieces, Piece, pieces_from, whole_piece}
use Rattle.laz_forms.specs.Ranges.{Range, parts_if, parts_of, whole_range}
use Rattle.laz_forms.specs.Records.{HoldBlocks, HoldsBlock, HoldsIf}
use Rattle.laz_forms.specs.Refusing.{IsAcceptedFile}
use Rattle.laz_forms.proofs.Public.{accepted_is_head, plain_records}
use Rattle.laz_reader.proofs.Public.{all_of}
use Rattle.laz_forms.proofs.Public.{record_is}

-- what is taken of whole records is whole records
taken : (size some all skip : ℕ) → (k : ℕ) × (min (size * some) (size * all - size * skip) ≡ size * k)
taken size some all skip = elim (cases_lt all skip) [
  | inl less ↦
      let none : size * all ≤ size * skip = mul-le-mul_left size (omega (arith, less)) in
      (0, omega (arith, none))
  | inr more ↦
      let rest : size * all ≡ size * skip + size * (all - skip) = let e : all ≡ skip + (all - skip) = omega (arith, more) in ap (λ (n : ℕ). size * n) e ∙ omega arith in
      elim (cases_lt some (all - skip)) [
        | inl few ↦
            let least : size * some ≤ size * (all - skip) = mul-le-mul_left size (omega (arith, few)) in
            (some, omega (arith, rest, least))
        | inr many ↦
            let most : size * (all - skip) ≤ size * some = mul-le-mul_left size many in
            (all - skip, omega (arith, rest, most))
      ]
]

module _ (file : List ℕ) where
  -- each block of these pieces has a multiple of this many bytes
  abbrev AreEven : (size : ℕ) → List Piece → Type 0
  AreEven size [] = Unit {0}
  AreEven size (p ∷ pieces) = ((block : List ℕ) → HoldsBlock file p block → length block % size ≡ 0) × AreEven size pieces

  first_even : (size : ℕ) (pieces : List Piece) (n : ℕ) → AreEven size pieces → AreEven size (take n pieces)
  first_even size pieces zero even = tt
  first_even size [] (suc n) even = tt
  first_even size (p ∷ pieces) (suc n) even = (even.0, first_even size pieces n even.1)

  even_blocks : (size : ℕ) (pieces : List Piece) (blocks : List (List ℕ)) → AreEven size pieces → HoldBlocks file pieces blocks → All (λ block. length block % size ≡ 0) blocks
  even_blocks size [] [] even hold = All-nil (λ (block : List ℕ). length block % size ≡ 0)
  even_blocks size [] (b ∷ blocks) even hold = absurd hold
  even_blocks size (p ∷ pieces) [] even hold = absurd hold
  even_blocks size (p ∷ pieces) (b ∷ blocks) even hold =
      All-cons (λ (block : List ℕ). length block % size ≡ 0) b blocks (even.0 b hold.0) (even_blocks size pieces blocks even.1 hold.1)

  -- ---- packed files
  packed_block : is_packed (head_of file) ≡ true → (piece : Piece) (block : List ℕ) → HoldsBlock file piece block → length block % record_length (record_layout (head_of file)) ≡ 0
  packed_block packed piece block h =
      let size = record_length (record_layout (head_of file)) in
      let c = subst (λ (b : Bool). HoldsIf b file piece block) packed h in
      let t = taken size piece.taken piece.count piece.skip in
      let long : length block ≡ size * t.0 =
      ap (λ (b : List ℕ). length b) c.2
      ∙ length-take (size * piece.taken) (drop (size * piece.skip) c.0)
      ∙ ap (min (size * piece.taken)) (length-drop (size * piece.skip) c.0 ∙ ap (λ (n : ℕ). n - size * piece.skip) c.1.are.length)
      ∙ t.1 in
      ap (λ (n : ℕ). n % size) long ∙ mul-mod_right size t.0

  packed_even : is_packed (head_of file) ≡ true → (pieces : List Piece) → AreEven (record_length (record_layout (head_of file))) pieces
  packed_even packed [] = tt
  packed_even packed (p ∷ pieces) = (packed_block packed p, packed_even packed pieces)

  -- ---- plain files, of this many records after the head
  module _ (plain : is_packed (head_of file) ≡ false) (size offset points : ℕ) (records : length (drop offset file) ≡ size * points) where
    plain_block : (k n : ℕ) (block : List ℕ) → HoldsBlock file (whole_piece (offset + size * k) (size * n) n) block → length block % size ≡ 0
    plain_block k n block h =
        let same = subst (λ (b : Bool). HoldsIf b file (whole_piece (offset + size * k) (size * n) n) block) plain h in
        let t = taken size n points k in
        let rest : length (drop (offset + size * k) file) ≡ size * points - size * k = omega (arith, records, length-drop offset file, length-drop (offset + size * k) file) in
        let long : length block ≡ size * t.0 =
        ap (λ (b : List ℕ). length b) same ∙ length-take (size * n) (drop (offset + size * k) file) ∙ ap (min (size * n)) rest ∙ t.1 in
        ap (λ (m : ℕ). m % size) long ∙ mul-mod_right size t.0

    plain_even : (k : ℕ) (counts : List ℕ) → AreEven size (pieces_from (offset + size * k) counts (map (λ n. size * n) counts))
    plain_even k [] = tt
    plain_even k (n ∷ counts) =
        let next : offset + size * (k + n) ≡ offset + size * k + size * n = omega arith in
        (plain_block k n, subst (λ (at : ℕ). AreEven size (pieces_from at counts (map (λ m. size * m) counts))) next (plain_even (k + n) counts))

  module _ (accepted : IsAcceptedFile file) (bytes : IsBytes file) (range : Range) where
    parts_even : (packed : Bool) (pieces : List Piece) → is_packed (head_of file) ≡ packed → AreEven (record_length_of (head_of file)) (parts_if packed (head_of file) (point_offset_of file) range pieces)
    parts_even true pieces packed =
        let parts = parts_if true (head_of file) (point_offset_of file) range pieces in
        subst (λ (n : ℕ). AreEven n parts) (record_is (head_of file) (accepted_is_head file accepted bytes)) (packed_even packed parts)
    parts_even false pieces plain =
        let records = plain_records file accepted plain (accepted_is_head file accepted bytes) in
        plain_even plain (record_length_of (head_of file)) (point_offset_of file) (points_of (head_of file)) records range.start (fixed_sizes 50000 (range.stop - range.start))

    -- the blocks of the first pieces that meet the range
    pub even_in : (pieces : List Piece) (n : ℕ) (blocks : List (List ℕ)) → HoldBlocks file (take n (parts_of file range pieces)) blocks → All (λ block. length block % record_length_of (head_of file) ≡ 0) blocks
    even_in pieces n blocks hold =
        let size = record_length_of (head_of file) in
        even_blocks size (take n (parts_of file range pieces)) blocks (first_even size (parts_of file range pieces) n (parts_even (is_packed (head_of file)) pieces refl)) hold

-- and of the first of all pieces
pub even_of : (file : List ℕ) → IsAcceptedFile file → IsBytes file → (pieces : List Piece) → ArePieces file pieces → (n : ℕ) (blocks : List (List ℕ)) → HoldBlocks file (take n pieces) blocks → All (λ block. length block % record_length_of (head_of file) ≡ 0) blocks
even_of file accepted bytes pieces are n blocks hold =
    even_in file accepted bytes (whole_range (head_of file)) pieces n blocks
    (subst (λ (ps : List Piece). HoldBlocks file (take n ps) blocks) (sym (all_of file pieces are).0) hold)
