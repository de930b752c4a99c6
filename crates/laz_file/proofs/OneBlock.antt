-- Each piece of a file holds at most one block, whatever the file's bytes are.
use Rattle.std.proofs.Common.{◌≡◌, inl, inr, ℕ, zero, suc, ◌≤◌, Bool, true, false, List, [], ◌∷◌, ◌++◌, length, take, drop, Option, Some, None, refl, sym, ap, subst, ◌∙◌, arith}
use Rattle.std.proofs.lemmas.Bool.{cases_lt}
use Rattle.std.proofs.lemmas.List.{append-nil, take_all, nil_from_length}
use Rattle.las_header.specs.Fields.{head_of, is_packed}
use Rattle.laz_range.specs.Span.{IsBytes}
use Rattle.laz_range.proofs.Public.{IsBytes-drop, IsBytes-take}
use Rattle.laz_chunk.specs.Chunks.{AreRecords, Holds}
use Rattle.laz_chunk.specs.Layouts.{Layout, record_length}
use Rattle.laz_forms.specs.Packing.{record_layout}
use Rattle.laz_forms.specs.Pieces.{ArePieces, Piece, piece_bytes}
use Rattle.laz_forms.specs.Ranges.{Range, first_of, parts_of}
use Rattle.laz_forms.specs.Records.{AreRead, AreRecordsIn, AreRecordsOf, HoldBlocks, HoldOnly, HoldsBlock, HoldsIf, cut_block, moved}
use Rattle.laz_reader.proofs.Public.{more_first}
use Rattle.laz_file.proofs.RangeLaws.{range_once}
use Rattle.laz_forms.proofs.Public.{not_bad_before, read_once}

-- At most one list of records is held by a chunk's bytes: a law of chunks.
abbrev pub OneIsHeld : Type 0
OneIsHeld = (l : Layout) (count : ℕ) (bytes one other : List ℕ) → 1 ≤ count → IsBytes bytes → AreRecords l count one → AreRecords l count other → Holds l bytes one → Holds l bytes other → one ≡ other

-- a chunk of no record holds none
held-once : (held : OneIsHeld) (l : Layout) (count : ℕ) (bytes one other : List ℕ) → IsBytes bytes → AreRecords l count one → AreRecords l count other → Holds l bytes one → Holds l bytes other → one ≡ other
held-once held l zero bytes one other small are others s t = nil_from_length one (are.length ∙ omega arith) ∙ sym (nil_from_length other (others.length ∙ omega arith))
held-once held l (suc n) bytes one other small are others s t = held l (suc n) bytes one other (omega arith) small are others s t

-- several pieces hold at most one list of blocks, if each of them holds at most one block
module _ (file : List ℕ) (once : (piece : Piece) (one other : List ℕ) → HoldsBlock file piece one → HoldsBlock file piece other → one ≡ other) where
  same_list : (a b : List ℕ) (xs ys : List (List ℕ)) → a ≡ b → xs ≡ ys → a ∷ xs ≡ b ∷ ys
  same_list a b xs ys e f = cc

  blocks-once : (pieces : List Piece) (ones others : List (List ℕ)) → HoldBlocks file pieces ones → HoldBlocks file pieces others → others ≡ ones
  blocks-once [] [] [] h k = refl
  blocks-once [] [] (b ∷ others) h k = absurd k
  blocks-once [] (a ∷ ones) others h k = absurd h
  blocks-once (p ∷ pieces) [] others h k = absurd h
  blocks-once (p ∷ pieces) (a ∷ ones) [] h k = absurd k
  blocks-once (p ∷ pieces) (a ∷ ones) (b ∷ others) h k = same_list b a others ones (once p b a k.0 h.0) (blocks-once pieces ones others h.1 k.1)

  pub only-blocks : (pieces : List Piece) (blocks : List (List ℕ)) → HoldBlocks file pieces blocks → HoldOnly file pieces blocks
  only-blocks pieces blocks h = record { hold = h; only = λ others k. blocks-once pieces blocks others h k }

  -- what is read of some pieces begins with the blocks of the first of them
  pub begins-with : (pieces : List Piece) (n : ℕ) (blocks others : List (List ℕ)) (bad : Option ℕ) → HoldBlocks file (take n pieces) blocks → AreRead file pieces others bad → (more : List (List ℕ)) × (others ≡ blocks ++ more)
  begins-with pieces n blocks others None hold read = elim (cases_lt n (length pieces)) [
    | inl less ↦
        let whole = subst (λ (ps : List Piece). HoldBlocks file ps others) (sym (take_all (length pieces) pieces (omega arith))) read in
        more_first file pieces n (length pieces) blocks others (only-blocks (take n pieces) blocks hold) whole (omega (arith, less))
    | inr all ↦
        let whole = subst (λ (ps : List Piece). HoldBlocks file ps others) (sym (take_all n pieces all)) read in
        ([], blocks-once (take n pieces) blocks others hold whole ∙ sym (append-nil blocks))
  ]
  begins-with pieces n blocks others (Some i) hold read = elim (cases_lt i n) [
    | inl less ↦ absurd (not_bad_before file pieces blocks i n less hold read.1)
    | inr more ↦ more_first file pieces n i blocks others (only-blocks (take n pieces) blocks hold) read.0 more
  ]

module _ (held : OneIsHeld) (file : List ℕ) (small : IsBytes file) where
  of-kind : (packed : Bool) (piece : Piece) (one other : List ℕ) → HoldsIf packed file piece one → HoldsIf packed file piece other → one ≡ other
  of-kind true piece one other h k =
      let l : Layout = record_layout (head_of file) in
      let bytes = IsBytes-take piece.size (drop piece.start file) (IsBytes-drop piece.start file small) in
      let same : h.0 ≡ k.0 = held-once held l piece.count (piece_bytes file piece) h.0 k.0 bytes h.1.are k.1.are h.1.holds k.1.holds in
      h.2 ∙ (ap (λ whole. cut_block (record_length l) piece whole) same ∙ sym k.2)
  of-kind false piece one other h k = h ∙ sym k

  pub one-block : (piece : Piece) (one other : List ℕ) → HoldsBlock file piece one → HoldsBlock file piece other → one ≡ other
  one-block piece one other h k = of-kind (is_packed (head_of file)) piece one other h k

  pub one-records : (blocks others : List (List ℕ)) (bad worse : Option ℕ) → AreRecordsOf file blocks bad → AreRecordsOf file others worse → (others ≡ blocks) × (worse ≡ bad)
  one-records blocks others None worse are of = read_once file are.0 blocks None are.1 (only-blocks file one-block are.0 blocks are.2) tt others worse of
  one-records blocks others (Some i) worse are of = read_once file are.0 blocks (Some i) are.1 (only-blocks file one-block (take i are.0) blocks are.2.0) are.2.1 others worse of

  in-range : (range : Range) (blocks others : List (List ℕ)) (pieces : List Piece) (found worse : Option ℕ) → ArePieces file pieces → AreRead file (parts_of file range pieces) blocks found → AreRecordsIn file range others worse
      → (others ≡ blocks) × (worse ≡ moved (first_of file range pieces) found)
  in-range range blocks others pieces None worse are read of = range_once file range pieces blocks None are (only-blocks file one-block (parts_of file range pieces) blocks read) tt others worse of
  in-range range blocks others pieces (Some i) worse are read of = range_once file range pieces blocks (Some i) are (only-blocks file one-block (take i (parts_of file range pieces)) blocks read.0) read.1 others worse of

  pub one-in-range : (range : Range) (blocks others : List (List ℕ)) (bad worse : Option ℕ) → AreRecordsIn file range blocks bad → AreRecordsIn file range others worse → (others ≡ blocks) × (worse ≡ bad)
  one-in-range range blocks others bad worse are of =
      let same = in-range range blocks others are.0 are.1 worse are.2 are.3 of in
      (same.0, same.1 ∙ sym are.4)
