-- What is read of whole files: of packed forms no piece is bad, and of plain files the pieces are the records.
use Rattle.std.proofs.Common.{◌≡◌, inl, inr, ℕ, zero, suc, ◌+◌, ◌*◌, ◌<◌, ◌≤◌, sum, Bool, false, List, [], ◌∷◌, ◌++◌, length, map, take, drop, slice_get, Option, Some, None, refl, sym, ap, subst, ◌∙◌, arith}
use Rattle.std.proofs.lemmas.Bool.{cases_lt}
use Rattle.std.proofs.lemmas.List.{drop-drop, take-append-drop, take_all}
use Rattle.std.proofs.Math.Seq.{take-add}
use Rattle.std.specs.List.{concat}
use Rattle.std.proofs.lemmas.Option.{none-some}
use Rattle.las_header.specs.Fields.{head_of, is_packed, point_offset_of, points_of, record_length_of}
use Rattle.las_header.specs.Plain.{plain_head}
use Rattle.laz_table.specs.Chunks.{fixed_sizes}
use Rattle.laz_forms.specs.Laws.{HasNoBadPiece, IsBadIf, IsItsPlainForm, IsReadOnce, ReadsBack, ReadsPlain, pieces_before}
use Rattle.laz_forms.specs.Records.{HoldOnly}
use Rattle.laz_forms.specs.Packing.{packed_file}
use Rattle.laz_forms.specs.Pieces.{ArePieces, ArePiecesIf, Piece, piece_bytes, pieces_from, plain_pieces}
use Rattle.laz_forms.specs.Records.{AreRead, HoldBlocks, HoldsBlock, HoldsIf, IsBadPiece, Unpacks}
use Rattle.laz_forms.proofs.Accepted.{plain_file}
use Rattle.laz_forms.proofs.OneAnswer.{one_pieces}
use Rattle.laz_forms.proofs.Packed.{plain-is, unpacks_again}
use Rattle.laz_forms.proofs.Sums.{sum-sizes, sum-times}
use Rattle.laz_models.proofs.Public.{sum-cons}
use Rattle.laz_integer.proofs.Public.{cons_same}

-- ---- packed forms
pub some_same : {X : Type 0} (x y : X) → Some x ≡ Some y → x ≡ y
some_same x y e = cc

-- each of the pieces holds a block
holds_at : (file : List ℕ) (pieces : List Piece) (blocks : List (List ℕ)) (i : ℕ) (piece : Piece) → HoldBlocks file pieces blocks → slice_get pieces i ≡ Some piece
    → (block : List ℕ) × HoldsBlock file piece block
holds_at file [] [] i piece hold e = absurd (none-some piece e)
holds_at file [] (b ∷ blocks) i piece hold e = absurd hold
holds_at file (p ∷ pieces) [] i piece hold e = absurd hold
holds_at file (p ∷ pieces) (b ∷ blocks) zero piece hold e = (b, subst (λ (q : Piece). HoldsBlock file q b) (some_same p piece e) hold.0)
holds_at file (p ∷ pieces) (b ∷ blocks) (suc i) piece hold e = holds_at file pieces blocks i piece hold.1 e

-- a piece that holds a block is not bad
not_bad : (file : List ℕ) (pieces : List Piece) (i : ℕ) → IsBadPiece file pieces i → ((piece : Piece) → slice_get pieces i ≡ Some piece → (block : List ℕ) × HoldsBlock file piece block) → ⊥
not_bad file pieces i bad held = let found = held bad.0 bad.1 in bad.2 found.0 found.1

slice_get-take : (i j : ℕ) (pieces : List Piece) (piece : Piece) → i < j → slice_get pieces i ≡ Some piece → slice_get (take j pieces) i ≡ Some piece
slice_get-take i zero pieces piece before e = absurd (omega (arith, before))
slice_get-take i (suc j) [] piece before e = absurd (none-some piece e)
slice_get-take zero (suc j) (p ∷ pieces) piece before e = e
slice_get-take (suc i) (suc j) (p ∷ pieces) piece before e = slice_get-take i j pieces piece (omega (arith, before)) e

-- nor is one before others that are held
pub not_bad_before : (file : List ℕ) (pieces : List Piece) (blocks : List (List ℕ)) (i j : ℕ) → i < j → HoldBlocks file (take j pieces) blocks → IsBadPiece file pieces i → ⊥
not_bad_before file pieces blocks i j before hold bad =
    not_bad file pieces i bad (λ piece e. holds_at file (take j pieces) blocks i piece hold (slice_get-take i j pieces piece before e))

-- two numbers of the first bad piece are the same
same_bad : (file : List ℕ) (pieces : List Piece) (xs ys : List (List ℕ)) (i j : ℕ) → HoldBlocks file (take i pieces) xs → IsBadPiece file pieces i → HoldBlocks file (take j pieces) ys → IsBadPiece file pieces j → j ≡ i
same_bad file pieces xs ys i j before bad hold worse = elim (cases_lt i j) [
  | inl less ↦ absurd (not_bad_before file pieces ys i j less hold bad)
  | inr more ↦ elim (cases_lt j i) [
    | inl less ↦ absurd (not_bad_before file pieces xs j i less before worse)
    | inr same ↦ omega (arith, more, same)
  ]
]

pub once : (file : List ℕ) (pieces : List Piece) (blocks : List (List ℕ)) (bad : Option ℕ) → HoldOnly file (pieces_before bad pieces) blocks → IsBadIf bad file pieces
    → (others : List (List ℕ)) (worse : Option ℕ) → AreRead file pieces others worse → (others ≡ blocks) × (worse ≡ bad)
once file pieces blocks None holds bad others None read = (holds.only others read, refl)
once file pieces blocks None holds bad others (Some j) read = absurd (not_bad file pieces j read.1 (λ piece e. holds_at file pieces blocks j piece holds.hold e))
once file pieces blocks (Some i) holds bad others None read = absurd (not_bad file pieces i bad (λ piece e. holds_at file pieces others i piece read e))
once file pieces blocks (Some i) holds bad others (Some j) read =
    let same = same_bad file pieces blocks others i j holds.hold bad read.0 read.1 in
    (holds.only others (subst (λ (n : ℕ). HoldBlocks file (take n pieces) others) same read.0), ap (λ (n : ℕ). Some n) same)

pub read_once : IsReadOnce
read_once file pieces blocks bad are holds is others worse of =
    let same = one_pieces file of.0 pieces of.1 are in
    once file pieces blocks bad holds is others worse (subst (λ (ps : List Piece). AreRead file ps others worse) same of.2)

pub no_bad_piece : HasNoBadPiece
no_bad_piece file chunk can pieces i are bad =
    let form = packed_file file chunk in
    let whole = unpacks_again file chunk can in
    let same = one_pieces form whole.1.0 pieces whole.1.1 are in
    let hold = subst (λ (ps : List Piece). HoldBlocks form ps whole.0) same whole.1.2 in
    let found = holds_at form pieces whole.0 i bad.0 hold bad.1 in
    bad.2 found.0 found.1

pub reads_back : ReadsBack
reads_back file chunk can pieces blocks are holds =
    let form = packed_file file chunk in
    let whole = unpacks_again file chunk can in
    let same = one_pieces form whole.1.0 pieces whole.1.1 are in
    let hold = subst (λ (ps : List Piece). HoldBlocks form ps whole.0) same whole.1.2 in
    ap (λ (bs : List (List ℕ)). plain_head form ++ concat bs) (sym (holds.only whole.0 hold)) ∙ sym whole.2

-- ---- plain files
-- pieces one after another are the bytes from the first on
pub pieces-joined : (file : List ℕ) (at size : ℕ) (counts : List ℕ) → concat (map (piece_bytes file) (pieces_from at counts (map (λ n. size * n) counts))) ≡ take (sum (map (λ n. size * n) counts)) (drop at file)
pieces-joined file at size [] = refl
pieces-joined file at size (n ∷ counts) =
    let more = sum (map (λ n. size * n) counts) in
    ap (λ (t : List ℕ). take (size * n) (drop at file) ++ t) (pieces-joined file (at + size * n) size counts ∙ ap (λ (t : List ℕ). take more t) (sym (drop-drop (size * n) at file)))
    ∙ sym (take-add (size * n) more (drop at file))
    ∙ ap (λ (m : ℕ). take m (drop at file)) (sym (sum-cons (size * n) (map (λ n. size * n) counts)))

holds-plain : (file : List ℕ) → is_packed (head_of file) ≡ false → (piece : Piece) → HoldsBlock file piece (piece_bytes file piece)
holds-plain file plain piece = subst (λ (b : Bool). HoldsIf b file piece (piece_bytes file piece)) (sym plain) refl

pub hold-plain : (file : List ℕ) → is_packed (head_of file) ≡ false → (pieces : List Piece) → HoldBlocks file pieces (map (piece_bytes file) pieces)
hold-plain file plain [] = tt
hold-plain file plain (p ∷ pieces) = (holds-plain file plain p, hold-plain file plain pieces)

pub only-plain : (file : List ℕ) → is_packed (head_of file) ≡ false → (pieces : List Piece) (blocks : List (List ℕ)) → HoldBlocks file pieces blocks → blocks ≡ map (piece_bytes file) pieces
only-plain file plain [] [] hold = refl
only-plain file plain [] (b ∷ blocks) hold = absurd hold
only-plain file plain (p ∷ pieces) [] hold = absurd hold
only-plain file plain (p ∷ pieces) (b ∷ blocks) hold =
    cons_same b (piece_bytes file p) blocks (map (piece_bytes file) pieces) (subst (λ (c : Bool). HoldsIf c file p b) plain hold.0) (only-plain file plain pieces blocks hold.1)

module _ (file : List ℕ) (plain : is_packed (head_of file) ≡ false) (all : length (drop (point_offset_of file) file) ≡ record_length_of (head_of file) * points_of (head_of file)) where
  abbrev counts : List ℕ
  counts = fixed_sizes 50000 (points_of (head_of file))

  whole : concat (map (piece_bytes file) (plain_pieces file)) ≡ drop (point_offset_of file) file
  whole =
      let size = record_length_of (head_of file) in
      let records = drop (point_offset_of file) file in
      let few : length records ≤ sum (map (λ n. size * n) counts) =
      omega (arith, all, sum-times size counts, ap (λ (n : ℕ). size * n) (sum-sizes 50000 (points_of (head_of file)) (omega arith))) in
      pieces-joined file (point_offset_of file) size counts ∙ take_all (sum (map (λ n. size * n) counts)) records few

  pub plain_are : ArePieces file (plain_pieces file)
  plain_are = subst (λ (b : Bool). ArePiecesIf b file (plain_pieces file)) (sym plain) refl

  pub plain_unpacks : Unpacks file file
  plain_unpacks = (
    map (piece_bytes file) (plain_pieces file),
    (plain_pieces file, plain_are, hold-plain file plain (plain_pieces file)),
    sym (ap (λ (t : List ℕ). t ++ concat (map (piece_bytes file) (plain_pieces file))) (sym (plain-is file plain)) ∙ ap (λ (t : List ℕ). head_of file ++ t) whole ∙ take-append-drop (point_offset_of file) file),
  )

  pub plain_read : (pieces : List Piece) (blocks : List (List ℕ)) → ArePieces file pieces → HoldBlocks file pieces blocks → concat blocks ≡ drop (point_offset_of file) file
  plain_read pieces blocks are hold =
      ap concat (only-plain file plain pieces blocks hold)
      ∙ ap (λ (ps : List Piece). concat (map (piece_bytes file) ps)) (one_pieces file pieces (plain_pieces file) are plain_are)
      ∙ whole

pub is_plain_form : IsItsPlainForm
is_plain_form file accepted plain bytes = let p = plain_file file accepted plain bytes in plain_unpacks file plain p.records

pub reads_plain : ReadsPlain
reads_plain file accepted plain bytes pieces blocks are hold =
    let p = plain_file file accepted plain bytes in
    plain_read file plain p.records pieces blocks are hold
