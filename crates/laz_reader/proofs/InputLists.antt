-- The inputs of a batch of chunks, one by one.
use Rattle.std.proofs.Common.{◌≡◌, inl, inr, ℕ, zero, suc, ◌+◌, ◌<◌, ◌≤◌, List, [], ◌∷◌, ◌++◌, length, take, get_or, set, refl, sym, ◌∙◌, ap, subst, add-zero, arith, length-append}
use Rattle.std.specs.Prelude.{All, Vec, sum}
use Rattle.std.proofs.lemmas.Bool.{cases_eq}
use Rattle.std.proofs.lemmas.List.{get_or-set_same, get_or-set_other}
use Rattle.std.proofs.lemmas.List.Sums.{sum_by-take-drop, sum_by_more}
use Rattle.byteorder.specs.Endian.{little_bytes}
use Rattle.las_header.specs.Numbers.{number_at}
use Rattle.las_header.proofs.Public.{reads_back}
use Rattle.laz_workers.specs.Work.{texts}
use Rattle.laz_workers.proofs.Public.{length-texts}
use Rattle.laz_forms.specs.Pieces.{Piece, pieces_from, whole_piece}
use Rattle.laz_reader.specs.Reading.{LiesIn}
use Rattle.laz_reader.specs.Unpacking.{IsInput}
use Rattle.laz_reader.proofs.PieceLists.{length-pieces}
use Rattle.laz_models.proofs.Public.{sum-cons}

-- the number of records, and then the chunk's bytes
pub shape_of : (count : ℕ) (front chunk : List ℕ) → front ≡ little_bytes 4 count → count < 4294967296 → IsInput count (front ++ chunk)
shape_of count front chunk is small =
    let long : length front ≡ 4 = ap (λ (l : List ℕ). length l) is in
    (omega (arith, length-append front chunk, long), ap (λ (l : List ℕ). number_at 4 0 (l ++ chunk)) is ∙ reads_back 4 count chunk small)

-- inputs, where one was read anew
texts-set : {A : Type 0} (inputs : List (Vec ℕ A)) (i : ℕ) (v : Vec ℕ A) → set (texts inputs) i v.items ≡ texts (set inputs i v)
texts-set [] i v = refl
texts-set (x ∷ xs) zero v = refl
texts-set (x ∷ xs) (suc i) v = ap (λ (t : List (List ℕ)). x.items ∷ t) (texts-set xs i v)

-- what holds of each input so far, and of the next one
pub at_set : {A : Type 0} (P : ℕ → List ℕ → Type 0) (inputs : List (Vec ℕ A)) (i : ℕ) (v : Vec ℕ A) → i < length inputs → ((k : ℕ) → k < i → P k (get_or (texts inputs) k [])) → P i v.items → (k : ℕ) → k < i + 1 → P k (get_or (texts (set inputs i v)) k [])
at_set P inputs i v within so_far here k lt =
    let long : i < length (texts inputs) = omega (arith, length-texts inputs) in
    subst (λ (t : List (List ℕ)). P k (get_or t k [])) (texts-set inputs i v)
    (elim (cases_eq k i) [
      | inl same ↦ subst (λ (j : ℕ). P j (get_or (set (texts inputs) i v.items) j [])) (sym same) (subst (P i) (sym (get_or-set_same (texts inputs) i v.items [] long)) here)
      | inr other ↦ subst (P k) (sym (get_or-set_other (texts inputs) i k v.items [] other)) (so_far k (omega (arith, lt, other)))
    ])

-- the pieces one by one
pub piece_at : (at : ℕ) (counts sizes : List ℕ) (k : ℕ) (d : Piece) → length counts ≡ length sizes → k < length counts → get_or (pieces_from at counts sizes) k d ≡ whole_piece (at + sum (take k sizes)) (get_or sizes k 0) (get_or counts k 0)
piece_at at [] sizes k d same lt = absurd (omega arith)
piece_at at (n ∷ counts) [] k d same lt = absurd (omega arith)
piece_at at (n ∷ counts) (s ∷ sizes) zero d same lt = λ i. whole_piece (sym (add-zero at) i) s n
piece_at at (n ∷ counts) (s ∷ sizes) (suc k) d same lt =
    let e : at + s + sum (take k sizes) ≡ at + sum (s ∷ take k sizes) = omega (arith, sum-cons s (take k sizes)) in
    piece_at (at + s) counts sizes k d (omega arith) (omega arith) ∙ (λ i. whole_piece (e i) (get_or sizes k 0) (get_or counts k 0))

-- where a piece lies
pub lies_at : (file : List ℕ) (at : ℕ) (counts sizes : List ℕ) (k : ℕ) → length counts ≡ length sizes → k < length counts → All (LiesIn file) (pieces_from at counts sizes) → at + sum (take k sizes) + get_or sizes k 0 ≤ length file
lies_at file at counts sizes k same lt all =
    let d : Piece = whole_piece 0 0 0 in
    subst (LiesIn file) (piece_at at counts sizes k d same lt) (all k d (subst (λ (n : ℕ). k < n) (sym (length-pieces at counts sizes same)) lt))

pub end_within : (sizes : List ℕ) (i : ℕ) → i < length sizes → sum (take i sizes) + get_or sizes i 0 ≤ sum sizes
end_within sizes i lt = omega (arith, sum_by_more (λ x. x) sizes i 0 lt, sum_by-take-drop (λ x. x) sizes (i + 1))

pub next_place : (sizes : List ℕ) (i : ℕ) → i < length sizes → sum (take (i + 1) sizes) ≡ sum (take i sizes) + get_or sizes i 0
next_place sizes i lt = sum_by_more (λ x. x) sizes i 0 lt
