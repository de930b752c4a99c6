-- The blocks of the first pieces of a file, and of more of them.
use Rattle.std.proofs.Common.{◌≡◌, ℕ, zero, suc, ◌+◌, ◌-◌, ◌<◌, ◌≤◌, List, [], ◌∷◌, ◌++◌, length, take, drop, slice_get, Some, refl, sym, ◌∙◌, ap, subst, arith}
use Rattle.std.proofs.lemmas.List.{take-append-drop}
use Rattle.std.proofs.Math.Seq.{take-add}
use Rattle.laz_forms.specs.Pieces.{Piece}
use Rattle.laz_forms.specs.Records.{HoldBlocks, HoldOnly}
use Rattle.laz_reader.proofs.Joins.{hold-append}

-- the blocks of some pieces, and of others after them
pub hold_split : (file : List ℕ) (ps qs : List Piece) (blocks : List (List ℕ)) → HoldBlocks file (ps ++ qs) blocks → HoldBlocks file ps (take (length ps) blocks) × HoldBlocks file qs (drop (length ps) blocks)
hold_split file [] qs blocks h = (tt, h)
hold_split file (p ∷ ps) qs [] h = absurd h
hold_split file (p ∷ ps) qs (b ∷ blocks) h =
    let rest = hold_split file ps qs blocks h.1 in
    ((h.0, rest.0), rest.1)

-- there are as many blocks as pieces
pub hold_length : (file : List ℕ) (ps : List Piece) (bs : List (List ℕ)) → HoldBlocks file ps bs → length bs ≡ length ps
hold_length file [] [] h = refl
hold_length file [] (b ∷ bs) h = absurd h
hold_length file (p ∷ ps) [] h = absurd h
hold_length file (p ∷ ps) (b ∷ bs) h = ap suc (hold_length file ps bs h.1)

pub no_length : (zs : List (List ℕ)) → length zs ≡ 0 → zs ≡ []
no_length [] e = refl
no_length (z ∷ zs) e = absurd (omega (arith, e))

-- a piece that there is
pub inside : (ps : List Piece) (j : ℕ) (p : Piece) → slice_get ps j ≡ Some p → j < length ps
inside [] j p e = absurd (cc)
inside (q ∷ ps) zero p e = omega arith
inside (q ∷ ps) (suc j) p e = omega (arith, inside ps j p e)

-- all blocks of fewer pieces begin those of more
pub fewer_first : (file : List ℕ) (pieces : List Piece) (n m : ℕ) (xs ys : List (List ℕ)) → HoldOnly file (take n pieces) xs → HoldBlocks file (take m pieces) ys → m ≤ n → (more : List (List ℕ)) × (xs ≡ ys ++ more)
fewer_first file pieces n m xs ys only hold less =
    let split : take n pieces ≡ take m pieces ++ take (n - m) (drop m pieces) =
    ap (λ (k : ℕ). take k pieces) (let e : n ≡ m + (n - m) = omega (arith, less) in e) ∙ take-add m (n - m) pieces in
    let s = hold_split file (take m pieces) (take (n - m) (drop m pieces)) xs (subst (λ (ps : List Piece). HoldBlocks file ps xs) split only.hold) in
    let rest = drop (length (take m pieces)) xs in
    let both = subst (λ (ps : List Piece). HoldBlocks file ps (ys ++ rest)) (sym split) (hold-append file (take m pieces) (take (n - m) (drop m pieces)) ys rest hold s.1) in
    (rest, sym (only.only (ys ++ rest) both))

pub more_first : (file : List ℕ) (pieces : List Piece) (n m : ℕ) (xs ys : List (List ℕ)) → HoldOnly file (take n pieces) xs → HoldBlocks file (take m pieces) ys → n ≤ m → (more : List (List ℕ)) × (ys ≡ xs ++ more)
more_first file pieces n m xs ys only hold more =
    let split : take m pieces ≡ take n pieces ++ take (m - n) (drop n pieces) =
    ap (λ (k : ℕ). take k pieces) (let e : m ≡ n + (m - n) = omega (arith, more) in e) ∙ take-add n (m - n) pieces in
    let s = hold_split file (take n pieces) (take (m - n) (drop n pieces)) ys (subst (λ (ps : List Piece). HoldBlocks file ps ys) split hold) in
    let k = length (take n pieces) in
    (drop k ys, sym (take-append-drop k ys) ∙ ap (λ (t : List (List ℕ)). t ++ drop k ys) (only.only (take k ys) s.0))
