-- Parts of lists that are replaced: two parts in either order, one part twice, and a part of a front.
use Rattle.std.proofs.Common.{◌≡◌, ℕ, ◌+◌, ◌≤◌, List, ◌++◌, length, take, drop, sym, ap, ◌∙◌, arith, append_assoc, length-append, length-drop}
use Rattle.std.proofs.lemmas.List.{drop-append-le, length-take-le, take-append-drop, take-append-le, take-take, take_at, drop_at}
use Rattle.std.specs.List.{splice}
use Rattle.las_header.proofs.Public.{drop-splice, take-splice}

regroup : (a b c d : List ℕ) → (a ++ (b ++ c)) ++ d ≡ a ++ (b ++ (c ++ d))
regroup a b c d = append_assoc a (b ++ c) d ∙ ap (λ (t : List ℕ). a ++ t) (append_assoc b c d)

-- what stands from one place of a list to another, and what follows
between : (j k : ℕ) (xs : List ℕ) → j ≤ k → k ≤ length xs → drop j xs ≡ drop j (take k xs) ++ drop k xs
between j k xs order within =
    ap (λ (t : List ℕ). drop j t) (sym (take-append-drop k xs))
    ∙ drop-append-le j (take k xs) (drop k xs) (omega (arith, length-take-le k xs within, order))

-- two parts are replaced in either order, if the first one keeps its length
pub splice-splice : (xs ys zs : List ℕ) (i j k m : ℕ) → i + length ys ≡ j → j ≤ k → k ≤ m → k ≤ length xs
    → splice (splice xs i j ys) k m zs ≡ splice (splice xs k m zs) i j ys
splice-splice xs ys zs i j k m fits order ends within =
    let middle : List ℕ = drop j (take k xs) in
    let end : List ℕ = drop m xs in
    let size : length (take i xs ++ (ys ++ middle)) ≡ k =
    omega (arith, length-append (take i xs) (ys ++ middle), length-append ys middle, length-take-le i xs (omega (arith, fits, order, within)), length-drop j (take k xs), length-take-le k xs within, fits, order) in
    let whole : splice xs i j ys ≡ (take i xs ++ (ys ++ middle)) ++ drop k xs =
    ap (λ (t : List ℕ). take i xs ++ (ys ++ t)) (between j k xs order within) ∙ sym (regroup (take i xs) ys middle (drop k xs)) in
    let front : take k (splice xs i j ys) ≡ take i xs ++ (ys ++ middle) =
    ap (λ (t : List ℕ). take k t) whole ∙ take_at (take i xs ++ (ys ++ middle)) (drop k xs) k size in
    let back : drop m (splice xs i j ys) ≡ end = drop-splice xs i j m ys fits (omega (arith, order, within)) (omega (arith, order, ends)) in
    let first : take i (splice xs k m zs) ≡ take i xs =
    take-append-le i (take k xs) (zs ++ end) (omega (arith, length-take-le k xs within, fits, order)) ∙ take-take i k xs (omega (arith, fits, order)) in
    let last : drop j (splice xs k m zs) ≡ middle ++ (zs ++ end) =
    drop-append-le j (take k xs) (zs ++ end) (omega (arith, length-take-le k xs within, order)) in
    ap (λ (t : List ℕ). t ++ (zs ++ drop m (splice xs i j ys))) front
    ∙ ap (λ (t : List ℕ). (take i xs ++ (ys ++ middle)) ++ (zs ++ t)) back
    ∙ regroup (take i xs) ys middle (zs ++ end)
    ∙ ap (λ (t : List ℕ). take i xs ++ (ys ++ t)) (sym last)
    ∙ ap (λ (t : List ℕ). t ++ (ys ++ drop j (splice xs k m zs))) (sym first)

-- of a part that is replaced twice, the second counts
pub splice-again : (xs ys zs : List ℕ) (i j : ℕ) → i + length ys ≡ j → j ≤ length xs → splice (splice xs i j ys) i j zs ≡ splice xs i j zs
splice-again xs ys zs i j fits within =
    ap (λ (t : List ℕ). t ++ (zs ++ drop j (splice xs i j ys))) (take-splice xs i j ys (omega (arith, fits, within)))
    ∙ ap (λ (t : List ℕ). take i xs ++ (zs ++ t)) (drop-splice xs i j j ys fits within (omega arith))

-- a part of the first of two lists
pub splice-append : (xs more ys : List ℕ) (i j : ℕ) → i ≤ j → j ≤ length xs → splice (xs ++ more) i j ys ≡ splice xs i j ys ++ more
splice-append xs more ys i j order within =
    ap (λ (t : List ℕ). t ++ (ys ++ drop j (xs ++ more))) (take-append-le i xs more (omega (arith, order, within)))
    ∙ ap (λ (t : List ℕ). take i xs ++ (ys ++ t)) (drop-append-le j xs more within)
    ∙ sym (regroup (take i xs) ys (drop j xs) more)

-- a part between a front and the rest
pub splice-middle : (xs old new more : List ℕ) (i j : ℕ) → length xs ≡ i → i + length old ≡ j → splice (xs ++ (old ++ more)) i j new ≡ xs ++ (new ++ more)
splice-middle xs old new more i j at ends =
    ap (λ (t : List ℕ). t ++ (new ++ drop j (xs ++ (old ++ more)))) (take_at xs (old ++ more) i at)
    ∙ ap (λ (t : List ℕ). xs ++ (new ++ t)) (ap (λ (t : List ℕ). drop j t) (sym (append_assoc xs old more)) ∙ drop_at (xs ++ old) more j (omega (arith, length-append xs old, at, ends)))
