-- The symbols of a distribution are lawful events of one kind. Cited by crates above.
use Rattle.std.proofs.Common.{◌≡◌, ℕ, zero, suc, ◌+◌, ◌<◌, ◌≤◌, eqb, cond, List, length, get_or, refl, arith, ⊎_elim, inl, inr}
use Rattle.std.proofs.lemmas.Bool.{cases_lt, cases_eq, cond-true, cond-false, eq-eqb, ne_eqb}
use Rattle.laz_range.specs.Cut.{IsCut, AreAlike, IsLike, IsDistribution, symbol}

-- the end of a symbol's part
abbrev pub end_of : List ℕ → ℕ → ℕ
end_of starts s = cond (eqb (s + 1) (length starts)) 32768 (get_or starts (s + 1) 0)

pub end-last : (starts : List ℕ) (s : ℕ) → s + 1 ≡ length starts → end_of starts s ≡ 32768
end-last starts s e = cond-true (eqb (s + 1) (length starts)) 32768 (get_or starts (s + 1) 0) (eq-eqb (s + 1) (length starts) e)

pub end-more : (starts : List ℕ) (s : ℕ) → s + 1 < length starts → end_of starts s ≡ get_or starts (s + 1) 0
end-more starts s h = cond-false (eqb (s + 1) (length starts)) 32768 (get_or starts (s + 1) 0) (ne_eqb (s + 1) (length starts) (λ e. omega (arith, e, h)))

pub IsCut-symbol : (starts : List ℕ) (s : ℕ) → IsDistribution starts → s < length starts → IsCut (symbol starts s)
IsCut-symbol starts s h within =
    ⊎_elim
    (λ (e : s + 1 ≡ length starts). rw (end-last starts s e) (h.below s within, omega arith))
    (λ (ne : s + 1 ≡ length starts → ⊥).
    let more : s + 1 < length starts = omega (arith, ne, within) in
    rw (end-more starts s more) (h.grows s (s + 1) (omega arith) more, omega (arith, h.below (s + 1) more)))
    (cases_eq (s + 1) (length starts))

-- a symbol's part ends before a later one's begins
pub end-le : (starts : List ℕ) (s t : ℕ) → IsDistribution starts → s < t → t < length starts → end_of starts s ≤ get_or starts t 0
end-le starts s t h less within =
    let more : s + 1 < length starts = omega (arith, less, within) in
    rw (end-more starts s more)
    (⊎_elim
    (λ (e : t ≡ s + 1). rw e (omega arith))
    (λ (ne : t ≡ s + 1 → ⊥). let far : s + 1 < t = omega (arith, ne, less) in omega (arith, h.grows (s + 1) t far within))
    (cases_eq t (s + 1)))

pub AreAlike-symbols : (starts : List ℕ) (s t : ℕ) → IsDistribution starts → s < length starts → t < length starts → AreAlike (symbol starts s) (symbol starts t)
AreAlike-symbols starts s t h within inside =
    ⊎_elim
    (λ (less : s < t). inr (inl (end-le starts s t h less inside)))
    (λ (not_less : t ≤ s).
    ⊎_elim
    (λ (e : s ≡ t). inl (rw e (refl, refl)))
    (λ (ne : s ≡ t → ⊥). inr (inr (end-le starts t s h (omega (arith, ne, not_less)) within)))
    (cases_eq s t))
    (cases_lt s t)

pub IsLike-symbols : (starts : List ℕ) (s t : ℕ) → IsDistribution starts → s < length starts → t < length starts → IsLike (symbol starts s) (symbol starts t)
IsLike-symbols starts s t h within inside = (IsCut-symbol starts t h inside, AreAlike-symbols starts s t h within inside)

-- the parts before a symbol are not empty
pub symbol-le : (starts : List ℕ) (s : ℕ) → IsDistribution starts → s < length starts → s ≤ get_or starts s 0
symbol-le starts zero h within = omega arith
symbol-le starts (suc s) h within = omega (arith, symbol-le starts s h (omega arith), h.grows s (suc s) (omega arith) within)
