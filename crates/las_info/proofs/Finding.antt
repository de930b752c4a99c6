-- The first element of a list that passes a test.
use Rattle.std.proofs.Common.{◌≡◌, ℕ, zero, suc, ◌<◌, ◌∙◌, Bool, true, false, cond, List, [], ◌∷◌, length, get_or, Some, find, ap, sym}
use Rattle.std.proofs.Common.{arith}
use Rattle.std.proofs.lemmas.Slice.Eq.{bytes_eq-Decides}
use Rattle.std.specs.List.{remove}
use Rattle.std.specs.Str.{bytes_eq}

module _ {X : Type 0} (p : X → Bool) where
  -- an element that does not pass is taken out
  pub without : (xs : List X) (i : ℕ) (d : X) → i < length xs → p (get_or xs i d) ≡ false
      → find p (remove xs i) ≡ find p xs
  without [] i d lt e = absurd (omega (arith, lt))
  without (x ∷ xs) zero d lt e = sym (ap (λ c. cond c (Some x) (find p xs)) e)
  without (x ∷ xs) (suc i) d lt e = ap (cond (p x) (Some x)) (without xs i d (omega (arith, lt)) e)

-- a name that is another one is not this one
pub differs : (own name other : List ℕ) → bytes_eq own name ≡ true → bytes_eq name other ≡ false
    → bytes_eq own other ≡ false
differs own name other same apart = ap (λ n. bytes_eq n other) ((bytes_eq-Decides own name).0 same) ∙ apart
