-- The bytes of the inputs, read by number.
use Rattle.std.proofs.Common.{◌≡◌, ℕ, zero, suc, ◌<◌, List, [], ◌∷◌, length, get_or, refl, sym, ap, subst, arith}
use Rattle.std.specs.Prelude.{All, Vec}
use Rattle.std.proofs.lemmas.List.Elements.{All-get_or}
use Rattle.laz_workers.specs.Work.{texts}

pub texts_at : {A : Type 0} (inputs : List (Vec ℕ A)) (n : ℕ) (v : Vec ℕ A) → n < length inputs → v ≡ get_or inputs n v → get_or (texts inputs) n [] ≡ v.items
texts_at [] n v h e = absurd (omega arith)
texts_at (x ∷ xs) zero v h e = ap (λ (y : Vec ℕ _). y.items) (sym e)
texts_at (x ∷ xs) (suc n) v h e = texts_at xs n v (omega (arith, h)) e

pub length-texts : {A : Type 0} (inputs : List (Vec ℕ A)) → length (texts inputs) ≡ length inputs
length-texts [] = refl
length-texts (x ∷ xs) = ap suc (length-texts xs)

-- what holds of all texts holds of the input of a number
pub texts_all : {A : Type 0} (P : List ℕ → Type 0) (inputs : List (Vec ℕ A)) (n : ℕ) (v : Vec ℕ A) → All P (texts inputs) → n < length inputs → v ≡ get_or inputs n v → P v.items
texts_all P inputs n v all h e = subst P (texts_at inputs n v h e) (All-get_or P (texts inputs) n [] (omega (arith, length-texts inputs, h)) all)
