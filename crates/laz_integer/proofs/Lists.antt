-- Lists of equal parts. Meant for the crates of items and chunks, too.
use Rattle.std.proofs.Common.{◌≡◌, ℕ, ◌≤◌, cond, Bool, true, false, List, [], ◌∷◌, ◌++◌, length, take, drop, refl, sym, ap, ◌∙◌, arith}
use Rattle.std.proofs.lemmas.List.{take-append-drop, take-take}

pub cons_same : {X : Type 0} (x y : X) (xs ys : List X) → x ≡ y → xs ≡ ys → x ∷ xs ≡ y ∷ ys
cons_same x y xs ys e f = cc

pub two_lists : {X : Type 0} (a b c d : List X) → a ≡ b → c ≡ d → a ++ c ≡ b ++ d
two_lists a b c d e f = cc

-- an element that is there only if a test holds
pub cond-append : {X : Type 0} (b : Bool) (x : X) (all xs ys : List X) → all ≡ xs ++ ys → cond b (x ∷ all) all ≡ cond b (x ∷ xs) xs ++ ys
cond-append false x all xs ys e = e
cond-append true x all xs ys e = ap (λ l. x ∷ l) e

pub no-elements : {X : Type 0} (a b : List X) → length a ≡ 0 → length b ≡ 0 → a ≡ b
no-elements [] [] la lb = refl
no-elements (x ∷ a) b la lb = absurd (omega (arith, la))
no-elements [] (x ∷ b) la lb = absurd (omega (arith, lb))

-- lists of equal fronts and rests
pub by-parts : {X : Type 0} (n : ℕ) (a b : List X) → take n a ≡ take n b → drop n a ≡ drop n b → a ≡ b
by-parts n a b e f = sym (take-append-drop n a) ∙ (two_lists _ _ _ _ e f ∙ take-append-drop n b)

pub take-front : {X : Type 0} (n m : ℕ) (a b : List X) → n ≤ m → take m a ≡ take m b → take n a ≡ take n b
take-front {X} n m a b few e = sym (take-take n m a few) ∙ (ap (λ (l : List X). take n l) e ∙ take-take n m b few)
