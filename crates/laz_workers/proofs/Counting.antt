-- Sums and counts over lists that are read by place, and lists that hold each number below a bound once.
use Rattle.std.proofs.Common.{◌≡◌, ℕ, zero, suc, ◌+◌, ◌-◌, ◌*◌, ◌<◌, ◌≤◌, min, Bool, true, false, not, cond, List, [], ◌∷◌, set, refl, sym, ap, ◌∙◌, ⊎_elim, arith}
use Rattle.std.specs.Prelude.{◌==◌, nat_lt, nat_le, sum_by, count_by, filter, flat_map, All}
use Rattle.std.proofs.lemmas.List.Sums.{sum_by-cons, sum_by-append}
use Rattle.std.proofs.lemmas.List.Elements.{All-nil, All-cons}
use Rattle.std.proofs.lemmas.Bool.{cases_Bool}
use Rattle.std.proofs.lemmas.Bool.Decides.{nat_tests}
use mathlib.Core.Option.{some, some-injective, some-ne-none}
use lib.ListN.{get_elem?}
use Rattle.laz_workers.specs.Numbers.{one_if, times, HoldsBelow}

module _ {X : Type 0} where
  -- the sum after one place is changed
  pub sum_at : (f : X → ℕ) (xs : List X) (i : ℕ) (a b : X) → get_elem? xs i ≡ some a → sum_by f (set xs i b) + f a ≡ sum_by f xs + f b
  sum_at f [] i a b e = absurd (some-ne-none a (sym e))
  sum_at f (x ∷ xs) zero a b e = omega (arith, sum_by-cons f b xs, sum_by-cons f x xs, ap f (some-injective x a e))
  sum_at f (x ∷ xs) (suc i) a b e = omega (arith, sum_by-cons f x (set xs i b), sum_by-cons f x xs, sum_at f xs i a b e)

  -- a sum whose terms are within those of another is within it
  pub sum_le : (f g : X → ℕ) (xs : List X) → ((i : ℕ) (a : X) → get_elem? xs i ≡ some a → f a ≤ g a) → sum_by f xs ≤ sum_by g xs
  sum_le f g [] h = omega arith
  sum_le f g (x ∷ xs) h = omega (arith, sum_by-cons f x xs, sum_by-cons g x xs, h 0 x refl, sum_le f g xs (λ i a e. h (suc i) a e))

  pub sum_none : (f : X → ℕ) (xs : List X) → ((i : ℕ) (a : X) → get_elem? xs i ≡ some a → f a ≡ 0) → sum_by f xs ≡ 0
  sum_none f [] h = refl
  sum_none f (x ∷ xs) h = omega (arith, sum_by-cons f x xs, h 0 x refl, sum_none f xs (λ i a e. h (suc i) a e))

  -- one term is within the sum
  pub term_le : (f : X → ℕ) (xs : List X) (i : ℕ) (a : X) → get_elem? xs i ≡ some a → f a ≤ sum_by f xs
  term_le f [] i a e = absurd (some-ne-none a (sym e))
  term_le f (x ∷ xs) zero a e = omega (arith, sum_by-cons f x xs, ap f (some-injective x a e))
  term_le f (x ∷ xs) (suc i) a e = omega (arith, sum_by-cons f x xs, term_le f xs i a e)

  -- if one element passes the test, two that pass it stand at one place
  pub one_place : (p : X → Bool) (xs : List X) → count_by p xs ≡ 1 → (i j : ℕ) (a b : X) → get_elem? xs i ≡ some a → p a ≡ true → get_elem? xs j ≡ some b → p b ≡ true → i ≡ j
  one_place p [] c i j a b e pa e' pb = absurd (some-ne-none a (sym e))
  one_place p (x ∷ xs) c zero zero a b e pa e' pb = refl
  one_place p (x ∷ xs) c zero (suc j) a b e pa e' pb =
      absurd (omega (arith, sum_by-cons (λ y. one_if (p y)) x xs, ap (λ y. one_if (p y)) (some-injective x a e), ap one_if pa, ap one_if pb, term_le (λ y. one_if (p y)) xs j b e'))
  one_place p (x ∷ xs) c (suc i) zero a b e pa e' pb =
      absurd (omega (arith, sum_by-cons (λ y. one_if (p y)) x xs, ap (λ y. one_if (p y)) (some-injective x b e'), ap one_if pa, ap one_if pb, term_le (λ y. one_if (p y)) xs i a e))
  one_place p (x ∷ xs) c (suc i) (suc j) a b e pa e' pb =
      let here : one_if (p x) ≡ 0 = omega (arith, sum_by-cons (λ y. one_if (p y)) x xs, ap one_if pa, term_le (λ y. one_if (p y)) xs i a e) in
      let there : count_by p xs ≡ 1 = omega (arith, sum_by-cons (λ y. one_if (p y)) x xs) in
      ap suc (one_place p xs there i j a b e pa e' pb)

  -- if the count is 0, no element passes
  pub none_pass : (p : X → Bool) (xs : List X) → count_by p xs ≡ 0 → (i : ℕ) (a : X) → get_elem? xs i ≡ some a → p a ≡ false
  none_pass p xs c i a e = ⊎_elim (λ (t : p a ≡ true). absurd (omega (arith, term_le (λ y. one_if (p y)) xs i a e, ap one_if t))) (λ f. f) (cases_Bool (p a))

  -- if the count is not 0, some element passes
  pub one_passes : (p : X → Bool) (xs : List X) → 0 < count_by p xs → (i : ℕ) × (a : X) × (get_elem? xs i ≡ some a) × (p a ≡ true)
  one_passes p [] c = absurd (omega arith)
  one_passes p (x ∷ xs) c =
      ⊎_elim
      (λ (t : p x ≡ true). (0, x, refl, t))
      (λ (t : p x ≡ false). let there : 0 < count_by p xs = omega (arith, sum_by-cons (λ y. one_if (p y)) x xs, ap one_if t) in let r = one_passes p xs there in (suc r.0, r.1, r.2, r.3))
      (cases_Bool (p x))

-- the list with no x
abbrev pub without : ℕ → List ℕ → List ℕ
without x xs = filter (λ y. not (y == x)) xs

times_cons : (x y : ℕ) (ys : List ℕ) → times x (y ∷ ys) ≡ one_if (y == x) + times x ys
times_cons x y ys = sum_by-cons (λ z. one_if (z == x)) y ys

count_cons : (p : ℕ → Bool) (y : ℕ) (ys : List ℕ) → count_by p (y ∷ ys) ≡ one_if (p y) + count_by p ys
count_cons p y ys = sum_by-cons (λ z. one_if (p z)) y ys

pub count_without : (p : ℕ → Bool) (x : ℕ) (xs : List ℕ) → count_by p (without x xs) + times x xs * one_if (p x) ≡ count_by p xs
count_without p x [] = omega arith
count_without p x (y ∷ ys) =
    ⊎_elim
    (λ (t : (y == x) ≡ true). let same : y ≡ x = grind (arith, nat_tests) in let gone : without x (y ∷ ys) ≡ without x ys = rw t refl in
    let more : times x (y ∷ ys) ≡ 1 + times x ys = omega (arith, times_cons x y ys, ap one_if t) in
    let both : times x (y ∷ ys) * one_if (p x) ≡ (1 + times x ys) * one_if (p x) = ap (λ n. n * one_if (p x)) more in
    rw gone (omega (arith, count_without p x ys, count_cons p y ys, both, ap (λ z. one_if (p z)) same)))
    (λ (t : (y == x) ≡ false). let kept : without x (y ∷ ys) ≡ y ∷ without x ys = rw t refl in
    let more : times x (y ∷ ys) ≡ times x ys = omega (arith, times_cons x y ys, ap one_if t) in
    let both : times x (y ∷ ys) * one_if (p x) ≡ times x ys * one_if (p x) = ap (λ n. n * one_if (p x)) more in
    rw kept (omega (arith, count_without p x ys, count_cons p y ys, count_cons p y (without x ys), both)))
    (cases_Bool (y == x))

-- how many of the numbers below n pass the test
abbrev pub count_below : (ℕ → Bool) → ℕ → ℕ
count_below p zero = 0
count_below p (suc n) = count_below p n + one_if (p n)

eqb_same : (x : ℕ) → (x == x) ≡ true
eqb_same x = grind (arith, nat_tests)

-- x is not in the list without it, and others are there as often
times_without : (y x : ℕ) (xs : List ℕ) → times y (without x xs) ≡ (cond (y == x) 0 (times y xs))
times_without y x xs =
    ⊎_elim
    (λ (t : (y == x) ≡ true). let same : y ≡ x = grind (arith, nat_tests) in
    let turned : (x == y) ≡ true = grind (arith, nat_tests) in
    let one : one_if (x == y) ≡ 1 = ap one_if turned in
    let both : times x xs * one_if (x == y) ≡ times x xs * 1 = ap (λ n. times x xs * n) one in
    let swap : times y xs ≡ times x xs = ap (λ n. times n xs) same in
    rw t (omega (arith, count_without (λ z. z == y) x xs, both)))
    (λ (t : (y == x) ≡ false).
    let turned : (x == y) ≡ false = grind (arith, nat_tests) in
    let one : one_if (x == y) ≡ 0 = ap one_if turned in
    let both : times x xs * one_if (x == y) ≡ times x xs * 0 = ap (λ n. times x xs * n) one in
    rw t (omega (arith, count_without (λ z. z == y) x xs, both)))
    (cases_Bool (y == x))

below_less : (n x : ℕ) → cond (x == n) 0 (one_if (nat_lt x (suc n))) ≡ one_if (nat_lt x n)
below_less n x = grind (arith, nat_tests)

pub HoldsBelow-without : (n : ℕ) (xs : List ℕ) → HoldsBelow (suc n) xs → HoldsBelow n (without n xs)
HoldsBelow-without n xs h x = times_without x n xs ∙ (ap (λ t. cond (x == n) 0 t) (h x) ∙ below_less n x)

-- a list of the numbers below n passes a test as often as they do
pub count_of_below : (p : ℕ → Bool) (n : ℕ) (xs : List ℕ) → HoldsBelow n xs → count_by p xs ≡ count_below p n
count_of_below p zero [] h = refl
count_of_below p zero (y ∷ ys) h =
    let none : nat_lt y 0 ≡ false = grind (arith, nat_tests) in
    absurd (omega (arith, h y, times_cons y y ys, ap one_if (eqb_same y), ap one_if none))
count_of_below p (suc n) xs h =
    let under : nat_lt n (suc n) ≡ true = grind (arith, nat_tests) in
    let once : times n xs ≡ 1 = h n ∙ ap one_if under in
    let both : times n xs * one_if (p n) ≡ 1 * one_if (p n) = ap (λ k. k * one_if (p n)) once in
    omega (arith, count_without p n xs, both, count_of_below p n (without n xs) (HoldsBelow-without n xs h))

pub count_below-past : (t n : ℕ) → count_below (λ x. nat_le t x) n ≡ n - t
count_below-past t zero = omega arith
count_below-past t (suc n) = let more : count_below (λ x. nat_le t x) n ≡ n - t = count_below-past t n in grind (arith, nat_tests)

pub count_below-under : (t n : ℕ) → count_below (λ x. nat_lt x t) n ≡ min n t
count_below-under t zero = omega arith
count_below-under t (suc n) = let more : count_below (λ x. nat_lt x t) n ≡ min n t = count_below-under t n in grind (arith, nat_tests)

-- all numbers of a list that are there at most as often as below n are below n
pub below_from_times : (n : ℕ) (xs : List ℕ) → ((x : ℕ) → times x xs ≤ one_if (nat_lt x n)) → All (λ x. x < n) xs
below_from_times n [] h = All-nil (λ x. x < n)
below_from_times n (y ∷ ys) h =
    All-cons (λ x. x < n) y ys
    (⊎_elim
    (λ (t : nat_lt y n ≡ true). grind (arith, nat_tests))
    (λ (t : nat_lt y n ≡ false). absurd (omega (arith, h y, times_cons y y ys, ap one_if (eqb_same y), ap one_if t)))
    (cases_Bool (nat_lt y n)))
    (below_from_times n ys (λ x. omega (arith, h x, times_cons x y ys)))

-- counts over the lists of all, and over the lists in a row
pub count_flat : {X : Type 0} (f : X → List ℕ) (p : ℕ → Bool) (xs : List X) → count_by p (flat_map f xs) ≡ sum_by (λ v. count_by p (f v)) xs
count_flat f p [] = refl
count_flat f p (x ∷ xs) = omega (arith, sum_by-append (λ z. one_if (p z)) (f x) (flat_map f xs), sum_by-cons (λ v. count_by p (f v)) x xs, count_flat f p xs)
