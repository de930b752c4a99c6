-- Sorted values, and one more among them: what the five places of a median hold after a value.
use Rattle.std.proofs.Common.{◌≡◌, ℕ, zero, suc, ℤ, pos, ◌≤ℤ◌, Bool, true, false, cond, List, [], ◌∷◌, take, drop, get_or, length, refl, sym, ap, subst, ◌∙◌, arith}
use Rattle.std.specs.Prelude.{int_lt, int_le}
use Rattle.std.specs.Prelude.{FitsSigned}
use Rattle.std.specs.Int.{w32, cast_signed, cast_unsigned, int_min, int_max}
use Rattle.std.proofs.lemmas.Int.{ints, to_z-of_z}
use Rattle.laz_point10.specs.declared.median.Median.{Median}
use Rattle.laz_point10.specs.Medians.{IsSorted, put_in, with_value, middle, median_of}

-- four in order, one more put in: each place has a neighbour or the new one
pub put_in-four : (a b c d v : ℤ) → a ≤ℤ b → b ≤ℤ c → c ≤ℤ d
    → int_min a v ∷ int_max a (int_min b v) ∷ int_max b (int_min c v) ∷ int_max c (int_min d v) ∷ int_max d v ∷ [] ≡ put_in v (a ∷ b ∷ c ∷ d ∷ [])
put_in-four a b c d v low mid high = grind (arith, ints)

-- ---- what stays in order
sorted-tail : (a : ℤ) (xs : List ℤ) → IsSorted (a ∷ xs) → IsSorted xs
sorted-tail a [] h = tt
sorted-tail a (b ∷ xs) h = h.1

above : (v a : ℤ) → int_le v a ≡ false → a ≤ℤ v
above v a h = grind (arith, ints)

within : (v a : ℤ) → int_le v a ≡ true → v ≤ℤ a
within v a h = grind (arith, ints)

sorted-first : (test : Bool) (a v b : ℤ) (xs : List ℤ) → a ≤ℤ v → a ≤ℤ b → IsSorted (cond test (v ∷ b ∷ xs) (b ∷ put_in v xs)) → IsSorted (a ∷ cond test (v ∷ b ∷ xs) (b ∷ put_in v xs))
sorted-first true a v b xs h s t = (h, t)
sorted-first false a v b xs h s t = (s, t)

sorted-cons : (a v : ℤ) (xs : List ℤ) → a ≤ℤ v → IsSorted (a ∷ xs) → IsSorted (put_in v xs) → IsSorted (a ∷ put_in v xs)
sorted-cons a v [] h s t = (h, tt)
sorted-cons a v (b ∷ xs) h s t = sorted-first (int_le v b) a v b xs h s.0 t

sorted-put : (v a : ℤ) (xs : List ℤ) (test : Bool) → int_le v a ≡ test → IsSorted (a ∷ xs) → IsSorted (put_in v xs) → IsSorted (cond test (v ∷ a ∷ xs) (a ∷ put_in v xs))
sorted-put v a xs true e h t = (within v a e, h)
sorted-put v a xs false e h t = sorted-cons a v xs (above v a e) h t

pub sorted-put_in : (v : ℤ) (xs : List ℤ) → IsSorted xs → IsSorted (put_in v xs)
sorted-put_in v [] h = tt
sorted-put_in v (a ∷ xs) h = sorted-put v a xs (int_le v a) refl h (sorted-put_in v xs (sorted-tail a xs h))

sorted-take-one : (a : ℤ) (n : ℕ) (xs : List ℤ) → IsSorted (a ∷ xs) → IsSorted (take n xs) → IsSorted (a ∷ take n xs)
sorted-take-one a zero xs h t = tt
sorted-take-one a (suc n) [] h t = tt
sorted-take-one a (suc n) (b ∷ xs) h t = (h.0, t)

pub sorted-take : (n : ℕ) (xs : List ℤ) → IsSorted xs → IsSorted (take n xs)
sorted-take zero xs h = tt
sorted-take (suc n) [] h = tt
sorted-take (suc n) (a ∷ xs) h = sorted-take-one a n xs h (sorted-take n xs (sorted-tail a xs h))

sorted-drop : (xs : List ℤ) → IsSorted xs → IsSorted (drop 1 xs)
sorted-drop [] h = tt
sorted-drop (a ∷ xs) h = sorted-tail a xs h

sorted-choice : (test high low : Bool) (v : ℤ) (xs : List ℤ) → IsSorted xs
    → IsSorted (let m : Median = cond test (record { values = put_in v (take 4 xs); high = high }) (record { values = put_in v (drop 1 xs); high = low }) in m.values)
sorted-choice true high low v xs h = sorted-put_in v (take 4 xs) (sorted-take 4 xs h)
sorted-choice false high low v xs h = sorted-put_in v (drop 1 xs) (sorted-drop xs h)

pub sorted-with : (m : Median) (v : ℤ) → IsSorted m.values → IsSorted (with_value m v).values
unfolding with_value
sorted-with m v h = sorted-choice m.high _ _ v m.values h

flat : (a : ℤ) → a ≤ℤ a
flat a = grind (arith, ints)

pub sorted-median : (vs : List ℤ) → IsSorted (median_of vs).values
sorted-median [] = (flat (pos 0), (flat (pos 0), (flat (pos 0), (flat (pos 0), tt))))
sorted-median (v ∷ vs) = sorted-with (median_of vs) v (sorted-median vs)

-- ---- five values, and one more
pub five : (xs : List ℤ) → length xs ≡ 5 → xs ≡ get_or xs 0 (pos 0) ∷ get_or xs 1 (pos 0) ∷ get_or xs 2 (pos 0) ∷ get_or xs 3 (pos 0) ∷ get_or xs 4 (pos 0) ∷ []
five (a ∷ b ∷ c ∷ d ∷ e ∷ []) h = refl
five [] h = absurd (omega arith)
five (a ∷ []) h = absurd (omega arith)
five (a ∷ b ∷ []) h = absurd (omega arith)
five (a ∷ b ∷ c ∷ []) h = absurd (omega arith)
five (a ∷ b ∷ c ∷ d ∷ []) h = absurd (omega arith)
five (a ∷ b ∷ c ∷ d ∷ e ∷ f ∷ xs) h = absurd (omega arith)

-- ---- numbers that were passed
abbrev pub round : ℤ → ℤ
round z = cast_signed w32 (cast_unsigned w32 z)

pub min-of : (r a m n : ℤ) → FitsSigned w32 r → FitsSigned w32 a → FitsSigned w32 m → m ≡ n → r ≡ int_min (round a) (round m) → r ≡ int_min a n
min-of r a m n f g h e is = is ∙ (ap (λ z. int_min z (round m)) (to_z-of_z w32 a g) ∙ ap (int_min a) (to_z-of_z w32 m h ∙ e))

pub max-of : (r a m n : ℤ) → FitsSigned w32 r → FitsSigned w32 a → FitsSigned w32 m → m ≡ n → r ≡ int_max (round a) (round m) → round r ≡ int_max a n
max-of r a m n f g h e is = to_z-of_z w32 r f ∙ (is ∙ (ap (λ z. int_max z (round m)) (to_z-of_z w32 a g) ∙ ap (int_max a) (to_z-of_z w32 m h ∙ e)))

pub same-five : (a a2 b b2 c c2 d d2 e e2 : ℤ) → a ≡ a2 → b ≡ b2 → c ≡ c2 → d ≡ d2 → e ≡ e2 → a ∷ b ∷ c ∷ d ∷ e ∷ [] ≡ a2 ∷ b2 ∷ c2 ∷ d2 ∷ e2 ∷ []
same-five a a2 b b2 c c2 d d2 e e2 h1 h2 h3 h4 h5 = cc

same-median : (xs ys : List ℤ) (b d : Bool) → xs ≡ ys → b ≡ d → (let m : Median = record { values = xs; high = b } in m) ≡ record { values = ys; high = d }
same-median xs ys b d e f = cc

sorted-five : (a b c d e : ℤ) → IsSorted (a ∷ b ∷ c ∷ d ∷ e ∷ []) → (a ≤ℤ b) × (b ≤ℤ c) × (c ≤ℤ d) × (d ≤ℤ e)
sorted-five a b c d e h = (h.0, h.1.0, h.1.1.0, h.1.1.1.0)

pub orders : (xs : List ℤ) → length xs ≡ 5 → IsSorted xs
    → (get_or xs 0 (pos 0) ≤ℤ get_or xs 1 (pos 0)) × (get_or xs 1 (pos 0) ≤ℤ get_or xs 2 (pos 0)) × (get_or xs 2 (pos 0) ≤ℤ get_or xs 3 (pos 0)) × (get_or xs 3 (pos 0) ≤ℤ get_or xs 4 (pos 0))
orders xs h sorted = sorted-five _ _ _ _ _ (subst (λ (l : List ℤ). IsSorted l) (five xs h) sorted)

pub high-is : (m : Median) (v : ℤ) (values : List ℤ) (high : Bool) → length m.values ≡ 5 → m.high ≡ true
    → values ≡ put_in v (get_or m.values 0 (pos 0) ∷ get_or m.values 1 (pos 0) ∷ get_or m.values 2 (pos 0) ∷ get_or m.values 3 (pos 0) ∷ [])
    → high ≡ int_lt v (middle m) → (let n : Median = record { values = values; high = high } in n) ≡ with_value m v
unfolding with_value
high-is m v values high five_are is values_are high_is =
    let front = ap (take 4) (five m.values five_are) in
    rw is (same-median _ _ _ _ (values_are ∙ sym (ap (put_in v) front)) high_is)

pub low-is : (m : Median) (v : ℤ) (values : List ℤ) (high : Bool) → length m.values ≡ 5 → m.high ≡ false
    → values ≡ put_in v (get_or m.values 1 (pos 0) ∷ get_or m.values 2 (pos 0) ∷ get_or m.values 3 (pos 0) ∷ get_or m.values 4 (pos 0) ∷ [])
    → high ≡ int_le v (middle m) → (let n : Median = record { values = values; high = high } in n) ≡ with_value m v
unfolding with_value
low-is m v values high five_are is values_are high_is =
    let back = ap (drop 1) (five m.values five_are) in
    rw is (same-median _ _ _ _ (values_are ∙ sym (ap (put_in v) back)) high_is)

le-passed : (a b : ℤ) → FitsSigned w32 a → FitsSigned w32 b → a ≤ℤ b → round a ≤ℤ round b
le-passed a b f g h = subst (λ (z : ℤ). z ≤ℤ round b) (sym (to_z-of_z w32 a f)) (subst (λ (z : ℤ). a ≤ℤ z) (sym (to_z-of_z w32 b g)) h)

same-four : (a a2 b b2 c c2 d d2 : ℤ) → a ≡ a2 → b ≡ b2 → c ≡ c2 → d ≡ d2 → a ∷ b ∷ c ∷ d ∷ [] ≡ a2 ∷ b2 ∷ c2 ∷ d2 ∷ []
same-four a a2 b b2 c c2 d d2 h1 h2 h3 h4 = cc

four-passed : (a b c d : ℤ) → FitsSigned w32 a → FitsSigned w32 b → FitsSigned w32 c → FitsSigned w32 d → round a ∷ round b ∷ round c ∷ round d ∷ [] ≡ a ∷ b ∷ c ∷ d ∷ []
four-passed a b c d f g h i =
    let one = to_z-of_z w32 a f in
    let two = to_z-of_z w32 b g in
    let three = to_z-of_z w32 c h in
    let four = to_z-of_z w32 d i in
    same-four _ _ _ _ _ _ _ _ one two three four

pub passed-four : (values : List ℤ) (a b c d v : ℤ) → FitsSigned w32 v → FitsSigned w32 a → FitsSigned w32 b → FitsSigned w32 c → FitsSigned w32 d → a ≤ℤ b → b ≤ℤ c → c ≤ℤ d
    → (round a ≤ℤ round b → round b ≤ℤ round c → round c ≤ℤ round d → values ≡ put_in (round v) (round a ∷ round b ∷ round c ∷ round d ∷ [])) → values ≡ put_in v (a ∷ b ∷ c ∷ d ∷ [])
passed-four values a b c d v e f g h i l m n is =
    is (le-passed a b f g l) (le-passed b c g h m) (le-passed c d h i n)
    ∙ (ap (λ z. put_in z (round a ∷ round b ∷ round c ∷ round d ∷ [])) (to_z-of_z w32 v e) ∙ ap (put_in v) (four-passed a b c d f g h i))

-- one value added, by the four that stay
abbrev PutIn : ℤ → List ℤ → List ℤ → Type 0
PutIn v r values =
    get_or r 0 (pos 0) ≤ℤ get_or r 1 (pos 0)
    → get_or r 1 (pos 0) ≤ℤ get_or r 2 (pos 0)
    → get_or r 2 (pos 0) ≤ℤ get_or r 3 (pos 0)
    → values ≡ put_in v (get_or r 0 (pos 0) ∷ get_or r 1 (pos 0) ∷ get_or r 2 (pos 0) ∷ get_or r 3 (pos 0) ∷ [])

pub added : (h : Bool) (m : Median) (v : ℤ) (r values : List ℤ) (next : Bool) → m.high ≡ h → length m.values ≡ 5 → IsSorted m.values → (m.high ≡ true → r ≡ take 4 m.values) → (m.high ≡ false → r ≡ drop 1 m.values)
    → PutIn v r values → (m.high ≡ true → next ≡ int_lt v (middle m)) → (m.high ≡ false → next ≡ int_le v (middle m)) → (let n : Median = record { values = values; high = next } in n) ≡ with_value m v
added true m v r values next e count sorted high low put up down =
    let o = orders m.values count sorted in
    let is = high e ∙ ap (take 4) (five m.values count) in
    high-is m v values next count e (subst (λ (l : List ℤ). PutIn v l values) is put o.0 o.1 o.2) (up e)
added false m v r values next e count sorted high low put up down =
    let o = orders m.values count sorted in
    let is = low e ∙ ap (drop 1) (five m.values count) in
    low-is m v values next count e (subst (λ (l : List ℤ). PutIn v l values) is put o.1 o.2 o.3) (down e)
