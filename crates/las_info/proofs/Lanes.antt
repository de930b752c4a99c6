-- The lesser and the greater of each two lanes, as vectors compute them.
use Rattle.std.proofs.Common.{◌≡◌, ℕ, ℤ, zero, suc, ◌-◌, ◌<◌, ◌^◌, pos, List, [], ◌∷◌, All, length, map, slice_index_or, Bool, true, false, cond, refl, ap, arith, ◌∙◌}
use Rattle.std.proofs.Common.{FitsSigned, to_z, of_z}
use Rattle.std.specs.Int.{int_max, int_min, w32}
use Rattle.std.specs.Simd.Lanes.{sel_l, top, zip2}
use Rattle.std.proofs.lemmas.Int.{ints, to_z-of_z}
use Rattle.las_info.specs.declared.extents.Extents.{Extents}
use Rattle.las_info.specs.Extents.{extents_in, lane_range, widened}
use lib.Signed.{lt_z}

-- whether each lane of the first is below that of the second, as a mask
abbrev pub below : (xs ys : List ℤ) → List Bool
below xs ys = map (top 31) (zip2 (λ a b. cond (lt_z (to_z w32 a) (to_z w32 b)) (2 ^ 32 - 1) 0) (map (of_z w32) xs) (map (of_z w32) ys))

lesser : (x y : ℤ) → cond (lt_z x y) x y ≡ int_min x y
lesser x y = grind (arith, ints)

greater : (x y : ℤ) → cond (lt_z x y) y x ≡ int_max x y
greater x y = grind (arith, ints)

picked : (b : Bool) (m n : ℕ) → to_z w32 (cond (top 31 (cond b (2 ^ 32 - 1) 0)) m n) ≡ cond b (to_z w32 m) (to_z w32 n)
picked true m n = refl
picked false m n = refl

low : (x y : ℤ) → FitsSigned w32 x → FitsSigned w32 y → to_z w32 (cond (top 31 (cond (lt_z (to_z w32 (of_z w32 x)) (to_z w32 (of_z w32 y))) (2 ^ 32 - 1) 0)) (of_z w32 x) (of_z w32 y)) ≡ int_min x y
low x y f g = picked (lt_z (to_z w32 (of_z w32 x)) (to_z w32 (of_z w32 y))) (of_z w32 x) (of_z w32 y)
    ∙ (λ i. cond (lt_z (to_z-of_z w32 x f i) (to_z-of_z w32 y g i)) (to_z-of_z w32 x f i) (to_z-of_z w32 y g i)) ∙ lesser x y

high : (x y : ℤ) → FitsSigned w32 x → FitsSigned w32 y → to_z w32 (cond (top 31 (cond (lt_z (to_z w32 (of_z w32 x)) (to_z w32 (of_z w32 y))) (2 ^ 32 - 1) 0)) (of_z w32 y) (of_z w32 x)) ≡ int_max x y
high x y f g = picked (lt_z (to_z w32 (of_z w32 x)) (to_z w32 (of_z w32 y))) (of_z w32 y) (of_z w32 x)
    ∙ (λ i. cond (lt_z (to_z-of_z w32 x f i) (to_z-of_z w32 y g i)) (to_z-of_z w32 y g i) (to_z-of_z w32 x f i)) ∙ greater x y

first_of : (x : ℤ) (xs : List ℤ) → All (FitsSigned w32) (x ∷ xs) → FitsSigned w32 x
first_of x xs f = f 0 x (omega arith)

others_of : (x : ℤ) (xs : List ℤ) → All (FitsSigned w32) (x ∷ xs) → All (FitsSigned w32) xs
others_of x xs f = λ k d lt. f (suc k) d (omega arith)

joined : (x : ℤ) (xs : List ℤ) → FitsSigned w32 x → All (FitsSigned w32) xs → All (FitsSigned w32) (x ∷ xs)
joined x xs f g zero d lt = f
joined x xs f g (suc k) d lt = g k d (omega arith)

pub lows : (xs ys : List ℤ) → All (FitsSigned w32) xs → All (FitsSigned w32) ys
    → map (to_z w32) (sel_l (below xs ys) (map (of_z w32) xs) (map (of_z w32) ys)) ≡ zip2 int_min xs ys
lows [] ys f g = refl
lows (x ∷ xs) [] f g = refl
lows (x ∷ xs) (y ∷ ys) f g = λ i. low x y (first_of x xs f) (first_of y ys g) i ∷ lows xs ys (others_of x xs f) (others_of y ys g) i

pub highs : (xs ys : List ℤ) → All (FitsSigned w32) xs → All (FitsSigned w32) ys
    → map (to_z w32) (sel_l (below xs ys) (map (of_z w32) ys) (map (of_z w32) xs)) ≡ zip2 int_max xs ys
highs [] ys f g = refl
highs (x ∷ xs) [] f g = refl
highs (x ∷ xs) (y ∷ ys) f g = λ i. high x y (first_of x xs f) (first_of y ys g) i ∷ highs xs ys (others_of x xs f) (others_of y ys g) i

either : (b : Bool) (x y : ℤ) → FitsSigned w32 x → FitsSigned w32 y → FitsSigned w32 (cond b x y)
either true x y f g = f
either false x y f g = g

-- the lesser and the greater of numbers that fit do
pub lows_fit : (xs ys : List ℤ) → All (FitsSigned w32) xs → All (FitsSigned w32) ys → All (FitsSigned w32) (zip2 int_min xs ys)
lows_fit [] ys f g = λ k d lt. absurd (omega arith)
lows_fit (x ∷ xs) [] f g = λ k d lt. absurd (omega arith)
lows_fit (x ∷ xs) (y ∷ ys) f g =
    joined (int_min x y) (zip2 int_min xs ys) (either (lt_z y x) y x (first_of y ys g) (first_of x xs f))
    (lows_fit xs ys (others_of x xs f) (others_of y ys g))

pub highs_fit : (xs ys : List ℤ) → All (FitsSigned w32) xs → All (FitsSigned w32) ys → All (FitsSigned w32) (zip2 int_max xs ys)
highs_fit [] ys f g = λ k d lt. absurd (omega arith)
highs_fit (x ∷ xs) [] f g = λ k d lt. absurd (omega arith)
highs_fit (x ∷ xs) (y ∷ ys) f g =
    joined (int_max x y) (zip2 int_max xs ys) (either (lt_z y x) x y (first_of x xs f) (first_of y ys g))
    (highs_fit xs ys (others_of x xs f) (others_of y ys g))

-- four lanes, one by one
four : (xs : List ℤ) → length xs ≡ 4
    → xs ≡ slice_index_or xs 0 (pos 0) ∷ slice_index_or xs 1 (pos 0) ∷ slice_index_or xs 2 (pos 0) ∷ slice_index_or xs 3 (pos 0) ∷ []
four [] n = absurd (omega arith)
four (a ∷ []) n = absurd (omega arith)
four (a ∷ b ∷ []) n = absurd (omega arith)
four (a ∷ b ∷ c ∷ []) n = absurd (omega arith)
four (a ∷ b ∷ c ∷ d ∷ []) n = refl
four (a ∷ b ∷ c ∷ d ∷ e ∷ rest) n = absurd (omega arith)

pub length-zip2_four : (f : ℤ → ℤ → ℤ) (xs : List ℤ) (x y z w : ℤ) → length xs ≡ 4 → length (zip2 f xs (x ∷ y ∷ z ∷ w ∷ [])) ≡ 4
length-zip2_four f xs x y z w n = ap (λ (l : List ℤ). length (zip2 f l (x ∷ y ∷ z ∷ w ∷ []))) (four xs n)

-- the extents in lanes that were widened by a record's
pub lanes_widened : (low high : List ℤ) (x y z w : ℤ) → length low ≡ 4 → length high ≡ 4
    → extents_in (zip2 int_min low (x ∷ y ∷ z ∷ w ∷ [])) (zip2 int_max high (x ∷ y ∷ z ∷ w ∷ []))
    ≡ record { x = widened (lane_range low high 0) x; y = widened (lane_range low high 1) y; z = widened (lane_range low high 2) z }
lanes_widened low high x y z w p q =
    λ i. extents_in (zip2 int_min (four low p i) (x ∷ y ∷ z ∷ w ∷ [])) (zip2 int_max (four high q i) (x ∷ y ∷ z ∷ w ∷ []))

-- lanes that were written as bits and read again
pub kept : (xs : List ℤ) → All (FitsSigned w32) xs → map (to_z w32) (map (of_z w32) xs) ≡ xs
kept [] f = refl
kept (x ∷ xs) f = λ i. to_z-of_z w32 x (first_of x xs f) i ∷ kept xs (others_of x xs f) i

lane_kept : (xs : List ℤ) → All (FitsSigned w32) xs → (k : ℕ) → k < length xs
    → to_z w32 (of_z w32 (slice_index_or (map (to_z w32) (map (of_z w32) xs)) k (pos 0))) ≡ slice_index_or xs k (pos 0)
lane_kept xs f k lt =
    ap (λ (l : List ℤ). to_z w32 (of_z w32 (slice_index_or l k (pos 0)))) (kept xs f)
    ∙ to_z-of_z w32 (slice_index_or xs k (pos 0)) (f k (pos 0) lt)

-- extents whose ends are read from lanes
pub extents_kept : (low high : List ℤ) → All (FitsSigned w32) low → All (FitsSigned w32) high → length low ≡ 4 → length high ≡ 4
    → (let bits = λ (n : ℤ). to_z w32 (of_z w32 n) in
    let back = λ (xs : List ℤ). map (to_z w32) (map (of_z w32) xs) in
    ◌≡◌ {A = Extents} (record {
      x = record { low = bits (slice_index_or (back low) 0 (pos 0)); high = bits (slice_index_or (back high) 0 (pos 0)) };
      y = record { low = bits (slice_index_or (back low) 1 (pos 0)); high = bits (slice_index_or (back high) 1 (pos 0)) };
      z = record { low = bits (slice_index_or (back low) 2 (pos 0)); high = bits (slice_index_or (back high) 2 (pos 0)) };
    }) (extents_in low high))
extents_kept low high f g p q =
    λ i. record {
      x = record { low = lane_kept low f 0 (omega arith) i; high = lane_kept high g 0 (omega arith) i };
      y = record { low = lane_kept low f 1 (omega arith) i; high = lane_kept high g 1 (omega arith) i };
      z = record { low = lane_kept low f 2 (omega arith) i; high = lane_kept high g 2 (omega arith) i };
    }
