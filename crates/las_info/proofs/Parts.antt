-- Numbers that are counted in two parts, and are the sums of these.
use Rattle.std.proofs.Common.{◌≡◌, ℕ, zero, suc, ◌+◌, ◌<◌, ◌^◌, List, [], ◌∷◌, All, Fits, drop, length, refl, ap, arith, slice_index, slice_set, w32}
use Rattle.std.specs.Simd.Lanes.{Each2, zip2}

abbrev pub sums : (first second : List ℕ) → List ℕ
sums first second = zip2 (λ a b. a + b) first second

pub length-sums : (first second : List ℕ) → length first ≡ length second → length (sums first second) ≡ length first
length-sums [] second e = refl
length-sums (a ∷ first) [] e = absurd (omega arith)
length-sums (a ∷ first) (b ∷ second) e = ap suc (length-sums first second (omega arith))

sum_at : (first second : List ℕ) (k : ℕ) → length first ≡ length second
    → slice_index (sums first second) k ≡ slice_index first k + slice_index second k
sum_at [] [] k e = refl
sum_at [] (b ∷ second) k e = absurd (omega arith)
sum_at (a ∷ first) [] k e = absurd (omega arith)
sum_at (a ∷ first) (b ∷ second) zero e = refl
sum_at (a ∷ first) (b ∷ second) (suc k) e = sum_at first second k (omega arith)

-- neither part is above the sum
pub parts_below : (first second : List ℕ) (k n : ℕ) → length first ≡ length second → k < length first → All (λ m. m < n) (sums first second)
    → (slice_index first k < n) × (slice_index second k < n)
parts_below first second k n e lt below =
    let here : slice_index (sums first second) k < n = below k 0 (omega (arith, length-sums first second e)) in
    (omega (arith, here, sum_at first second k e), omega (arith, here, sum_at first second k e))

-- one more in either part is one more in the sum
pub first_counted : (first second : List ℕ) (k : ℕ) → length first ≡ length second
    → sums (slice_set first k (slice_index first k + 1)) second ≡ slice_set (sums first second) k (slice_index (sums first second) k + 1)
first_counted [] second k e = refl
first_counted (a ∷ first) [] k e = absurd (omega arith)
first_counted (a ∷ first) (b ∷ second) zero e = ap (λ n. n ∷ sums first second) (omega arith)
first_counted (a ∷ first) (b ∷ second) (suc k) e = ap (λ s. (a + b) ∷ s) (first_counted first second k (omega arith))

pub second_counted : (first second : List ℕ) (k : ℕ) → length first ≡ length second
    → sums first (slice_set second k (slice_index second k + 1)) ≡ slice_set (sums first second) k (slice_index (sums first second) k + 1)
second_counted [] second k e = refl
second_counted (a ∷ first) [] k e = absurd (omega arith)
second_counted (a ∷ first) (b ∷ second) zero e = ap (λ n. n ∷ sums first second) (omega arith)
second_counted (a ∷ first) (b ∷ second) (suc k) e = ap (λ s. (a + b) ∷ s) (second_counted first second k (omega arith))

-- the sums fit
pub sums_fit : (first second : List ℕ) → All (λ n. n < 2 ^ 32) (sums first second) → Each2 (λ a b. Fits w32 (a + b)) first second
sums_fit [] second below = tt
sums_fit (a ∷ first) [] below = tt
sums_fit (a ∷ first) (b ∷ second) below =
    (record { fits = below 0 0 (omega arith) }, sums_fit first second (λ k d lt. below (suc k) d (omega arith)))

-- eight numbers but the first, one by one
pub but_first : (xs : List ℕ) → length xs ≡ 8
    → slice_index xs 1 ∷ slice_index xs 2 ∷ slice_index xs 3 ∷ slice_index xs 4 ∷ slice_index xs 5 ∷ slice_index xs 6 ∷ slice_index xs 7 ∷ [] ≡ drop 1 xs
but_first [] n = absurd (omega arith)
but_first (a ∷ []) n = absurd (omega arith)
but_first (a ∷ b ∷ []) n = absurd (omega arith)
but_first (a ∷ b ∷ c ∷ []) n = absurd (omega arith)
but_first (a ∷ b ∷ c ∷ d ∷ []) n = absurd (omega arith)
but_first (a ∷ b ∷ c ∷ d ∷ e ∷ []) n = absurd (omega arith)
but_first (a ∷ b ∷ c ∷ d ∷ e ∷ f ∷ []) n = absurd (omega arith)
but_first (a ∷ b ∷ c ∷ d ∷ e ∷ f ∷ g ∷ []) n = absurd (omega arith)
but_first (a ∷ b ∷ c ∷ d ∷ e ∷ f ∷ g ∷ h ∷ []) n = refl
but_first (a ∷ b ∷ c ∷ d ∷ e ∷ f ∷ g ∷ h ∷ i ∷ rest) n = absurd (omega arith)
