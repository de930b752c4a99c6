-- The last symbol at or below a position, and the size of look-up tables.
use Rattle.std.proofs.Common.{◌≡◌, ℕ, zero, suc, ◌+◌, ◌-◌, ◌*◌, ◌%◌, ◌^◌, ◌<◌, ◌≤◌, List, [], ◌∷◌, cond, ltb, get_or, refl, sym, ap, ◌∙◌, mul_assoc, arith, ⊎_elim, lit<}
use Rattle.std.proofs.Math.Nat.{pow-le-pow_right}
use Rattle.std.proofs.lemmas.Bool.{cases_lt, cond-true, cond-false, lt-ltb, le-ltb}
use Rattle.std.proofs.lemmas.List.Sums.{count_by-le-length}
use Rattle.std.proofs.lemmas.Nat.{mul-le, pow-add, pow_pos}
use Rattle.laz_models.specs.Counting.{AreStarts}
use Rattle.laz_models.specs.Lookup.{IsLastAt, table_bits, search_bits}

-- parts do not fall
rising-by : (n : ℕ) (starts : List ℕ) (s d : ℕ) → AreStarts n starts → s + d < n → get_or starts s 0 ≤ get_or starts (s + d) 0
rising-by n starts s zero h within = let e : s + 0 ≡ s = omega arith in rw e (omega arith)
rising-by n starts s (suc d) h within =
    let e : s + suc d ≡ (s + d) + 1 = omega arith in
    rw e (omega (arith, rising-by n starts s d h (omega arith), h.rising (s + d) (omega arith)))

pub rising-le : (n : ℕ) (starts : List ℕ) (s k : ℕ) → AreStarts n starts → s ≤ k → k < n → get_or starts s 0 ≤ get_or starts k 0
rising-le n starts s k h order within =
    let e : k ≡ s + (k - s) = omega arith in
    let step : get_or starts s 0 ≤ get_or starts (s + (k - s)) 0 = rising-by n starts s (k - s) h (omega arith) in
    omega (arith, step, ap (λ i. get_or starts i 0) e)

-- the last symbol at v or below, from the two parts beside it
pub last_at : (n : ℕ) (starts : List ℕ) (v s : ℕ) → AreStarts n starts → s < n → get_or starts s 0 ≤ v → (s + 1 < n → v < get_or starts (s + 1) 0) → IsLastAt starts v s
last_at n starts v s h symbol start next =
    record {
      symbol = omega (arith, h.length);
      start = start;
      greatest = λ k within at.
          ⊎_elim {C = k ≤ s}
          (λ (more : s < k). absurd (omega (arith, h.length, next (omega (arith, h.length)), rising-le n starts (s + 1) k h (omega arith) (omega (arith, h.length)))))
          (λ (less : k ≤ s). less)
          (cases_lt s k);
    }

-- ---- the look-up table's size
pub table_bits-bounds : (n : ℕ) → (3 ≤ table_bits n) × (table_bits n ≤ 9)
unfolding table_bits
table_bits-bounds n = (omega arith, omega (arith, count_by-le-length (λ b. ltb (2 ^ (b + 2)) n) (3 ∷ 4 ∷ 5 ∷ 6 ∷ 7 ∷ 8 ∷ [])))

-- whether b is too small, for each b from 3 to 8
pub table_bits-sum : (n : ℕ) → table_bits n ≡ 3 + (0 + cond {A = ℕ} (ltb 32 n) 1 0 + cond {A = ℕ} (ltb 64 n) 1 0 + cond {A = ℕ} (ltb 128 n) 1 0 + cond {A = ℕ} (ltb 256 n) 1 0 + cond {A = ℕ} (ltb 512 n) 1 0 + cond {A = ℕ} (ltb 1024 n) 1 0)
unfolding table_bits
table_bits-sum n = refl

pub counts-one : (k n : ℕ) → k < n → cond {A = ℕ} (ltb k n) 1 0 ≡ 1
counts-one k n h = cond-true {A = ℕ} (ltb k n) 1 0 (lt-ltb k n h)

pub counts-none : (k n : ℕ) → n ≤ k → cond {A = ℕ} (ltb k n) 1 0 ≡ 0
counts-none k n h = cond-false {A = ℕ} (ltb k n) 1 0 (le-ltb k n h)

-- the entries of a table divide the 2 ^ 15 places
pub places : (b : ℕ) → b ≤ 15 → 2 ^ b * 2 ^ (15 - b) ≡ 32768
places b h = let e : b + (15 - b) ≡ 15 = omega arith in sym (pow-add 2 b (15 - b)) ∙ ap (λ k. 2 ^ k) e

-- ---- the size of the table of a search
pub search_bits-bounds : (n : ℕ) → (3 ≤ search_bits n) × (search_bits n ≤ 11)
unfolding search_bits
search_bits-bounds n = (omega arith, omega (arith, count_by-le-length (λ b. ltb (2 ^ b) n) (3 ∷ 4 ∷ 5 ∷ 6 ∷ 7 ∷ 8 ∷ 9 ∷ 10 ∷ [])))

-- whether b is too small, for each b from 3 to 10
pub search_bits-sum : (n : ℕ) → search_bits n ≡ 3 + (0 + cond {A = ℕ} (ltb 8 n) 1 0 + cond {A = ℕ} (ltb 16 n) 1 0 + cond {A = ℕ} (ltb 32 n) 1 0 + cond {A = ℕ} (ltb 64 n) 1 0 + cond {A = ℕ} (ltb 128 n) 1 0 + cond {A = ℕ} (ltb 256 n) 1 0 + cond {A = ℕ} (ltb 512 n) 1 0 + cond {A = ℕ} (ltb 1024 n) 1 0)
unfolding search_bits
search_bits-sum n = refl

pub search-few : (n : ℕ) → 2 ^ search_bits n ≤ 2048
search-few n = pow-le-pow_right {n = 2} (lit< tt) {i = search_bits n} {j = 11} (search_bits-bounds n).1

pub search-whole : (n : ℕ) → 2 ^ search_bits n * 2 ^ (15 - search_bits n) ≡ 32768
search-whole n = places (search_bits n) (omega (arith, search_bits-bounds n))

-- ---- the steps of a search
-- a step's place is below 2 ^ 15
pub step-within : (n step : ℕ) → step < 2 ^ search_bits n → step * 2 ^ (15 - search_bits n) < 32768
step-within n step below =
    let unit : ℕ = 2 ^ (15 - search_bits n) in
    let less : (step + 1) * unit ≤ 2 ^ search_bits n * unit = mul-le (step + 1) unit (2 ^ search_bits n) unit (omega arith) (omega arith) in
    omega (arith, less, search-whole n, pow_pos (15 - search_bits n))

-- and there is no other
pub step-below : (n step : ℕ) → step * 2 ^ (15 - search_bits n) < 32768 → step < 2 ^ search_bits n
step-below n step within =
    let unit : ℕ = 2 ^ (15 - search_bits n) in
    ⊎_elim
    (λ (less : step < 2 ^ search_bits n). less)
    (λ (more : 2 ^ search_bits n ≤ step). absurd (omega (arith, within, search-whole n, mul-le (2 ^ search_bits n) unit step unit more (omega arith))))
    (cases_lt step (2 ^ search_bits n))

-- ---- the table that is kept has the entries of the other
counts-le : (a b n : ℕ) → b ≤ a → cond {A = ℕ} (ltb a n) 1 0 ≤ cond {A = ℕ} (ltb b n) 1 0
counts-le a b n order =
    ⊎_elim
    (λ (more : a < n). omega (arith, counts-one a n more, counts-one b n (omega arith)))
    (λ (less : n ≤ a). omega (arith, counts-none a n less))
    (cases_lt a n)

pub table_bits-le : (n : ℕ) → table_bits n ≤ search_bits n
table_bits-le n = omega (arith, table_bits-sum n, search_bits-sum n, counts-le 32 8 n (omega arith), counts-le 64 16 n (omega arith), counts-le 128 32 n (omega arith), counts-le 256 64 n (omega arith), counts-le 512 128 n (omega arith), counts-le 1024 256 n (omega arith))

pub table_bits-below : (n : ℕ) → 1 * 2 ^ table_bits n % 4294967296 ≡ 2 ^ table_bits n
table_bits-below n = let few : 2 ^ table_bits n ≤ 512 = pow-le-pow_right {n = 2} (lit< tt) {i = table_bits n} {j = 9} (table_bits-bounds n).1 in omega arith

-- an entry of the other, as one of the table that is kept
pub record IsKept (n t : ℕ) : Type 0 where
  pub within : t * 2 ^ (search_bits n - table_bits n) < 2 ^ search_bits n
  pub place : t * 2 ^ (search_bits n - table_bits n) * 2 ^ (15 - search_bits n) ≡ t * 2 ^ (15 - table_bits n)

pub entry-kept : (n t : ℕ) → t < 2 ^ table_bits n → IsKept n t
entry-kept n t below =
    let more : ℕ = search_bits n - table_bits n in
    let bits : table_bits n + more ≡ search_bits n = omega (arith, table_bits-le n) in
    let whole : 2 ^ search_bits n ≡ 2 ^ table_bits n * 2 ^ more = ap (λ k. 2 ^ k) (sym bits) ∙ pow-add 2 (table_bits n) more in
    let less : (t + 1) * 2 ^ more ≤ 2 ^ table_bits n * 2 ^ more = mul-le (t + 1) (2 ^ more) (2 ^ table_bits n) (2 ^ more) (omega arith) (omega arith) in
    let rest : more + (15 - search_bits n) ≡ 15 - table_bits n = omega (arith, table_bits-le n, search_bits-bounds n) in
    let places : 2 ^ (15 - table_bits n) ≡ 2 ^ more * 2 ^ (15 - search_bits n) = ap (λ k. 2 ^ k) (sym rest) ∙ pow-add 2 more (15 - search_bits n) in
    record {
      within = omega (arith, whole, less, pow_pos more);
      place = mul_assoc t (2 ^ more) (2 ^ (15 - search_bits n)) ∙ ap (λ x. t * x) (sym places);
    }
