-- The table of reciprocals, and places estimated by them.
use Rattle.std.proofs.Common.{◌≡◌, ℕ, zero, suc, ◌+◌, ◌-◌, ◌*◌, ◌/◌, ◌%◌, ◌^◌, ◌<◌, ◌≤◌, List, [], ◌∷◌, length, get_or, Bool, true, false, eqb, cond, refl, sym, ap, ◌∙◌, arith, ⊎_elim, lit<}
use Rattle.std.proofs.lemmas.Bool.{eqb-true, cases_lt}
use lib.Bits.{bit_and}
use Rattle.std.proofs.lemmas.Nat.{and_mask, leading_top, mul-le, pow-add, pow_pos, div-add-mod'}
use Rattle.std.proofs.Math.Nat.{div-div-eq-div-mul, pow-le-pow_right, mod-eq_of_lt}
use lib.Count.{count_leading_zeros}
use Rattle.laz_range.specs.Search.{reciprocal, AreReciprocals, top_bits}
use Rattle.laz_range.specs.declared.reciprocal.TheConstants.{RECIPROCALS}

-- ---- the table
-- a test of a table whose first entry is that of `top`
all_reciprocals : ℕ → List ℕ → Bool
all_reciprocals top [] = true
all_reciprocals top (x ∷ xs) = cond (eqb x (reciprocal top)) (all_reciprocals (suc top) xs) false

first_of_both : (b c : Bool) → cond b c false ≡ true → b ≡ true
first_of_both true c e = refl
first_of_both false c e = cc

second_of_both : (b c : Bool) → cond b c false ≡ true → c ≡ true
second_of_both true c e = e
second_of_both false c e = cc

each_reciprocal : (top : ℕ) (xs : List ℕ) (i : ℕ) → all_reciprocals top xs ≡ true → i < length xs → get_or xs i 0 ≡ reciprocal (i + top)
unfolding all_reciprocals
each_reciprocal top [] i e h = absurd (omega arith)
each_reciprocal top (x ∷ xs) zero e h =
    let same : 0 + top ≡ top = omega arith in
    rw same (eqb-true x (reciprocal top) (first_of_both (eqb x (reciprocal top)) (all_reciprocals (suc top) xs) e))
each_reciprocal top (x ∷ xs) (suc i) e h =
    let same : suc i + top ≡ i + suc top = omega arith in
    rw same (each_reciprocal (suc top) xs i (second_of_both (eqb x (reciprocal top)) (all_reciprocals (suc top) xs) e) (omega arith))

table-test : all_reciprocals 1024 RECIPROCALS ≡ true
unfolding all_reciprocals
table-test = refl

pub AreReciprocals-table : AreReciprocals RECIPROCALS
AreReciprocals-table i h = each_reciprocal 1024 RECIPROCALS i table-test h

-- ---- a place estimated
-- the top 11 bits of a length without its leading zeros
pub record Top (len lead : ℕ) : Type 0 where
  pub few : lead ≤ 7
  pub long : 2147483648 ≤ len * 2 ^ lead
  pub fits : len * 2 ^ lead < 4294967296

pub top-of : (len : ℕ) → 16777216 ≤ len → len < 4294967296 → Top len (count_leading_zeros 32 len)
top-of len long fits =
    let top = leading_top 32 len (omega arith) fits in
    let j : ℕ = top.0 in
    let z : ℕ = count_leading_zeros 32 len in
    let sum : z + suc j ≡ 32 = top.1 in
    let high : 24 ≤ j =
    ⊎_elim
    (λ (less : j < 24). absurd (omega (arith, top.3, pow-le-pow_right {n = 2} (lit< tt) {i = suc j} {j = 24} less)))
    (λ (more : 24 ≤ j). more)
    (cases_lt j 24) in
    let less_one : j + z ≡ 31 = omega (arith, sum) in
    let all : suc j + z ≡ 32 = omega (arith, sum) in
    let up : 2 ^ j * 2 ^ z ≡ 2147483648 = sym (pow-add 2 j z) ∙ ap (λ k. 2 ^ k) less_one in
    let down : 2 ^ suc j * 2 ^ z ≡ 4294967296 = sym (pow-add 2 (suc j) z) ∙ ap (λ k. 2 ^ k) all in
    record {
      few = omega (arith, sum, high);
      long = omega (arith, up, mul-le (2 ^ j) (2 ^ z) len (2 ^ z) top.2 (omega arith));
      fits = omega (arith, down, mul-le (suc len) (2 ^ z) (2 ^ suc j) (2 ^ z) top.3 (omega arith), pow_pos z);
    }

-- ---- lengths and their leading zeros
-- j and the leading zeros are 31
pub record Leading (len j : ℕ) : Type 0 where
  pub sum : count_leading_zeros 32 len + suc j ≡ 32
  pub low : 2 ^ j ≤ len
  pub high : len < 2 ^ suc j

leading-of : (len : ℕ) → 0 < len → len < 4294967296 → (j : ℕ) × Leading len j
leading-of len some fits = let top = leading_top 32 len some fits in (top.0, record { sum = top.1; low = top.2; high = top.3 })

-- there is one such j
leading-one : (len j k : ℕ) → Leading len j → 2 ^ k ≤ len → len < 2 ^ suc k → j ≡ k
leading-one len j k l low high =
    ⊎_elim
    (λ (less : j < k). absurd (omega (arith, l.high, low, pow-le-pow_right {n = 2} (lit< tt) {i = suc j} {j = k} less)))
    (λ (more : k ≤ j).
    ⊎_elim
    (λ (over : k < j). absurd (omega (arith, l.low, high, pow-le-pow_right {n = 2} (lit< tt) {i = suc k} {j = j} over)))
    (λ (same : j ≤ k). omega arith)
    (cases_lt k j))
    (cases_lt j k)

-- without its leading zeros a length still fits
pub led-fits : (len : ℕ) → 0 < len → len < 4294967296 → len * 2 ^ count_leading_zeros 32 len < 4294967296
led-fits len some fits =
    let top = leading-of len some fits in
    let j : ℕ = top.0 in
    let z : ℕ = count_leading_zeros 32 len in
    let sum : suc j + z ≡ 32 = omega (arith, top.1.sum) in
    let all : 2 ^ suc j * 2 ^ z ≡ 4294967296 = sym (pow-add 2 (suc j) z) ∙ ap (λ k. 2 ^ k) sum in
    omega (arith, all, mul-le (suc len) (2 ^ z) (2 ^ suc j) (2 ^ z) top.1.high (omega arith), pow_pos z)

-- there are fewer than 32
pub led-masked : (len : ℕ) → 0 < len → len < 4294967296 → bit_and (count_leading_zeros 32 len) 31 ≡ count_leading_zeros 32 len
led-masked len some fits = let top = leading-of len some fits in and_mask (count_leading_zeros 32 len) 5 ∙ mod-eq_of_lt (omega (arith, top.1.sum))

-- k places on, a length has k leading zeros fewer
led-on : (len k : ℕ) → 0 < len → len * 2 ^ k < 4294967296 → count_leading_zeros 32 (len * 2 ^ k) + k ≡ count_leading_zeros 32 len
led-on len k some fits =
    let more : len * 1 ≤ len * 2 ^ k = mul-le len 1 len (2 ^ k) (omega arith) (pow_pos k) in
    let here = leading-of len some (omega (arith, more, fits)) in
    let there = leading-of (len * 2 ^ k) (omega (arith, more)) fits in
    let j : ℕ = here.0 in
    let low : 2 ^ (j + k) ≤ len * 2 ^ k = rw (pow-add 2 j k) (mul-le (2 ^ j) (2 ^ k) len (2 ^ k) here.1.low (omega arith)) in
    let up : 2 ^ suc (j + k) ≡ 2 ^ suc j * 2 ^ k = ap (λ n. 2 ^ n) (let e : suc (j + k) ≡ suc j + k = omega arith in e) ∙ pow-add 2 (suc j) k in
    let high : len * 2 ^ k < 2 ^ suc (j + k) = omega (arith, up, pow_pos k, mul-le (suc len) (2 ^ k) (2 ^ suc j) (2 ^ k) here.1.high (omega arith)) in
    omega (arith, here.1.sum, there.1.sum, leading-one (len * 2 ^ k) there.0 (j + k) there.1 low high)

-- so that its top bits stay
pub top-on : (len k : ℕ) → 0 < len → len * 2 ^ k < 4294967296 → top_bits (len * 2 ^ k % 4294967296) ≡ top_bits len
top-on len k some fits =
    let z : ℕ = count_leading_zeros 32 (len * 2 ^ k) in
    let sum : k + z ≡ count_leading_zeros 32 len = omega (arith, led-on len k some fits) in
    let whole : len * 2 ^ k % 4294967296 ≡ len * 2 ^ k = mod-eq_of_lt fits in
    let power : 2 ^ k * 2 ^ z ≡ 2 ^ count_leading_zeros 32 len = sym (pow-add 2 k z) ∙ ap (λ n. 2 ^ n) sum in
    let led : len * 2 ^ k * 2 ^ z ≡ len * 2 ^ count_leading_zeros 32 len = omega (arith, ap (λ p. len * p) power) in
    rw whole (ap (λ n. n / 2097152) led)

-- ---- places
-- the reciprocal times any length with these top bits is at most 2 ^ 47
reciprocal-le : (top m : ℕ) → m ≤ (top + 1) * 2097152 - 1 → reciprocal top * m ≤ 140737488355328
reciprocal-le top m h =
    omega (arith, mul-le (reciprocal top) m (reciprocal top) ((top + 1) * 2097152 - 1) (omega arith) h, div-add-mod' 140737488355328 ((top + 1) * 2097152 - 1))

-- e parts, if p q is 2 ^ 32
estimate-le : (e p q len value r : ℕ) → p * q ≡ 4294967296 → e * p ≤ value * r → r * (len * q) ≤ 140737488355328 → e * len ≤ value * 32768
estimate-le e p q len value r pq ep rl =
    let a : e * p * (len * q) ≤ value * r * (len * q) = mul-le (e * p) (len * q) (value * r) (len * q) ep (omega arith) in
    let b : value * (r * (len * q)) ≤ value * 140737488355328 = mul-le value (r * (len * q)) value 140737488355328 (omega arith) rl in
    let c : e * len * (p * q) ≡ e * len * 4294967296 = ap (λ x. e * len * x) pq in
    omega (arith, a, b, c)

place-le : (e len value : ℕ) → e * len ≤ value * 32768 → e * (len / 32768) ≤ value
place-le e len value h =
    let a : e * (len / 32768 * 32768) ≤ e * len = mul-le e (len / 32768 * 32768) e len (omega arith) (omega arith) in
    omega (arith, a, h)

place-lt : (e len value : ℕ) → e * len ≤ value * 32768 → value < len → e < 32768
place-lt e len value h below =
    ⊎_elim
    (λ (less : e < 32768). less)
    (λ (more : 32768 ≤ e). absurd (omega (arith, h, below, mul-le 32768 len e len more (omega arith))))
    (cases_lt e 32768)

pub record Estimate (value len e : ℕ) : Type 0 where
  pub place : e * (len / 32768) ≤ value
  pub within : e < 32768

pub top-bounds : (len lead : ℕ) → Top len lead → (1024 ≤ len * 2 ^ lead / 2097152) × (len * 2 ^ lead / 2097152 < 2048)
top-bounds len lead t = (omega (arith, t.long, t.fits), omega (arith, t.long, t.fits))

pub estimated : (value len lead r : ℕ) → Top len lead → value < len → r ≡ reciprocal (len * 2 ^ lead / 2097152) → Estimate value len (value * r / 2 ^ (32 - lead))
estimated value len lead r t below is =
    let top : ℕ = len * 2 ^ lead / 2097152 in
    let small : len * 2 ^ lead ≤ (top + 1) * 2097152 - 1 = omega (arith, t.fits, t.long) in
    let whole : r * (len * 2 ^ lead) ≤ 140737488355328 = rw is (reciprocal-le top (len * 2 ^ lead) small) in
    let p : ℕ = 2 ^ (32 - lead) in
    let sum : 32 - lead + lead ≡ 32 = omega (arith, t.few) in
    let pq : p * 2 ^ lead ≡ 4294967296 = sym (pow-add 2 (32 - lead) lead) ∙ ap (λ k. 2 ^ k) sum in
    let e : ℕ = value * r / p in
    let ep : e * p ≤ value * r = omega (arith, div-add-mod' (value * r) p) in
    let le : e * len ≤ value * 32768 = estimate-le e p (2 ^ lead) len value r pq ep whole in
    record { place = place-le e len value le; within = place-lt e len value le below }

-- an estimate without its low bits
pub coarse-of : (product digits bits : ℕ) → product / 2 ^ (digits + bits) ≡ product / 2 ^ digits / 2 ^ bits
coarse-of product digits bits = ap (λ n. product / n) (pow-add 2 digits bits) ∙ sym (div-div-eq-div-mul product (2 ^ digits) (2 ^ bits))
