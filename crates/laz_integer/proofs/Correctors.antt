use Rattle.std.proofs.Common.{◌≡◌, ℕ, zero, suc, ◌+◌, ◌-◌, ◌*◌, ◌/◌, ◌%◌, ◌^◌, ◌<◌, ◌≤◌, eqb, leb, ltb, refl, sym, ap, ◌∙◌, arith, ⊎_elim, lit≤, lit<}
use Rattle.std.proofs.Math.Nat.{two-pow-succ, pow-le-pow_right, mod-eq_of_lt, mod-add-mod, add-mul-mod_self_left, mul-suc}
use Rattle.std.proofs.Math.Pow.{mod-mod-pow}
use Rattle.std.proofs.lemmas.Bool.{cases_lt, cases_eq, cond-true, cond-false, ne_eqb, le-leb, lt-leb, lt-ltb, le-ltb}
use Rattle.std.proofs.lemmas.Nat.{pow_pos, mod_below, pow-add, div-mul-add, leading_top}
use lib.Count.{count_leading_zeros}
use Rattle.std.specs.Int.Count.{leading_of_zero}
use Rattle.laz_integer.specs.Corrector.{choices, corrector, digits_of, digits_within, width_of, corrector_index}

-- ---- how many correctors there are
pub choices-more : (k : ℕ) → 0 < k → k < 32 → choices k ≡ 2 ^ k
unfolding choices
choices-more k some small = cond-false (eqb k 0) _ _ (ne_eqb k 0 (λ e. omega arith)) ∙ cond-false (eqb k 32) _ _ (ne_eqb k 32 (λ e. omega arith))

-- a power of two is twice the one before
pub twice : (k : ℕ) → 1 ≤ k → 2 ^ k ≡ 2 * 2 ^ (k - 1)
twice k some = let e : k ≡ suc (k - 1) = omega arith in let powers : 2 ^ k ≡ 2 ^ suc (k - 1) = ap (λ n. 2 ^ n) e in omega (arith, powers, two-pow-succ (k - 1))

-- an exponent is at most another if its power is
pub exponent-le : (k b : ℕ) → 2 ^ k ≤ 2 ^ b → k ≤ b
exponent-le k b h =
    ⊎_elim
    (λ (less : b < k).
    let up : suc b ≤ k = less in
    let powers : 2 ^ suc b ≤ 2 ^ k = pow-le-pow_right (lit≤ tt) up in
    absurd (omega (arith, two-pow-succ b, pow_pos b, powers, h)))
    (λ (fine : k ≤ b). fine)
    (cases_lt b k)

pub corrector-zero : (bits v : ℕ) → corrector bits 0 v ≡ v
unfolding corrector
corrector-zero bits v = refl

pub corrector-most : (bits v : ℕ) → corrector bits 32 v ≡ 2147483648
unfolding corrector
corrector-most bits v = refl

pub corrector-upper : (bits k v : ℕ) → 0 < k → k < 32 → 2 ^ (k - 1) ≤ v → corrector bits k v ≡ (v + 1) % 2 ^ bits
unfolding corrector
corrector-upper bits k v some small high =
    cond-false (eqb k 0) _ _ (ne_eqb k 0 (λ e. omega arith))
    ∙ (cond-false (eqb k 32) _ _ (ne_eqb k 32 (λ e. omega arith)) ∙ cond-true (leb (2 ^ (k - 1)) v) _ _ (le-leb (2 ^ (k - 1)) v high))

pub corrector-up : (bits k v : ℕ) → 0 < k → k < 32 → 2 ^ (k - 1) ≤ v → v + 1 < 2 ^ bits → corrector bits k v ≡ v + 1
unfolding corrector
corrector-up bits k v some small high fits =
    cond-false (eqb k 0) _ _ (ne_eqb k 0 (λ e. omega arith))
    ∙ (cond-false (eqb k 32) _ _ (ne_eqb k 32 (λ e. omega arith)) ∙ (cond-true (leb (2 ^ (k - 1)) v) _ _ (le-leb (2 ^ (k - 1)) v high) ∙ mod-eq_of_lt fits))

pub corrector-down : (bits k v : ℕ) → 0 < k → k < 32 → v < 2 ^ (k - 1) → corrector bits k v ≡ 2 ^ bits - (2 ^ k - 1 - v)
unfolding corrector
corrector-down bits k v some small low =
    cond-false (eqb k 0) _ _ (ne_eqb k 0 (λ e. omega arith))
    ∙ (cond-false (eqb k 32) _ _ (ne_eqb k 32 (λ e. omega arith)) ∙ cond-false (leb (2 ^ (k - 1)) v) _ _ (lt-leb (2 ^ (k - 1)) v low))

-- ---- digits
pub digits-bounds : (size : ℕ) → 0 < size → size < 2 ^ 32 → (2 ^ (32 - count_leading_zeros 32 size) ≤ 2 * size) × (size < 2 ^ (32 - count_leading_zeros 32 size))
digits-bounds size some small =
    let top = leading_top 32 size some small in
    let digits : 32 - count_leading_zeros 32 size ≡ suc top.0 = omega (arith, top.1) in
    rw digits (omega (arith, two-pow-succ top.0, top.2), top.3)

pub leading_some : (size : ℕ) → size < 2 ^ (32 - count_leading_zeros 32 size) → 0 < size → 1 ≤ 32 - count_leading_zeros 32 size
leading_some size above some =
    ⊎_elim
    (λ (none : 32 - count_leading_zeros 32 size ≡ 0). let one : 2 ^ (32 - count_leading_zeros 32 size) ≡ 1 = ap (λ k. 2 ^ k) none in absurd (omega (arith, one, above, some)))
    (λ (more : 32 - count_leading_zeros 32 size ≡ 0 → ⊥). omega (arith, more))
    (cases_eq (32 - count_leading_zeros 32 size) 0)

pub digits-zero : (m : ℕ) → digits_within m 0 ≡ 0
unfolding digits_within
digits-zero zero = refl
digits-zero (suc j) = cond-false (leb (2 ^ j) 0) _ _ (lt-leb (2 ^ j) 0 (pow_pos j)) ∙ digits-zero j

-- the digits are those between which powers of 2 the number lies
pub digits-is : (m n k : ℕ) → k ≤ m → 1 ≤ k → 2 ^ k ≤ 2 * n → n < 2 ^ k → digits_within m n ≡ k
unfolding digits_within
digits-is zero n k within some least above = absurd (omega arith)
digits-is (suc j) n k within some least above =
    ⊎_elim
    (λ (same : k ≡ suc j).
    let power : 2 ^ k ≡ 2 ^ j + 2 ^ j = ap (λ n. 2 ^ n) same ∙ two-pow-succ j in
    cond-true (leb (2 ^ j) n) _ _ (le-leb (2 ^ j) n (omega arith)) ∙ sym same)
    (λ (fewer : k ≡ suc j → ⊥).
    let inside : k ≤ j = omega (arith, fewer, within) in
    let power : 2 ^ k ≤ 2 ^ j = pow-le-pow_right (lit≤ tt) inside in
    cond-false (leb (2 ^ j) n) _ _ (lt-leb (2 ^ j) n (omega arith)) ∙ digits-is j n k inside some least above)
    (cases_eq k (suc j))

-- ---- a positive difference
pub up : (bits k size d half : ℕ) → 1 ≤ bits → bits ≤ 32 → half ≡ 2 ^ (bits - 1) → d < half → size + 1 ≡ d → 1 ≤ k → 2 ^ k ≤ 2 * size → size < 2 ^ k
    → (k ≤ bits) × (size < choices k) × (corrector bits k size ≡ d)
up bits k size d half some few h less e one least above =
    let whole : 2 ^ bits ≡ 2 * half = omega (arith, twice bits some) in
    let within : k ≤ bits = exponent-le k bits (omega arith) in
    let differs : k ≡ bits → ⊥ = λ same. let powers : 2 ^ k ≡ 2 ^ bits = ap (λ n. 2 ^ n) same in omega arith in
    let small : k < 32 = omega (arith, differs) in
    let middle : 2 ^ k ≡ 2 * 2 ^ (k - 1) = twice k one in
    (within, rw (choices-more k one small) above, corrector-up bits k size one small (omega arith) (omega arith) ∙ e)

-- ---- a negative one
pub down : (bits k size v d half : ℕ) → 1 ≤ bits → bits ≤ 32 → half ≡ 2 ^ (bits - 1) → half ≤ d → d < 2 ^ bits → size ≡ half - (d - half) → 1 ≤ k → k < 32 → 2 ^ k ≤ 2 * size → size < 2 ^ k → v ≡ 2 ^ k - 1 - size
    → (k ≤ bits) × (v < choices k) × (corrector bits k v ≡ d)
down bits k size v d half some few h more fits e one small least above f =
    let whole : 2 ^ bits ≡ 2 * half = omega (arith, twice bits some) in
    let within : k ≤ bits = exponent-le k bits (omega arith) in
    let middle : 2 ^ k ≡ 2 * 2 ^ (k - 1) = twice k one in
    (within, rw (choices-more k one small) (omega arith), corrector-down bits k v one small (omega arith) ∙ omega arith)

pub most : (bits size d half : ℕ) → 1 ≤ bits → bits ≤ 32 → half ≡ 2 ^ (bits - 1) → half ≤ d → d < 2 ^ bits → size ≡ half - (d - half) → 2 ^ 32 ≤ 2 * size → (32 ≤ bits) × (corrector bits 32 0 ≡ d)
most bits size d half some few h more fits e least =
    let whole : 2 ^ bits ≡ 2 * half = omega (arith, twice bits some) in
    let all : 32 ≤ bits = exponent-le 32 bits (omega arith) in
    let exactly : bits ≡ 32 = omega arith in
    let powers : 2 ^ bits ≡ 2 ^ 32 = ap (λ n. 2 ^ n) exactly in
    (all, corrector-most bits 0 ∙ omega arith)

-- ---- what a corrector comes to
pub record IsSplit (bits d k v : ℕ) : Type 0 where
  pub width : k ≡ width_of bits d
  pub index : v ≡ corrector_index bits d k
  pub digits : k ≤ bits
  pub value : v < choices k
  pub makes : corrector bits k v ≡ d

width-up : (bits d : ℕ) → d < 2 ^ (bits - 1) → width_of bits d ≡ digits_of (d - 1)
unfolding width_of
width-up bits d h = cond-true (ltb d (2 ^ (bits - 1))) _ _ (lt-ltb d (2 ^ (bits - 1)) h)

width-down : (bits d : ℕ) → 2 ^ (bits - 1) ≤ d → width_of bits d ≡ digits_of (2 ^ bits - d)
unfolding width_of
width-down bits d h = cond-false (ltb d (2 ^ (bits - 1))) _ _ (le-ltb d (2 ^ (bits - 1)) h)

index-zero : (bits d : ℕ) → corrector_index bits d 0 ≡ d
unfolding corrector_index
index-zero bits d = refl

index-most : (bits d : ℕ) → corrector_index bits d 32 ≡ 0
unfolding corrector_index
index-most bits d = refl

index-up : (bits d k : ℕ) → 0 < k → k < 32 → d < 2 ^ (bits - 1) → corrector_index bits d k ≡ d - 1
unfolding corrector_index
index-up bits d k some small h =
    cond-false (eqb k 0) _ _ (ne_eqb k 0 (λ e. omega arith))
    ∙ (cond-false (eqb k 32) _ _ (ne_eqb k 32 (λ e. omega arith)) ∙ cond-true (ltb d (2 ^ (bits - 1))) _ _ (lt-ltb d (2 ^ (bits - 1)) h))

index-down : (bits d k : ℕ) → 0 < k → k < 32 → 2 ^ (bits - 1) ≤ d → corrector_index bits d k ≡ 2 ^ k - 1 - (2 ^ bits - d)
unfolding corrector_index
index-down bits d k some small h =
    cond-false (eqb k 0) _ _ (ne_eqb k 0 (λ e. omega arith))
    ∙ (cond-false (eqb k 32) _ _ (ne_eqb k 32 (λ e. omega arith)) ∙ cond-false (ltb d (2 ^ (bits - 1))) _ _ (le-ltb d (2 ^ (bits - 1)) h))

pub split-small : (bits d : ℕ) → d < 2 ^ (bits - 1) → d < 2 → IsSplit bits d 0 d
unfolding choices
split-small bits d h small =
    record {
      width = let none : d - 1 ≡ 0 = omega arith in let zeros : digits_of (d - 1) ≡ digits_of 0 = ap digits_of none in sym (width-up bits d h ∙ (zeros ∙ digits-zero 32));
      index = sym (index-zero bits d);
      digits = omega arith;
      value = small;
      makes = corrector-zero bits d;
    }

pub split-up : (bits k size d : ℕ) → 1 ≤ bits → bits ≤ 32 → d < 2 ^ (bits - 1) → size + 1 ≡ d → 1 ≤ k → 2 ^ k ≤ 2 * size → size < 2 ^ k → k ≡ digits_of size → IsSplit bits d k size
split-up bits k size d some few less e one least above is =
    let all = up bits k size d (2 ^ (bits - 1)) some few refl less e one least above in
    let whole : 2 ^ bits ≡ 2 * 2 ^ (bits - 1) = twice bits some in
    let differs : k ≡ 32 → ⊥ = λ same. let powers : 2 ^ k ≡ 2 ^ 32 = ap (λ n. 2 ^ n) same in let cap : 2 ^ bits ≤ 2 ^ 32 = pow-le-pow_right (lit≤ tt) few in omega arith in
    let size_is : d - 1 ≡ size = omega arith in
    record {
      width = is ∙ sym (width-up bits d less ∙ ap digits_of size_is);
      index = sym (index-up bits d k one (omega (arith, differs, all.0)) less ∙ size_is);
      digits = all.0;
      value = all.1;
      makes = all.2;
    }

pub split-down : (bits k size v d : ℕ) → 1 ≤ bits → bits ≤ 32 → 2 ^ (bits - 1) ≤ d → d < 2 ^ bits → size ≡ 2 ^ (bits - 1) - (d - 2 ^ (bits - 1)) → 1 ≤ k → k < 32 → 2 ^ k ≤ 2 * size → size < 2 ^ k → v ≡ 2 ^ k - 1 - size → k ≡ digits_of size → IsSplit bits d k v
split-down bits k size v d some few more fits e one small least above f is =
    let all = down bits k size v d (2 ^ (bits - 1)) some few refl more fits e one small least above f in
    let whole : 2 ^ bits ≡ 2 * 2 ^ (bits - 1) = twice bits some in
    let size_is : 2 ^ bits - d ≡ size = omega arith in
    record {
      width = is ∙ sym (width-down bits d more ∙ ap digits_of size_is);
      index = f ∙ sym (index-down bits d k one small more ∙ ap (λ n. 2 ^ k - 1 - n) size_is);
      digits = all.0;
      value = all.1;
      makes = all.2;
    }

pub split-most : (bits k size d : ℕ) → 1 ≤ bits → bits ≤ 32 → 2 ^ (bits - 1) ≤ d → d < 2 ^ bits → size ≡ 2 ^ (bits - 1) - (d - 2 ^ (bits - 1)) → 2 ^ k ≤ 2 * size → k ≡ 32 → k ≡ digits_of size → IsSplit bits d 32 0
unfolding choices
split-most bits k size d some few more fits e least full is =
    let powers : 2 ^ k ≡ 2 ^ 32 = ap (λ n. 2 ^ n) full in
    let all = most bits size d (2 ^ (bits - 1)) some few refl more fits e (omega arith) in
    let whole : 2 ^ bits ≡ 2 * 2 ^ (bits - 1) = twice bits some in
    let size_is : 2 ^ bits - d ≡ size = omega arith in
    record {
      width = sym full ∙ (is ∙ sym (width-down bits d more ∙ ap digits_of size_is));
      index = sym (index-most bits d);
      digits = all.0;
      value = lit< tt;
      makes = all.1;
    }

-- ---- words of 32 bits, and fewer bits
pub word_is : (b : ℕ) → b ≤ 32 → 2 ^ b * 2 ^ (32 - b) ≡ 4294967296
word_is b few = let all : b + (32 - b) ≡ 32 = omega arith in sym (pow-add 2 b (32 - b)) ∙ ap (λ n. 2 ^ n) all

mask_step : (p q : ℕ) → 0 < p → 0 < q → q * p ≡ 4294967296 → (q - 1) * p + (p - 1) ≡ 4294967295
mask_step p (suc q) some more e = let one : suc q - 1 ≡ q = omega arith in rw one (omega arith)
mask_step p zero some more e = absurd (omega arith)

pub mask_is : (b : ℕ) → b ≤ 32 → 4294967295 / 2 ^ (32 - b) ≡ 2 ^ b - 1
mask_is b few =
    let p : ℕ = 2 ^ (32 - b) in
    let q : ℕ = 2 ^ b in
    let some : 0 < p = pow_pos (32 - b) in
    let parts = mask_step p q some (pow_pos b) (word_is b few) in
    rw (← parts) (div-mul-add (q - 1) p (p - 1) (omega arith))

pub low-mod : (n b : ℕ) → b ≤ 32 → n % 4294967296 % 2 ^ b ≡ n % 2 ^ b
low-mod n b few =
    let all : (32 - b) + b ≡ 32 = omega arith in
    let whole : 2 ^ ((32 - b) + b) ≡ 4294967296 = ap (λ k. 2 ^ k) all in
    rw (← whole) (mod-mod-pow n (32 - b) b)

down_step : (p e m q : ℕ) → 0 < q → e ≤ m → p + (m * q - e) ≡ p + (m - e) + m * (q - 1)
down_step p e m zero some h = absurd (omega arith)
down_step p e m (suc q) some h = let one : suc q - 1 ≡ q = omega arith in rw one (omega (arith, mul-suc m q))

pub down-mod : (p e b : ℕ) → b ≤ 32 → e ≤ 2 ^ b → (p + (4294967296 - e)) % 2 ^ b ≡ (p + (2 ^ b - e)) % 2 ^ b
down-mod p e b few h =
    let same : p + (4294967296 - e) ≡ p + (2 ^ b - e) + 2 ^ b * (2 ^ (32 - b) - 1) = rw (← word_is b few) (down_step p e (2 ^ b) (2 ^ (32 - b)) (pow_pos (32 - b)) h) in
    ap (λ n. n % 2 ^ b) same ∙ add-mul-mod_self_left (p + (2 ^ b - e)) (2 ^ b) (2 ^ (32 - b) - 1)

pub up-mod : (p n m : ℕ) → (p + n) % m ≡ (p + n % m) % m
up-mod p n m =
    let turned : p + n ≡ n + p = omega arith in
    let back : n % m + p ≡ p + n % m = omega arith in
    ap (λ x. x % m) turned ∙ (sym (mod-add-mod n m p) ∙ ap (λ x. x % m) back)

pub power-le : (k b : ℕ) → k ≤ b → 2 ^ k ≤ 2 ^ b
power-le k b h = pow-le-pow_right (lit≤ tt) h

-- ---- the difference, put onto its prediction
pub difference-on : (b p r : ℕ) → b ≤ 32 → p < 4294967296 → r < 2 ^ b → (p + (r + (4294967296 - p)) % 2 ^ b) % 2 ^ b ≡ r
difference-on b p r few small within =
    let all : p + (r + (4294967296 - p)) ≡ r + 2 ^ b * 2 ^ (32 - b) = rw (word_is b few) (omega arith) in
    sym (up-mod p (r + (4294967296 - p)) (2 ^ b)) ∙ (ap (λ n. n % 2 ^ b) all ∙ (add-mul-mod_self_left r (2 ^ b) (2 ^ (32 - b)) ∙ mod-eq_of_lt within))

-- a remainder modulo a power up to 2 ^ 32 is a word
pub word-fits : (n b : ℕ) → b ≤ 32 → n % 2 ^ b < 4294967296
word-fits n b few =
    let most : 2 ^ b ≤ 2 ^ 32 = power-le b 32 few in
    omega (arith, most, mod_below n (2 ^ b) (pow_pos b))

-- ---- the digits of a word, by its leading zeros
pub record IsDigits (size k : ℕ) : Type 0 where
  pub is : k ≡ digits_of size
  pub none : k ≡ 0 → size ≡ 0
  pub least : 0 < k → 2 ^ k ≤ 2 * size
  pub above : size < 2 ^ k

pub digits-all : (size : ℕ) → size < 2 ^ 32 → IsDigits size (32 - count_leading_zeros 32 size)
digits-all zero small =
    let none : 32 - count_leading_zeros 32 zero ≡ 0 = ap (λ k. 32 - k) (leading_of_zero 32) in
    rw none
    (record {
      is = sym (digits-zero 32);
      none = λ e. refl;
      least = λ some. absurd (omega arith);
      above = lit< tt;
    })
digits-all (suc n) small =
    let some : 0 < suc n = omega arith in
    let bounds = digits-bounds (suc n) some small in
    let one = leading_some (suc n) bounds.1 some in
    record {
      is = sym (digits-is 32 (suc n) (32 - count_leading_zeros 32 (suc n)) (omega arith) one bounds.0 bounds.1);
      none = λ e. absurd (omega (arith, e, one));
      least = λ h. bounds.0;
      above = bounds.1;
    }

-- ---- the three kinds of corrector
abbrev pub IsUp : ℕ → ℕ → ℕ → Type 0
IsUp bits d size = d < 2 ^ (bits - 1) → size ≡ d - 1

abbrev pub IsDown : ℕ → ℕ → ℕ → Type 0
IsDown bits d size = 2 ^ (bits - 1) ≤ d → size ≡ 2 ^ (bits - 1) - (d - 2 ^ (bits - 1))

pub split-zero : (bits size d : ℕ) → 1 ≤ bits → bits ≤ 32 → d < 2 ^ bits → IsUp bits d size → IsDown bits d size → size ≡ 0 → IsSplit bits d 0 d
split-zero bits size d some few fits up down none =
    ⊎_elim
    (λ (less : d < 2 ^ (bits - 1)). split-small bits d less (omega (arith, up less, none)))
    (λ (more : 2 ^ (bits - 1) ≤ d). absurd (omega (arith, down more, none, fits, twice bits some)))
    (cases_lt d (2 ^ (bits - 1)))

pub split-full : (bits k size d : ℕ) → 1 ≤ bits → bits ≤ 32 → d < 2 ^ bits → IsUp bits d size → IsDown bits d size → k ≡ 32 → 2 ^ k ≤ 2 * size → k ≡ digits_of size → IsSplit bits d 32 0
split-full bits k size d some few fits up down full least is =
    ⊎_elim
    (λ (less : d < 2 ^ (bits - 1)).
    let powers : 2 ^ k ≡ 2 ^ 32 = ap (λ n. 2 ^ n) full in
    absurd (omega (arith, up less, least, powers, twice bits some, power-le bits 32 few)))
    (λ (more : 2 ^ (bits - 1) ≤ d). split-most bits k size d some few more fits (down more) least full is)
    (cases_lt d (2 ^ (bits - 1)))

pub split-part : (bits k size v d : ℕ) → 1 ≤ bits → bits ≤ 32 → d < 2 ^ bits → IsUp bits d size → IsDown bits d size → 0 < k → k < 32 → 2 ^ k ≤ 2 * size → size < 2 ^ k → k ≡ digits_of size
    → (d < 2 ^ (bits - 1) → v ≡ size) → (2 ^ (bits - 1) ≤ d → v ≡ 2 ^ k - 1 - size) → IsSplit bits d k v
split-part bits k size v d some few fits up down one small least above is v_up v_down =
    ⊎_elim
    (λ (less : d < 2 ^ (bits - 1)).
    let positive : 0 < 2 ^ k = pow_pos k in
    rw (v_up less) (split-up bits k size d some few less (omega (arith, up less, least, positive)) one least above is))
    (λ (more : 2 ^ (bits - 1) ≤ d). split-down bits k size v d some few more fits (down more) one small least above (v_down more) is)
    (cases_lt d (2 ^ (bits - 1)))

pub split-any : (bits k size v d : ℕ) → 1 ≤ bits → bits ≤ 32 → d < 2 ^ bits → IsUp bits d size → IsDown bits d size → k < 32 → (k ≡ 0 → size ≡ 0) → (0 < k → 2 ^ k ≤ 2 * size) → size < 2 ^ k → k ≡ digits_of size
    → (d < 2 ^ (bits - 1) → k ≡ 0 → v ≡ d) → (d < 2 ^ (bits - 1) → 0 < k → 0 < d → v ≡ d - 1) → (2 ^ (bits - 1) ≤ d → v ≡ 2 ^ k - 1 - size) → IsSplit bits d k v
split-any bits k size v d some few fits up down small none least above is v_bit v_up v_down =
    ⊎_elim
    (λ (zero_is : k ≡ 0).
    let split = split-zero bits size d some few fits up down (none zero_is) in
    ⊎_elim
    (λ (less : d < 2 ^ (bits - 1)). rw (v_bit less zero_is, zero_is) split)
    (λ (more : 2 ^ (bits - 1) ≤ d). absurd (omega (arith, down more, none zero_is, fits, twice bits some)))
    (cases_lt d (2 ^ (bits - 1))))
    (λ (some_is : k ≡ 0 → ⊥).
    let one : 0 < k = omega (arith, some_is) in
    split-part bits k size v d some few fits up down one small (least one) above is (λ less. v_up less one (omega (arith, least one, up less, pow_pos k)) ∙ sym (up less)) v_down)
    (cases_eq k 0)
