-- Numbers written around a place, and sums that take the place of a low end.
use Rattle.std.proofs.Common.{◌≡◌, ℕ, zero, suc, ◌+◌, ◌-◌, ◌*◌, ◌/◌, ◌%◌, ◌^◌, ◌<◌, ◌≤◌, List, [], ◌∷◌, length, set, take, drop, refl, sym, ap, ◌∙◌, arith, length-set, length-drop, ⊎_elim, lit<}
use Rattle.std.proofs.Math.Nat.{div-div-eq-div-mul, pow-suc, pow-le-pow_right, mod-eq_of_lt}
use Rattle.std.proofs.lemmas.List.{drop-set, length-take-le}
use Rattle.std.proofs.lemmas.Nat.{and_mask, mul-le, pow-add, mod-mul-add}
use Rattle.std.proofs.lemmas.Bool.{cases_lt}
use lib.Bits.{bit_and}
use borrow.Rule.Slice.PartMut.{put_mid}
use Rattle.std.proofs.lemmas.Slice.{take-put_mid}
use Rattle.laz_range.specs.Span.{number, IsBytes}
use Rattle.laz_range.specs.Span.{Span, renormal_step, bytes_for}
use Rattle.laz_range.specs.Output.{IsWindow, low_of}
use Rattle.laz_range.proofs.Numbers.{number-cons, number-lt}
use Rattle.laz_range.proofs.Streams.{IsBytes-take, IsBytes-drop}
use Rattle.laz_range.proofs.Ahead.{powers}
use Rattle.laz_range.proofs.Renewals.{renews}
use Rattle.laz_range.proofs.Spans.{same_span, written_slice}
use Rattle.laz_range.proofs.Fronts.{number-append, number-front, number-parts}

-- ---- digits written from the last one on
digit_step : (m p q n rest value : ℕ) → q ≡ p * 256 → n + rest * p ≡ value → (rest % 256 * p + n) + rest / 256 * q ≡ value
digit_step m p q n rest value e f =
    let whole : rest ≡ rest / 256 * 256 + rest % 256 = omega arith in
    let both : rest * p ≡ (rest / 256 * 256 + rest % 256) * p = ap (λ r. r * p) whole in
    omega (arith, ap (λ x. rest / 256 * x) e, both)

pub digits_more : (xs : List ℕ) (i rest value : ℕ) → 0 < i → i ≤ length xs → number (drop i xs) + rest * 256 ^ (length xs - i) ≡ value
    → number (drop (i - 1) (set xs (i - 1) (bit_and rest 255))) + rest / 256 * 256 ^ (length (set xs (i - 1) (bit_and rest 255)) - (i - 1)) ≡ value
digits_more xs i rest value some within e =
    let byte : bit_and rest 255 ≡ rest % 256 = and_mask rest 8 in
    let here : i - 1 < length xs = omega arith in
    let next : i - 1 + 1 ≡ i = omega arith in
    let same : length (set xs (i - 1) (rest % 256)) ≡ length xs = length-set xs (i - 1) (rest % 256) in
    let count : length xs - (i - 1) ≡ suc (length xs - i) = omega arith in
    let digits : length (drop i xs) ≡ length xs - i = length-drop i xs in
    rw (byte, same, count, drop-set xs (i - 1) (rest % 256) here, next)
    (rw (number-cons (rest % 256) (drop i xs), digits)
    (digit_step 0 (256 ^ (length xs - i)) (256 ^ suc (length xs - i)) (number (drop i xs)) rest value (pow-suc 256 (length xs - i)) e))

all_written : (n p rest value : ℕ) → n + rest * p ≡ value → value < p → n ≡ value
all_written n p zero value e h = omega arith
all_written n p (suc rest) value e h = absurd (omega (arith, mul-le 1 p (suc rest) p (omega arith) (omega arith)))

pub digits_end : (xs : List ℕ) (i rest value : ℕ) → i ≤ 0 → number (drop i xs) + rest * 256 ^ (length xs - i) ≡ value → value < 256 ^ length xs → number xs ≡ value
digits_end xs zero rest value none e h =
    let count : length xs - 0 ≡ length xs = omega arith in
    all_written (number xs) (256 ^ length xs) rest value (rw count at e) h
digits_end xs (suc i) rest value none e h = absurd (omega arith)

-- ---- eight digits
pub eight_written : (xs : List ℕ) (a b c d e f g h : ℕ) → length xs ≡ 8
    → number (set (set (set (set (set (set (set (set xs 0 a) 1 b) 2 c) 3 d) 4 e) 5 f) 6 g) 7 h) ≡ number (a ∷ b ∷ c ∷ d ∷ e ∷ f ∷ g ∷ h ∷ [])
eight_written [] a b c d e f g h n = absurd (omega arith)
eight_written (x ∷ []) a b c d e f g h n = absurd (omega arith)
eight_written (x ∷ y ∷ []) a b c d e f g h n = absurd (omega arith)
eight_written (x ∷ y ∷ z ∷ []) a b c d e f g h n = absurd (omega arith)
eight_written (x ∷ y ∷ z ∷ w ∷ []) a b c d e f g h n = absurd (omega arith)
eight_written (x ∷ y ∷ z ∷ w ∷ p ∷ []) a b c d e f g h n = absurd (omega arith)
eight_written (x ∷ y ∷ z ∷ w ∷ p ∷ q ∷ []) a b c d e f g h n = absurd (omega arith)
eight_written (x ∷ y ∷ z ∷ w ∷ p ∷ q ∷ r ∷ []) a b c d e f g h n = absurd (omega arith)
eight_written (x ∷ y ∷ z ∷ w ∷ p ∷ q ∷ r ∷ s ∷ []) a b c d e f g h n = refl
eight_written (x ∷ y ∷ z ∷ w ∷ p ∷ q ∷ r ∷ s ∷ t ∷ xs) a b c d e f g h n = absurd (omega arith)

digit_after : (v p q : ℕ) → q ≡ p * 256 → v / q * 256 + v / p % 256 ≡ v / p
digit_after v p q e = rw e (omega (arith, div-div-eq-div-mul v p 256))

pub eight_digits : (v : ℕ) → v < 18446744073709551616
    → number (v / 72057594037927936 ∷ v / 281474976710656 % 256 ∷ v / 1099511627776 % 256 ∷ v / 4294967296 % 256 ∷ v / 16777216 % 256 ∷ v / 65536 % 256 ∷ v / 256 % 256 ∷ v % 256 ∷ []) ≡ v
eight_digits v fits =
    let a : v / 72057594037927936 * 256 + v / 281474976710656 % 256 ≡ v / 281474976710656 = digit_after v 281474976710656 72057594037927936 refl in
    let b : v / 281474976710656 * 256 + v / 1099511627776 % 256 ≡ v / 1099511627776 = digit_after v 1099511627776 281474976710656 refl in
    let c : v / 1099511627776 * 256 + v / 4294967296 % 256 ≡ v / 4294967296 = digit_after v 4294967296 1099511627776 refl in
    let d : v / 4294967296 * 256 + v / 16777216 % 256 ≡ v / 16777216 = digit_after v 16777216 4294967296 refl in
    let e : v / 16777216 * 256 + v / 65536 % 256 ≡ v / 65536 = digit_after v 65536 16777216 refl in
    let f : v / 65536 * 256 + v / 256 % 256 ≡ v / 256 = digit_after v 256 65536 refl in
    let zero_first : 0 * 256 + v / 72057594037927936 ≡ v / 72057594037927936 = omega arith in
    rw (zero_first, a, b, c, d, e, f) (omega arith)

-- ---- the last four bytes before a place
modulo : (n a w p : ℕ) → n ≡ a * p + w → w < p → w ≡ n % p
modulo n a w p e h = rw e (sym (mod-mul-add a p w h))

pub last_digits : (next : ℕ) (xs : List ℕ) → IsBytes xs → next ≤ length xs → number (drop (next - 4) (take next xs)) ≡ number (take next xs) % 4294967296
last_digits next xs b within =
    let part : List ℕ = drop (next - 4) (take next xs) in
    let first : next - 4 ≤ next = omega arith in
    let small : number part < 256 ^ length part = number-lt part (IsBytes-drop (next - 4) (take next xs) (IsBytes-take next xs b)) in
    let count : length part ≡ next - (next - 4) = omega (arith, length-drop (next - 4) (take next xs), length-take-le next xs within) in
    ⊎_elim
    (λ (few : next < 4).
    let front : next - 4 ≡ 0 = omega arith in
    let digits : number (take next xs) < 256 ^ next = rw length-take-le at (number-lt (take next xs) (IsBytes-take next xs b)) in
    let more : 256 ^ next ≤ 256 ^ 4 = pow-le-pow_right {n = 256} (lit< tt) {i = next} {j = 4} (omega arith) in
    rw front (sym (mod-eq_of_lt (let h : number (take next xs) < 4294967296 = omega arith in h))))
    (λ (many : 4 ≤ next).
    let four : next - (next - 4) ≡ 4 = omega arith in
    let digits : number part < 4294967296 = rw (count, four) at small in
    modulo (number (take next xs)) (number (take (next - 4) xs)) (number part) 4294967296 (rw four at (number-parts (next - 4) next xs first within)) digits)
    (cases_lt next 4)

-- ---- a window of eight bytes
pub window_put : (next window : ℕ) (xs ys : List ℕ) → 4 ≤ next → next + 4 ≤ length xs → length ys ≡ next + 4 - (next - 4) → number ys ≡ window
    → number (take (next + 4) (put_mid (next - 4) (next + 4 - (next - 4)) xs ys)) ≡ number (take (next - 4) xs) * 18446744073709551616 + window
window_put next window xs ys many within count is =
    let eight : length ys ≡ 8 = omega arith in
    let place : next + 4 ≡ next - 4 + length ys = omega arith in
    let inside : next - 4 ≤ length xs = omega arith in
    ap number (take-put_mid (next - 4) (next + 4 - (next - 4)) xs ys (next + 4) place inside)
    ∙ (number-append (take (next - 4) xs) ys ∙ rw (eight, is) refl)

-- ---- a sum of 64 bits
-- the bytes before the window, the window, and what is added to it
abbrev pub IsFront : ℕ → ℕ → ℕ → Type 0
IsFront front low n = (front ≡ n / 4294967296) × (low / 4294967296 ≡ n % 4294967296)

-- it does not overflow
pub sum_stays : (front low n from : ℕ) → low < 18446744073709551616 → from < 4294967296 → IsFront front low n → low ≤ (low + from) % 18446744073709551616
    → front * 18446744073709551616 + (low + from) % 18446744073709551616 ≡ n * 4294967296 + low % 4294967296 + from
sum_stays front low n from fits small is stays = omega (arith, is.0, is.1)

-- it does, and one is added to the bytes before it
pub sum_carries : (front low n from : ℕ) → low < 18446744073709551616 → from < 4294967296 → IsFront front low n → (low + from) % 18446744073709551616 < low
    → (front + 1) * 18446744073709551616 + (low + from) % 18446744073709551616 ≡ n * 4294967296 + low % 4294967296 + from
sum_carries front low n from fits small is carries = omega (arith, is.0, is.1)

-- there is room for that one
pub front_fits : (next front sum : ℕ) → 4 ≤ next → (front + 1) * 18446744073709551616 + sum < 256 ^ (next + 4) → front + 1 < 256 ^ (next - 4)
front_fits next front sum many below =
    let power : 256 ^ (next + 4) ≡ 256 ^ (next - 4) * 18446744073709551616 = ap (λ k. 256 ^ k) (let e : next + 4 ≡ next - 4 + 8 = omega arith in e) ∙ pow-add 256 (next - 4) 8 in
    omega (arith, below, power)

-- there are such bytes
pub front_some : (next front sum : ℕ) → (front + 1) * 18446744073709551616 + sum < 256 ^ (next + 4) → 4 ≤ next
front_some next front sum below =
    ⊎_elim
    (λ (few : next < 4). let more : 256 ^ (next + 4) ≤ 256 ^ 8 = pow-le-pow_right {n = 256} (lit< tt) {i = next + 4} {j = 8} (omega arith) in absurd (omega (arith, more, below)))
    (λ (many : 4 ≤ next). many)
    (cases_lt next 4)

-- the window and the bytes before it
pub window_front : (low next : ℕ) (xs : List ℕ) → IsBytes xs → next ≤ length xs → IsWindow low next xs → IsFront (number (take (next - 4) xs)) low (number (take next xs))
window_front low next xs b within window =
    ⊎_elim
    (λ (few : next < 4).
    let none : next - 4 ≡ 0 = omega arith in
    let digits : number (take next xs) < 256 ^ length (take next xs) = number-lt (take next xs) (IsBytes-take next xs b) in
    let count : length (take next xs) ≡ next = length-take-le next xs within in
    let more : 256 ^ next ≤ 256 ^ 4 = pow-le-pow_right {n = 256} (lit< tt) {i = next} {j = 4} (omega arith) in
    let small : number (take next xs) < 256 ^ next = rw count at digits in
    (rw none (let zero_is : 0 ≡ number (take next xs) / 4294967296 = omega arith in zero_is), window))
    (λ (many : 4 ≤ next). let place : next - 4 + 4 ≡ next = omega arith in (number-front (next - 4) 4 next xs b place within, window))
    (cases_lt next 4)

-- ---- the bytes that a sum of 64 bits puts out
-- those from `at` on
pub from_front : (at next n : ℕ) (xs : List ℕ) → IsBytes xs → at ≤ next → n ≤ 4 → next + 4 ≤ length xs → number (drop at (take (next + n) xs)) ≡ number (drop at (take (next + 4) xs)) / 256 ^ (4 - n)
from_front at next n xs b order few within =
    let count : length (drop at xs) ≡ length xs - at = length-drop at xs in
    ap number (sym (written_slice at (next + n) xs))
    ∙ (number-front (next + n - at) (4 - n) (next + 4 - at) (drop at xs) (IsBytes-drop at xs b) (omega arith) (omega (arith, count))
    ∙ ap (λ (ys : List ℕ). number ys / 256 ^ (4 - n)) (written_slice at (next + 4) xs))

low_digits : (x p q d sum : ℕ) → p ≡ q * 4294967296 → sum ≡ (x * p + d) % 18446744073709551616 → sum % 4294967296 ≡ d % 4294967296
low_digits x p q d sum e f = let g : x * p ≡ x * q * 4294967296 = ap (λ y. x * y) e ∙ omega arith in omega (arith, f, g)

-- its lower half is that of what they spell
pub low_half : (at next sum : ℕ) (xs : List ℕ) → at ≤ next → next + 4 ≤ length xs → sum ≡ number (take (next + 4) xs) % 18446744073709551616 → sum % 4294967296 ≡ number (drop at (take (next + 4) xs)) % 4294967296
low_half at next sum xs order within e =
    let power : 256 ^ (next + 4 - at) ≡ 256 ^ (next - at) * 4294967296 = ap (λ k. 256 ^ k) (let f : next + 4 - at ≡ next - at + 4 = omega arith in f) ∙ pow-add 256 (next - at) 4 in
    low_digits (number (take at xs)) (256 ^ (next + 4 - at)) (256 ^ (next - at)) (number (drop at (take (next + 4) xs))) sum power
    (e ∙ ap (λ n. n % 18446744073709551616) (number-parts at (next + 4) xs (omega arith) within))

-- n bytes go out
goes_low : (sum n : ℕ) → n < 4 → sum * 256 ^ n % 18446744073709551616 % 4294967296 ≡ sum % 4294967296 * 256 ^ n % 4294967296
goes_low sum zero few = omega arith
goes_low sum (suc zero) few = omega arith
goes_low sum (suc (suc zero)) few = omega arith
goes_low sum (suc (suc (suc zero))) few = omega arith
goes_low sum (suc (suc (suc (suc n)))) few = absurd (omega arith)

goes_high : (all sum n : ℕ) → n < 4 → sum ≡ all % 18446744073709551616 → sum * 256 ^ n % 18446744073709551616 / 4294967296 ≡ all / 256 ^ (4 - n) % 4294967296
goes_high all sum zero few e = omega arith
goes_high all sum (suc zero) few e = omega arith
goes_high all sum (suc (suc zero)) few e = omega arith
goes_high all sum (suc (suc (suc zero))) few e = omega arith
goes_high all sum (suc (suc (suc (suc n)))) few e = absurd (omega arith)

-- the bytes of d, and of its first digits
goes_on : (d v n : ℕ) → n < 4 → v ≡ d / 256 ^ (4 - n) → v ≡ d / 4294967296 * 256 ^ n + d % 4294967296 / 256 ^ (4 - n)
goes_on d v zero few e = omega arith
goes_on d v (suc zero) few e = omega arith
goes_on d v (suc (suc zero)) few e = omega arith
goes_on d v (suc (suc (suc zero))) few e = omega arith
goes_on d v (suc (suc (suc (suc n)))) few e = absurd (omega arith)

pub window_on : (next sum n : ℕ) (xs : List ℕ) → IsBytes xs → n < 4 → next + 4 ≤ length xs → sum ≡ number (take (next + 4) xs) % 18446744073709551616 → IsWindow (sum * 2 ^ (8 * n) % 18446744073709551616) (next + n) xs
window_on next sum n xs b few within e =
    let place : next + n + (4 - n) ≡ next + 4 = omega arith in
    rw (powers n few) (goes_high (number (take (next + 4) xs)) sum n few e ∙ ap (λ m. m % 4294967296) (sym (number-front (next + n) (4 - n) (next + 4) xs b place within)))

-- a length of at least 256 lacks two bytes at most
pub room_on : (len n next room : ℕ) → len * 256 ^ n < 4294967296 → n < 4 → next + 6 ≤ room → (len < 256 → next + 7 ≤ room) → next + n + 4 ≤ room
room_on len zero next room fits few left short = omega arith
room_on len (suc zero) next room fits few left short = omega arith
room_on len (suc (suc zero)) next room fits few left short = omega arith
room_on len (suc (suc (suc zero))) next room fits few left short = omega (arith, short (omega (arith, fits)))
room_on len (suc (suc (suc (suc n)))) next room fits few left short = absurd (omega arith)

-- the span after a sum d of its low end is renormalised
pub span_on : (at next sum n d len : ℕ) (xs : List ℕ) → IsBytes xs → at ≤ next → next + 4 ≤ length xs → 0 < len → len < 4294967296 → n ≡ bytes_for len → n < 4
    → sum ≡ number (take (next + 4) xs) % 18446744073709551616 → number (drop at (take (next + 4) xs)) ≡ d
    → record { low = low_of at (next + n) (sum * 2 ^ (8 * n) % 18446744073709551616) xs; len = len * 2 ^ (8 * n) % 4294967296; shifts = next + n - at }
    ≡ renormal_step (renormal_step (renormal_step (let s : Span = record { low = d; len = len; shifts = next - at } in s)))
span_on at next sum n d len xs b order within some fits is few e f =
    let rest : sum % 4294967296 ≡ d % 4294967296 = low_half at next sum xs order within e ∙ ap (λ m. m % 4294967296) f in
    let v : ℕ = number (drop at (take (next + n) xs)) in
    let front : v ≡ d / 256 ^ (4 - n) = from_front at next n xs b order (omega arith) within ∙ ap (λ m. m / 256 ^ (4 - n)) f in
    let low : sum * 2 ^ (8 * n) % 18446744073709551616 % 4294967296 ≡ d % 4294967296 * 2 ^ (8 * n) % 4294967296 =
    rw (powers n few) (goes_low sum n few ∙ ap (λ m. m * 256 ^ n % 4294967296) rest) in
    let whole : d / 4294967296 * 4294967296 + d % 4294967296 ≡ d = omega arith in
    same_span _ _ _ _ _ _ (ap (λ m. v * 4294967296 + m) low) refl refl
    ∙ (renews (d / 4294967296) (d % 4294967296) v at next len (next - at) n some fits is (omega arith) order refl (goes_on d v n few front)
    ∙ ap (λ m. renormal_step (renormal_step (renormal_step (let s : Span = record { low = m; len = len; shifts = next - at } in s)))) whole)

-- ---- the last bytes
last_24 : (f sum b p q d : ℕ) → p ≡ q * 4294967296 → sum < 18446744073709551616 → f * 18446744073709551616 + sum ≡ b * p + d → f * 18446744073709551616 + sum / 16777216 * 16777216 % 18446744073709551616 ≡ b * p + d / 16777216 * 16777216
last_24 f sum b p q d e fits is = let g : b * p ≡ b * q * 4294967296 = ap (λ y. b * y) e ∙ omega arith in omega (arith, is, g)

last_16 : (f sum b p q d : ℕ) → p ≡ q * 4294967296 → sum < 18446744073709551616 → f * 18446744073709551616 + sum ≡ b * p + d → f * 18446744073709551616 + sum / 65536 * 65536 % 18446744073709551616 ≡ b * p + d / 65536 * 65536
last_16 f sum b p q d e fits is = let g : b * p ≡ b * q * 4294967296 = ap (λ y. b * y) e ∙ omega arith in omega (arith, is, g)

pub last_long : (f sum b at next d : ℕ) → sum < 18446744073709551616 → f * 18446744073709551616 + sum ≡ b * 256 ^ (next - at + 4) + d → f * 18446744073709551616 + sum / 16777216 * 16777216 % 18446744073709551616 ≡ b * 256 ^ (next - at + 4) + d / 16777216 * 16777216
last_long f sum b at next d = last_24 f sum b (256 ^ (next - at + 4)) (256 ^ (next - at)) d (pow-add 256 (next - at) 4)

pub last_short : (f sum b at next d : ℕ) → sum < 18446744073709551616 → f * 18446744073709551616 + sum ≡ b * 256 ^ (next - at + 4) + d → f * 18446744073709551616 + sum / 65536 * 65536 % 18446744073709551616 ≡ b * 256 ^ (next - at + 4) + d / 65536 * 65536
last_short f sum b at next d = last_16 f sum b (256 ^ (next - at + 4)) (256 ^ (next - at)) d (pow-add 256 (next - at) 4)
