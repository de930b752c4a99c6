-- Numbers that fronts of bytes spell.
use Rattle.std.proofs.Common.{◌≡◌, ℕ, ◌+◌, ◌-◌, ◌*◌, ◌/◌, ◌%◌, ◌^◌, ◌<◌, ◌≤◌, List, ◌++◌, length, take, drop, sym, ap, ◌∙◌, arith, length-drop}
use Rattle.std.proofs.lemmas.List.{take-append-drop, take-take, length-take-le}
use Rattle.std.proofs.lemmas.Nat.{div-mul-add, mod-mul-add, mul-le, pow-add}
use Rattle.std.proofs.lemmas.Int.Digits.{number_after_append}
use Rattle.laz_range.specs.Span.{number, IsBytes}
use Rattle.laz_range.specs.Output.{Spells}
use Rattle.laz_range.proofs.Numbers.{number_after_is, number-lt, digits_from_number, digits-number}
use Rattle.laz_range.proofs.Streams.{IsBytes-take, IsBytes-drop}

pub number-append : (xs ys : List ℕ) → number (xs ++ ys) ≡ number xs * 256 ^ length ys + number ys
number-append xs ys = number_after_append 256 0 xs ys ∙ number_after_is (number xs) ys

-- a number is that of a front, and that of the rest
number-split : (i k : ℕ) (xs : List ℕ) → i + k ≡ length xs → number xs ≡ number (take i xs) * 256 ^ k + number (drop i xs)
number-split i k xs e =
    let count : length (drop i xs) ≡ k = omega (arith, length-drop i xs) in
    ap number (sym (take-append-drop i xs)) ∙ (number-append (take i xs) (drop i xs) ∙ ap (λ m. number (take i xs) * 256 ^ m + number (drop i xs)) count)

-- the number of a front lacks the digits after it
pub number-front : (i k n : ℕ) (xs : List ℕ) → IsBytes xs → i + k ≡ n → n ≤ length xs → number (take i xs) ≡ number (take n xs) / 256 ^ k
number-front i k n xs b e within =
    let ys : List ℕ = take n xs in
    let more : i ≤ n = omega arith in
    let all : length ys ≡ n = length-take-le n xs within in
    let count : length (drop i ys) ≡ k = omega (arith, length-drop i ys) in
    let digits : number (drop i ys) < 256 ^ length (drop i ys) = number-lt (drop i ys) (IsBytes-drop i ys (IsBytes-take n xs b)) in
    let small : number (drop i ys) < 256 ^ k = rw count at digits in
    let front : number (take i ys) ≡ number (take i xs) = ap number (take-take i n xs more) in
    sym (ap (λ m. m / 256 ^ k) (number-split i k ys (omega arith)) ∙ (div-mul-add (number (take i ys)) (256 ^ k) (number (drop i ys)) small ∙ front))

-- what the bytes before `at` and those from it on spell
pub number-parts : (at next : ℕ) (xs : List ℕ) → at ≤ next → next ≤ length xs → number (take next xs) ≡ number (take at xs) * 256 ^ (next - at) + number (drop at (take next xs))
number-parts at next xs order within =
    let all : length (take next xs) ≡ next = length-take-le next xs within in
    number-split at (next - at) (take next xs) (omega arith)
    ∙ ap (λ (ys : List ℕ). number ys * 256 ^ (next - at) + number (drop at (take next xs))) (take-take at next xs order)

quotients : (p a b x y : ℕ) → x < p → y < p → a * p + x ≡ b * p + y → a ≡ b
quotients p a b x y h k e = sym (div-mul-add a p x h) ∙ (ap (λ m. m / p) e ∙ div-mul-add b p y k)

rests : (p a b x y : ℕ) → x < p → y < p → a * p + x ≡ b * p + y → x ≡ y
rests p a b x y h k e = sym (mod-mul-add a p x h) ∙ (ap (λ m. m % p) e ∙ mod-mul-add b p y k)

same_bytes : (xs ys : List ℕ) → IsBytes xs → IsBytes ys → length xs ≡ length ys → number xs ≡ number ys → xs ≡ ys
same_bytes xs ys b d e f = digits_from_number xs (length ys) (number ys) b e f ∙ digits-number ys d

-- ---- the bytes of an output, before and after a sum is written around `next`
pub spells : (at next d : ℕ) (old new : List ℕ) → IsBytes old → IsBytes new → at ≤ next → next + 4 ≤ length old → length new ≡ length old → d < 256 ^ (next - at + 4)
    → number (take (next + 4) new) ≡ number (take at old) * 256 ^ (next - at + 4) + d → Spells at next d old new
spells at next d old new b c order within same fits e =
    let places : next + 4 - at ≡ next - at + 4 = omega arith in
    let first : number (take (next + 4) new) ≡ number (take at new) * 256 ^ (next - at + 4) + number (drop at (take (next + 4) new)) =
    number-parts at (next + 4) new (omega arith) (omega arith) ∙ ap (λ k. number (take at new) * 256 ^ k + number (drop at (take (next + 4) new))) places in
    let rest : List ℕ = drop at (take (next + 4) new) in
    let count : length rest ≡ next - at + 4 = omega (arith, length-drop at (take (next + 4) new), length-take-le (next + 4) new (omega arith)) in
    let digits : number rest < 256 ^ length rest = number-lt rest (IsBytes-drop at (take (next + 4) new) (IsBytes-take (next + 4) new c)) in
    let small : number rest < 256 ^ (next - at + 4) = rw count at digits in
    let both = sym first ∙ e in
    record {
      before = same_bytes (take at new) (take at old) (IsBytes-take at new c) (IsBytes-take at old b)
          (length-take-le at new (omega arith) ∙ sym (length-take-le at old (omega arith)))
          (quotients (256 ^ (next - at + 4)) (number (take at new)) (number (take at old)) (number rest) d small fits both);
      spelled = rests (256 ^ (next - at + 4)) (number (take at new)) (number (take at old)) (number rest) d small fits both;
    }

times : (b p w base from q : ℕ) → q ≡ p * 4294967296 → (b * p + w) * 4294967296 + base + from ≡ b * q + (w * 4294967296 + base + from)
times b p w base from q e = omega (arith, ap (λ x. b * x) e)

-- a sum, by the bytes before `at` and those from it on
pub sum_parts : (at next base from : ℕ) (xs : List ℕ) → at ≤ next → next ≤ length xs
    → number (take next xs) * 4294967296 + base + from ≡ number (take at xs) * 256 ^ (next - at + 4) + (number (drop at (take next xs)) * 4294967296 + base + from)
sum_parts at next base from xs order within =
    ap (λ n. n * 4294967296 + base + from) (number-parts at next xs order within)
    ∙ times (number (take at xs)) (256 ^ (next - at)) (number (drop at (take next xs))) base from (256 ^ (next - at + 4)) (pow-add 256 (next - at) 4)

below_all : (b m p d q : ℕ) → b < m → d < p → q ≡ m * p → b * p + d < q
below_all b m p d q h k e = omega (arith, k, e, mul-le (b + 1) p m p (omega (arith, h)) (omega arith))

-- it has as many digits as there are bytes
pub sum_below : (at next base from : ℕ) (xs : List ℕ) → IsBytes xs → at ≤ next → next ≤ length xs → number (drop at (take next xs)) * 4294967296 + base + from < 256 ^ (next - at + 4)
    → number (take next xs) * 4294967296 + base + from < 256 ^ (next + 4)
sum_below at next base from xs b order within fits =
    let digits : number (take at xs) < 256 ^ length (take at xs) = number-lt (take at xs) (IsBytes-take at xs b) in
    let count : length (take at xs) ≡ at = length-take-le at xs (omega arith) in
    let small : number (take at xs) < 256 ^ at = rw count at digits in
    let power : 256 ^ (next + 4) ≡ 256 ^ at * 256 ^ (next - at + 4) = ap (λ k. 256 ^ k) (let e : next + 4 ≡ at + (next - at + 4) = omega arith in e) ∙ pow-add 256 at (next - at + 4) in
    rw (sum_parts at next base from xs order within)
    (below_all (number (take at xs)) (256 ^ at) (256 ^ (next - at + 4)) _ (256 ^ (next + 4)) small fits power)
