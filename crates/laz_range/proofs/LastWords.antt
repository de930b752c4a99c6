-- Words whose first bytes are the last ones of a decoder.
use Rattle.std.proofs.Common.{◌≡◌, ℕ, zero, suc, ◌+◌, ◌-◌, ◌*◌, ◌/◌, ◌%◌, ◌^◌, ◌<◌, ◌≤◌, List, length, take, None, sym, ap, ◌∙◌, arith, ⊎_elim}
use Rattle.std.proofs.lemmas.List.{take_all}
use Rattle.laz_range.specs.Span.{number, IsBytes, bytes_for}
use Rattle.laz_range.specs.Reading.{Reading, reading_after_part}
use Rattle.laz_range.proofs.Numbers.{number-lt}
use Rattle.laz_range.proofs.Fronts.{number-front}
use Rattle.laz_range.proofs.Ends.{Enough, Short, taken_cases}

-- the first n of m digits, with zeros after them
shifted : (v m n : ℕ) → m < 4 → n ≤ m → v < 256 ^ m → v * 2 ^ (32 - 8 * m) % 18446744073709551616 / 256 ^ (4 - n) ≡ v / 256 ^ (m - n)
shifted v zero zero few h small = omega arith
shifted v zero (suc n) few h small = absurd (omega arith)
shifted v (suc zero) zero few h small = omega arith
shifted v (suc zero) (suc zero) few h small = omega arith
shifted v (suc zero) (suc (suc n)) few h small = absurd (omega arith)
shifted v (suc (suc zero)) zero few h small = omega arith
shifted v (suc (suc zero)) (suc zero) few h small = omega arith
shifted v (suc (suc zero)) (suc (suc zero)) few h small = omega arith
shifted v (suc (suc zero)) (suc (suc (suc n))) few h small = absurd (omega arith)
shifted v (suc (suc (suc zero))) zero few h small = omega arith
shifted v (suc (suc (suc zero))) (suc zero) few h small = omega arith
shifted v (suc (suc (suc zero))) (suc (suc zero)) few h small = omega arith
shifted v (suc (suc (suc zero))) (suc (suc (suc zero))) few h small = omega arith
shifted v (suc (suc (suc zero))) (suc (suc (suc (suc n)))) few h small = absurd (omega arith)
shifted v (suc (suc (suc (suc m)))) n few h small = absurd (omega arith)

small_word : (v m : ℕ) → m < 4 → v < 256 ^ m → v * 2 ^ (32 - 8 * m) % 18446744073709551616 < 4294967296
small_word v zero few small = omega arith
small_word v (suc zero) few small = omega arith
small_word v (suc (suc zero)) few small = omega arith
small_word v (suc (suc (suc zero))) few small = omega arith
small_word v (suc (suc (suc (suc m)))) few small = absurd (omega arith)

pub last-small : (ys : List ℕ) (v m : ℕ) → IsBytes ys → length ys ≡ m → m < 4 → v ≡ number ys → v * 2 ^ (32 - 8 * m) % 18446744073709551616 < 4294967296
last-small ys v m b count few is = small_word v m few (rw (is, sym count) (number-lt ys b))

pub last-first : (ys : List ℕ) (v m n : ℕ) → IsBytes ys → length ys ≡ m → m < 4 → n ≤ m → v ≡ number ys → v * 2 ^ (32 - 8 * m) % 18446744073709551616 / 256 ^ (4 - n) ≡ number (take n ys)
last-first ys v m n b count few h is =
    let sum : n + (m - n) ≡ m = omega arith in
    let small : v < 256 ^ m = rw (is, sym count) (number-lt ys b) in
    let front : number (take n ys) ≡ number (take m ys) / 256 ^ (m - n) = number-front n (m - n) m ys b sum (omega (arith, count)) in
    let all : take m ys ≡ ys = take_all m ys (omega (arith, count)) in
    shifted v m n few h small ∙ (ap (λ x. x / 256 ^ (m - n)) (is ∙ ap number (sym all)) ∙ sym front)

-- the bytes run out
pub runs_out : (r : Reading) (from width : ℕ) → 0 < width → length r.rest < bytes_for width → reading_after_part r from width ≡ None
runs_out r from width some less =
    ⊎_elim
    (λ (short : Short r from width). short.is)
    (λ (enough : (k : Reading) × Enough r from width k). absurd (omega (arith, enough.1.room, less)))
    (taken_cases r from width some)
