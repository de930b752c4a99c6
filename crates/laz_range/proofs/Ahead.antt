-- Bytes that are read ahead, four at a time.
use Rattle.std.proofs.Common.{◌≡◌, ℕ, zero, suc, ◌+◌, ◌-◌, ◌*◌, ◌/◌, ◌%◌, ◌^◌, ◌<◌, ◌≤◌, List, [], ◌∷◌, length, take, drop, Some, refl, sym, ap, ◌∙◌, arith, length-drop, ⊎_elim, lit<}
use Rattle.std.proofs.Math.Nat.{pow-le-pow_right, mod-eq_of_lt}
use Rattle.std.proofs.lemmas.Nat.{leading_top, mul-le}
use Rattle.std.proofs.lemmas.List.{drop-drop}
use Rattle.std.proofs.lemmas.Bool.{cases_lt}
use Rattle.std.proofs.lemmas.Bool.Decides.{nat_tests}
use lib.Count.{count_leading_zeros}
use Rattle.laz_range.specs.Span.{number, bytes_for}
use Rattle.laz_range.specs.Reading.{Reading, refill_step, reading_after_part}
use Rattle.laz_range.proofs.Refills.{refill_step-short, refill_step-long}

-- ---- how many bytes a length lacks
-- n bytes bring the length to 2 ^ 24 or above, and it still has 32 bits
pub record Lacking (len n : ℕ) : Type 0 where
  pub is : n ≡ bytes_for len
  pub few : n < 4
  pub fits : len * 256 ^ n < 4294967296
  pub long : 16777216 ≤ len * 256 ^ n

lacks_none : (len : ℕ) → 16777216 ≤ len → len < 4294967296 → Lacking len 0
unfolding bytes_for
lacks_none len h k = record { is = grind (arith, nat_tests); few = lit< tt; fits = omega arith; long = omega arith }

lacks_one : (len : ℕ) → 65536 ≤ len → len < 16777216 → Lacking len 1
unfolding bytes_for
lacks_one len h k = record { is = grind (arith, nat_tests); few = lit< tt; fits = omega arith; long = omega arith }

lacks_two : (len : ℕ) → 256 ≤ len → len < 65536 → Lacking len 2
unfolding bytes_for
lacks_two len h k = record { is = grind (arith, nat_tests); few = lit< tt; fits = omega arith; long = omega arith }

lacks_three : (len : ℕ) → 0 < len → len < 256 → Lacking len 3
unfolding bytes_for
lacks_three len h k = record { is = grind (arith, nat_tests); few = lit< tt; fits = omega arith; long = omega arith }

at_least : (len i j : ℕ) → i ≤ j → 2 ^ j ≤ len → 2 ^ i ≤ len
at_least len i j h k = omega (arith, pow-le-pow_right {n = 2} (lit< tt) {i = i} {j = j} h)

at_most : (len i j : ℕ) → suc j ≤ i → len < 2 ^ suc j → len < 2 ^ i
at_most len i j h k = omega (arith, pow-le-pow_right {n = 2} (lit< tt) {i = suc j} {j = i} h)

-- from the number of leading zeros
pub lacking : (len : ℕ) → 0 < len → len < 4294967296 → Lacking len (count_leading_zeros 32 len / 8)
lacking len some small =
    let top = leading_top 32 len some small in
    let j : ℕ = top.0 in
    let zeros : count_leading_zeros 32 len + suc j ≡ 32 = top.1 in
    ⊎_elim
    (λ (a : j < 8). let e : count_leading_zeros 32 len / 8 ≡ 3 = omega (arith, zeros, a) in rw e (lacks_three len some (at_most len 8 j a top.3)))
    (λ (b : 8 ≤ j).
    ⊎_elim
    (λ (a : j < 16). let e : count_leading_zeros 32 len / 8 ≡ 2 = omega (arith, zeros, a, b) in rw e (lacks_two len (at_least len 8 j b top.2) (at_most len 16 j a top.3)))
    (λ (d : 16 ≤ j).
    ⊎_elim
    (λ (a : j < 24). let e : count_leading_zeros 32 len / 8 ≡ 1 = omega (arith, zeros, a, d) in rw e (lacks_one len (at_least len 16 j d top.2) (at_most len 24 j a top.3)))
    (λ (f : 24 ≤ j). let e : count_leading_zeros 32 len / 8 ≡ 0 = omega (arith, zeros, f) in rw e (lacks_none len (at_least len 24 j f top.2) small))
    (cases_lt j 24))
    (cases_lt j 16))
    (cases_lt j 8)

-- ---- a value and the first bytes of a word
pub powers : (n : ℕ) → n < 4 → 2 ^ (8 * n) ≡ 256 ^ n
powers zero h = refl
powers (suc zero) h = refl
powers (suc (suc zero)) h = refl
powers (suc (suc (suc zero))) h = refl
powers (suc (suc (suc (suc n)))) h = absurd (omega arith)

joined0 : (value word : ℕ) → value + 1 ≤ 4294967296 → word < 4294967296 → (value * 4294967296 % 18446744073709551616 + word) * 1 % 18446744073709551616 / 4294967296 ≡ value * 1 + word / 4294967296
joined0 value word fits small = omega arith

joined1 : (value word : ℕ) → value < 16777216 → word < 4294967296 → (value * 4294967296 % 18446744073709551616 + word) * 256 % 18446744073709551616 / 4294967296 ≡ value * 256 + word / 16777216
joined1 value word fits small = omega arith

joined2 : (value word : ℕ) → value < 65536 → word < 4294967296 → (value * 4294967296 % 18446744073709551616 + word) * 65536 % 18446744073709551616 / 4294967296 ≡ value * 65536 + word / 65536
joined2 value word fits small = omega arith

joined3 : (value word : ℕ) → value < 256 → word < 4294967296 → (value * 4294967296 % 18446744073709551616 + word) * 16777216 % 18446744073709551616 / 4294967296 ≡ value * 16777216 + word / 256
joined3 value word fits small = omega arith

pub joined : (value word n : ℕ) → n < 4 → (value + 1) * 256 ^ n ≤ 4294967296 → word < 4294967296
    → (value * 4294967296 % 18446744073709551616 + word) * 2 ^ (8 * n) % 18446744073709551616 / 4294967296 ≡ value * 256 ^ n + word / 256 ^ (4 - n)
joined value word zero h fits small = joined0 value word (omega arith) small
joined value word (suc zero) h fits small = joined1 value word (omega arith) small
joined value word (suc (suc zero)) h fits small = joined2 value word (omega arith) small
joined value word (suc (suc (suc zero))) h fits small = joined3 value word (omega arith) small
joined value word (suc (suc (suc (suc n)))) h fits small = absurd (omega arith)

bytes_below : (word n : ℕ) → n < 4 → word < 4294967296 → word / 256 ^ (4 - n) < 256 ^ n
bytes_below word zero h small = omega arith
bytes_below word (suc zero) h small = omega arith
bytes_below word (suc (suc zero)) h small = omega arith
bytes_below word (suc (suc (suc zero))) h small = omega arith
bytes_below word (suc (suc (suc (suc n)))) h small = absurd (omega arith)

-- the value stays below the length
pub joined_below : (value width word n : ℕ) → n < 4 → value < width → word < 4294967296 → value * 256 ^ n + word / 256 ^ (4 - n) < width * 256 ^ n
joined_below value width word n few below small =
    omega (arith, bytes_below word n few small, mul-le (value + 1) (256 ^ n) width (256 ^ n) (omega arith) (omega arith))

-- ---- the reading after them
same_reading : (v w n k : ℕ) (xs ys : List ℕ) → v ≡ w → n ≡ k → xs ≡ ys → Some (let r : Reading = record { value = v; len = n; rest = xs } in r) ≡ Some (record { value = w; len = k; rest = ys })
same_reading v w n k xs ys e f g = cc

-- of the bytes that are left, by how many are taken
reads_none : (value len from width : ℕ) (xs : List ℕ) (v : ℕ) → 16777216 ≤ width → v ≡ value - from
    → reading_after_part (record { value = value; len = len; rest = xs }) from width ≡ Some (record { value = v; len = width; rest = xs })
unfolding reading_after_part
reads_none value len from width xs v h e =
    let r : Reading = record { value = value - from; len = width; rest = xs } in
    let one : refill_step r ≡ Some r = refill_step-long r h in
    rw (one, one, one, e) refl

reads_one : (value len from width a : ℕ) (xs : List ℕ) (v n : ℕ) → 65536 ≤ width → width < 16777216 → v ≡ (value - from) * 256 + a → n ≡ width * 256
    → reading_after_part (record { value = value; len = len; rest = a ∷ xs }) from width ≡ Some (record { value = v; len = n; rest = xs })
unfolding reading_after_part
reads_one value len from width a xs v n h k e f =
    let r : Reading = record { value = value - from; len = width; rest = a ∷ xs } in
    let s : Reading = record { value = (value - from) * 256 + a; len = width * 256; rest = xs } in
    let one : refill_step r ≡ Some s = refill_step-short r k in
    let two : refill_step s ≡ Some s = refill_step-long s (omega arith) in
    rw (one, two, two, e, f) refl

reads_two : (value len from width a b : ℕ) (xs : List ℕ) (v n : ℕ) → 256 ≤ width → width < 65536 → v ≡ ((value - from) * 256 + a) * 256 + b → n ≡ width * 65536
    → reading_after_part (record { value = value; len = len; rest = a ∷ b ∷ xs }) from width ≡ Some (record { value = v; len = n; rest = xs })
unfolding reading_after_part
reads_two value len from width a b xs v n h k e f =
    let r : Reading = record { value = value - from; len = width; rest = a ∷ b ∷ xs } in
    let s : Reading = record { value = (value - from) * 256 + a; len = width * 256; rest = b ∷ xs } in
    let t : Reading = record { value = ((value - from) * 256 + a) * 256 + b; len = width * 256 * 256; rest = xs } in
    let one : refill_step r ≡ Some s = refill_step-short r (omega arith) in
    let two : refill_step s ≡ Some t = refill_step-short s (omega arith) in
    let three : refill_step t ≡ Some t = refill_step-long t (omega arith) in
    rw (one, two, three) (same_reading _ _ _ _ xs xs (sym e) (omega arith) refl)

reads_three : (value len from width a b c : ℕ) (xs : List ℕ) (v n : ℕ) → 0 < width → width < 256 → v ≡ (((value - from) * 256 + a) * 256 + b) * 256 + c → n ≡ width * 16777216
    → reading_after_part (record { value = value; len = len; rest = a ∷ b ∷ c ∷ xs }) from width ≡ Some (record { value = v; len = n; rest = xs })
unfolding reading_after_part
reads_three value len from width a b c xs v n h k e f =
    let r : Reading = record { value = value - from; len = width; rest = a ∷ b ∷ c ∷ xs } in
    let s : Reading = record { value = (value - from) * 256 + a; len = width * 256; rest = b ∷ c ∷ xs } in
    let t : Reading = record { value = ((value - from) * 256 + a) * 256 + b; len = width * 256 * 256; rest = c ∷ xs } in
    let u : Reading = record { value = (((value - from) * 256 + a) * 256 + b) * 256 + c; len = width * 256 * 256 * 256; rest = xs } in
    let one : refill_step r ≡ Some s = refill_step-short r (omega arith) in
    let two : refill_step s ≡ Some t = refill_step-short s (omega arith) in
    let three : refill_step t ≡ Some u = refill_step-short t (omega arith) in
    rw (one, two, three) (same_reading _ _ _ _ xs xs (sym e) (omega arith) refl)

pub of_lacking : (n width : ℕ) → 0 < width → width < 4294967296 → n ≡ bytes_for width → Lacking width n
of_lacking n width some small e = let all = lacking width some small in rw (e ∙ sym all.is) all

reads_by : (value len from width n : ℕ) (bytes : List ℕ) → Lacking width n → 0 < width → n ≤ length bytes
    → reading_after_part (record { value = value; len = len; rest = bytes }) from width ≡ Some (record { value = (value - from) * 256 ^ n + number (take n bytes); len = width * 256 ^ n; rest = drop n bytes })
reads_by value len from width zero bytes l some enough =
    reads_none value len from width bytes _ (omega (arith, l.long)) (omega arith) ∙ same_reading _ _ _ _ _ _ refl (omega arith) refl
reads_by value len from width (suc zero) [] l some enough = absurd (omega arith)
reads_by value len from width (suc zero) (a ∷ xs) l some enough = reads_one value len from width a xs _ _ (omega (arith, l.long)) (omega (arith, l.fits)) (omega arith) (omega arith)
reads_by value len from width (suc (suc zero)) [] l some enough = absurd (omega arith)
reads_by value len from width (suc (suc zero)) (a ∷ []) l some enough = absurd (omega arith)
reads_by value len from width (suc (suc zero)) (a ∷ b ∷ xs) l some enough = reads_two value len from width a b xs _ _ (omega (arith, l.long)) (omega (arith, l.fits)) (omega arith) (omega arith)
reads_by value len from width (suc (suc (suc zero))) [] l some enough = absurd (omega arith)
reads_by value len from width (suc (suc (suc zero))) (a ∷ []) l some enough = absurd (omega arith)
reads_by value len from width (suc (suc (suc zero))) (a ∷ b ∷ []) l some enough = absurd (omega arith)
reads_by value len from width (suc (suc (suc zero))) (a ∷ b ∷ c ∷ xs) l some enough = reads_three value len from width a b c xs _ _ some (omega (arith, l.fits)) (omega arith) (omega arith)
reads_by value len from width (suc (suc (suc (suc n)))) bytes l some enough = absurd (omega (arith, l.few))

-- the reading after a part, if as many bytes are left as it lacks
pub reads_ahead : (value len from width n taken : ℕ) (bytes : List ℕ) → taken + n ≤ length bytes → 0 < width → width < 4294967296 → n ≡ bytes_for width
    → reading_after_part (record { value = value; len = len; rest = drop taken bytes }) from width
    ≡ Some (record { value = (value - from) * 256 ^ n + number (take n (drop taken bytes)); len = width * 2 ^ (8 * n) % 4294967296; rest = drop (taken + n) bytes })
reads_ahead value len from width n taken bytes enough some fits e =
    let l = of_lacking n width some fits e in
    let len_is : width * 2 ^ (8 * n) % 4294967296 ≡ width * 256 ^ n = ap (λ p. width * p % 4294967296) (powers n l.few) ∙ mod-eq_of_lt l.fits in
    reads_by value len from width n (drop taken bytes) l some (omega (arith, length-drop taken bytes))
    ∙ same_reading _ _ _ _ _ _ refl (sym len_is) (drop-drop n taken bytes)

pub long_ahead : (width n : ℕ) → 0 < width → width < 4294967296 → n ≡ bytes_for width → 16777216 ≤ width * 2 ^ (8 * n) % 4294967296
long_ahead width n some fits e =
    let l = of_lacking n width some fits e in
    let len_is : width * 2 ^ (8 * n) % 4294967296 ≡ width * 256 ^ n = ap (λ p. width * p % 4294967296) (powers n l.few) ∙ mod-eq_of_lt l.fits in
    omega (arith, len_is, l.long)

pub below_ahead : (value width word n : ℕ) → value < width → width < 4294967296 → word < 4294967296 → n ≡ bytes_for width → value * 256 ^ n + word / 256 ^ (4 - n) < width * 2 ^ (8 * n) % 4294967296
below_ahead value width word n below fits small e =
    let l = of_lacking n width (omega arith) fits e in
    let len_is : width * 2 ^ (8 * n) % 4294967296 ≡ width * 256 ^ n = ap (λ p. width * p % 4294967296) (powers n l.few) ∙ mod-eq_of_lt l.fits in
    omega (arith, len_is, joined_below value width word n l.few below small)
