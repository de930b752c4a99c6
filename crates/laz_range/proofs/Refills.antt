-- Steps of a reading, and raw values of two events.
use Rattle.std.proofs.Common.{◌≡◌, ℕ, ◌+◌, ◌-◌, ◌*◌, ◌/◌, ◌%◌, ◌^◌, ◌<◌, ◌≤◌, List, [], ◌∷◌, length, get_or, drop, Some, None, refl, sym, ap, ◌∙◌, arith, ⊎_elim}
use Rattle.std.proofs.lemmas.List.{drop_more, drop_all}
use Rattle.std.proofs.lemmas.Bool.{cond_below, cond_above, cond-true, cond-false, and_from, and_left, and_right, le-leb, lt-leb, lt-ltb, le-ltb, cases_lt}
use Rattle.std.proofs.lemmas.Nat.{mul-le, div-add-mod', mod_below, pow-add}
use Rattle.laz_range.specs.Cut.{Cut, Raw, start_in, width_in, raw_cuts}
use Rattle.laz_range.specs.Reading.{Reading, refill_step, with_byte, follow, reading_after_part, IsIn}

pub refill_step-short : (r : Reading) → r.len < 16777216 → refill_step r ≡ with_byte r r.rest
unfolding refill_step
refill_step-short r h = sym (cond_below r.len 16777216 _ _ h)

pub refill_step-long : (r : Reading) → 16777216 ≤ r.len → refill_step r ≡ Some r
unfolding refill_step
refill_step-long r h = sym (cond_above r.len 16777216 _ _ _ h refl)

-- a byte is left
pub with_byte-some : (value len taken v n : ℕ) (bytes : List ℕ) → taken < length bytes → v ≡ value * 256 + get_or bytes taken 0 → n ≡ len * 256
    → with_byte (record { value = value; len = len; rest = drop taken bytes }) (drop taken bytes) ≡ Some (record { value = v; len = n; rest = drop (taken + 1) bytes })
with_byte-some value len taken v n bytes h e f = rw (drop_more bytes taken 0 h, e, f) refl

pub with_byte-none : (r : Reading) (taken : ℕ) (bytes : List ℕ) → length bytes ≤ taken → with_byte r (drop taken bytes) ≡ None
with_byte-none r taken bytes h = rw (drop_all taken bytes h) refl

pub follow-in : (r : Reading) (c : Cut) → IsIn r c → follow r c ≡ reading_after_part r (start_in r.len c) (width_in r.len c)
unfolding follow
follow-in r c h =
    cond-true _ _ None (and_from _ _ (le-leb (start_in r.len c) r.value h.above) (lt-ltb r.value (start_in r.len c + width_in r.len c) h.below))

pub follow-below : (r : Reading) (c : Cut) → r.value < start_in r.len c → follow r c ≡ None
unfolding follow
follow-below r c h = cond-false _ (reading_after_part r (start_in r.len c) (width_in r.len c)) None (and_left _ _ (lt-leb (start_in r.len c) r.value h))

pub follow-above : (r : Reading) (c : Cut) → start_in r.len c + width_in r.len c ≤ r.value → follow r c ≡ None
unfolding follow
follow-above r c h = cond-false _ (reading_after_part r (start_in r.len c) (width_in r.len c)) None (and_right _ _ (le-ltb r.value (start_in r.len c + width_in r.len c) h))

-- what was followed held the value
pub IsIn-followed : (r s : Reading) (c : Cut) → follow r c ≡ Some s → IsIn r c
IsIn-followed r s c e =
    ⊎_elim
    (λ (low : r.value < start_in r.len c). let no : None ≡ Some s = sym (follow-below r c low) ∙ e in cc)
    (λ (above : start_in r.len c ≤ r.value).
    ⊎_elim
    (λ (below : r.value < start_in r.len c + width_in r.len c). let both : IsIn r c = record { above = above; below = below } in both)
    (λ (high : start_in r.len c + width_in r.len c ≤ r.value). let no : None ≡ Some s = sym (follow-above r c high) ∙ e in cc)
    (cases_lt r.value (start_in r.len c + width_in r.len c)))
    (cases_lt r.value (start_in r.len c))

pub no_raw : (r : Reading) (b q : ℕ) → 2 ^ b ≤ q → q * (r.len / 2 ^ b) ≤ r.value → (v : ℕ) → v < 2 ^ b → follow r (Raw b v) ≡ None
no_raw r b q large above v h =
    follow-above r (Raw b v) (omega (arith, mul-le (v + 1) (r.len / 2 ^ b) q (r.len / 2 ^ b) (omega arith) (omega arith)))

pub quotient_is : (value unit : ℕ) → 0 < unit → (value / unit * unit ≤ value) × (value < value / unit * unit + unit)
quotient_is value unit h = (omega (arith, div-add-mod' value unit), omega (arith, div-add-mod' value unit, mod_below value unit h))

-- of a wide value, its two halves
pub raw_cuts-wide : (b v : ℕ) → 19 < b → raw_cuts b v ≡ Raw 16 (v % 65536) ∷ Raw (b - 16) (v / 65536) ∷ []
raw_cuts-wide b v h = cond-true _ _ _ (lt-ltb 19 b h)

-- of a narrow value, itself
pub raw_cuts-narrow : (b v : ℕ) → b ≤ 19 → raw_cuts b v ≡ Raw b v ∷ []
raw_cuts-narrow b v h = cond-false _ _ _ (le-ltb 19 b h)

pub wide_small : (b low high : ℕ) → 19 < b → low < 65536 → high < 2 ^ (b - 16) → high * 65536 + low < 2 ^ b
wide_small b low high h small few =
    let power : 2 ^ b ≡ 65536 * 2 ^ (b - 16) = ap (λ k. 2 ^ k) (omega arith) ∙ pow-add 2 16 (b - 16) in
    omega arith
