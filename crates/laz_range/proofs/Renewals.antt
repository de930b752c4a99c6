-- All bytes of a renormalisation at once.
use Rattle.std.proofs.Common.{◌≡◌, ℕ, zero, suc, ◌+◌, ◌-◌, ◌*◌, ◌/◌, ◌%◌, ◌^◌, ◌<◌, ◌≤◌, refl, sym, ap, ◌∙◌, arith}
use Rattle.std.proofs.Math.Nat.{mod-eq_of_lt}
use Rattle.std.proofs.lemmas.Nat.{and_mask}
use lib.Bits.{bit_and}
use Rattle.laz_range.specs.Span.{Span, renormal_step, bytes_for}
use Rattle.laz_range.proofs.Ahead.{Lacking, of_lacking, powers}
use Rattle.laz_range.proofs.Spans.{renormal_step-short, renormal_step-long, same_span}

renewed_none : (low len shifts : ℕ) → 16777216 ≤ len → renormal_step (renormal_step (renormal_step (record { low = low; len = len; shifts = shifts }))) ≡ record { low = low; len = len; shifts = shifts }
renewed_none low len shifts h =
    let s : Span = record { low = low; len = len; shifts = shifts } in
    let one : renormal_step s ≡ s = renormal_step-long s h in
    rw (one, one, one) refl

renewed_one : (low len shifts : ℕ) → 65536 ≤ len → len < 16777216 → renormal_step (renormal_step (renormal_step (record { low = low; len = len; shifts = shifts }))) ≡ record { low = low * 256; len = len * 256; shifts = shifts + 1 }
renewed_one low len shifts h k =
    let s : Span = record { low = low; len = len; shifts = shifts } in
    let t : Span = record { low = low * 256; len = len * 256; shifts = shifts + 1 } in
    let one : renormal_step s ≡ t = renormal_step-short s k in
    let two : renormal_step t ≡ t = renormal_step-long t (omega arith) in
    rw (one, two, two) refl

renewed_two : (low len shifts : ℕ) → 256 ≤ len → len < 65536 → renormal_step (renormal_step (renormal_step (record { low = low; len = len; shifts = shifts }))) ≡ record { low = low * 65536; len = len * 65536; shifts = shifts + 2 }
renewed_two low len shifts h k =
    let s : Span = record { low = low; len = len; shifts = shifts } in
    let t : Span = record { low = low * 256; len = len * 256; shifts = shifts + 1 } in
    let u : Span = record { low = low * 256 * 256; len = len * 256 * 256; shifts = shifts + 1 + 1 } in
    let one : renormal_step s ≡ t = renormal_step-short s (omega arith) in
    let two : renormal_step t ≡ u = renormal_step-short t (omega arith) in
    let three : renormal_step u ≡ u = renormal_step-long u (omega arith) in
    rw (one, two, three) (same_span _ _ _ _ _ _ (omega arith) (omega arith) (omega arith))

renewed_three : (low len shifts : ℕ) → 0 < len → len < 256 → renormal_step (renormal_step (renormal_step (record { low = low; len = len; shifts = shifts }))) ≡ record { low = low * 16777216; len = len * 16777216; shifts = shifts + 3 }
renewed_three low len shifts h k =
    let s : Span = record { low = low; len = len; shifts = shifts } in
    let t : Span = record { low = low * 256; len = len * 256; shifts = shifts + 1 } in
    let u : Span = record { low = low * 256 * 256; len = len * 256 * 256; shifts = shifts + 1 + 1 } in
    let v : Span = record { low = low * 256 * 256 * 256; len = len * 256 * 256 * 256; shifts = shifts + 1 + 1 + 1 } in
    let one : renormal_step s ≡ t = renormal_step-short s (omega arith) in
    let two : renormal_step t ≡ u = renormal_step-short t (omega arith) in
    let three : renormal_step u ≡ v = renormal_step-short u (omega arith) in
    rw (one, two, three) (same_span _ _ _ _ _ _ (omega arith) (omega arith) (omega arith))

renewed_by : (low len shifts n : ℕ) → 0 < len → Lacking len n → renormal_step (renormal_step (renormal_step (record { low = low; len = len; shifts = shifts }))) ≡ record { low = low * 256 ^ n; len = len * 256 ^ n; shifts = shifts + n }
renewed_by low len shifts zero some l = renewed_none low len shifts (omega (arith, l.long)) ∙ same_span _ _ _ _ _ _ (omega arith) (omega arith) (omega arith)
renewed_by low len shifts (suc zero) some l = renewed_one low len shifts (omega (arith, l.long)) (omega (arith, l.fits))
renewed_by low len shifts (suc (suc zero)) some l = renewed_two low len shifts (omega (arith, l.long)) (omega (arith, l.fits))
renewed_by low len shifts (suc (suc (suc zero))) some l = renewed_three low len shifts some (omega (arith, l.fits))
renewed_by low len shifts (suc (suc (suc (suc n)))) some l = absurd (omega (arith, l.few))

-- the first n bytes of the base go out
base_goes : (w base v n : ℕ) → n < 4 → base < 4294967296 → v ≡ w * 256 ^ n + base / 256 ^ (4 - n) → v * 4294967296 + base * 256 ^ n % 4294967296 ≡ (w * 4294967296 + base) * 256 ^ n
base_goes w base v zero few small e = omega arith
base_goes w base v (suc zero) few small e = omega arith
base_goes w base v (suc (suc zero)) few small e = omega arith
base_goes w base v (suc (suc (suc zero))) few small e = omega arith
base_goes w base v (suc (suc (suc (suc n)))) few small e = absurd (omega arith)

-- the span after a renormalisation
pub renews : (w base v at next len shifts n : ℕ) → 0 < len → len < 4294967296 → n ≡ bytes_for len → base < 4294967296 → at ≤ next → shifts ≡ next - at → v ≡ w * 256 ^ n + base / 256 ^ (4 - n)
    → record { low = v * 4294967296 + base * 2 ^ (8 * n) % 4294967296; len = len * 2 ^ (8 * n) % 4294967296; shifts = next + n - at }
    ≡ renormal_step (renormal_step (renormal_step (record { low = w * 4294967296 + base; len = len; shifts = shifts })))
renews w base v at next len shifts n some fits is small order count e =
    let l = of_lacking n len some fits is in
    let low : v * 4294967296 + base * 2 ^ (8 * n) % 4294967296 ≡ (w * 4294967296 + base) * 256 ^ n = ap (λ p. v * 4294967296 + base * p % 4294967296) (powers n l.few) ∙ base_goes w base v n l.few small e in
    let length : len * 2 ^ (8 * n) % 4294967296 ≡ len * 256 ^ n = ap (λ p. len * p % 4294967296) (powers n l.few) ∙ mod-eq_of_lt l.fits in
    same_span _ _ _ _ _ _ low length (omega arith) ∙ sym (renewed_by (w * 4294967296 + base) len shifts n some l)

-- ---- the bytes of a word, one after another
pub low_byte : (n : ℕ) → bit_and n 255 ≡ n % 256
low_byte n = and_mask n 8
