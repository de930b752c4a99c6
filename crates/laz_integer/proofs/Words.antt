-- Bytes and numbers of 16 bits as integers, both ways. Meant for the crates of items, too.
use Rattle.std.proofs.Common.{◌≡◌, ℕ, ℤ, pos, ◌+◌, ◌%◌, ◌<◌, sym, ap, ◌∙◌, arith, subst}
use Rattle.std.specs.Prelude.{nat_abs}
use Rattle.std.specs.Int.{w32, cast_signed, cast_unsigned}
use Rattle.std.proofs.lemmas.Int.{to_z_pos, of_z-to_z}
use Rattle.std.proofs.Math.Facts.{sfits_to_z}
use mir.Val.{SFits, Fits}
use Rattle.laz_integer.specs.Corrector.{HasBits, corrected, corrector}

pub word-pos : (n : ℕ) → n < 65536 → cast_signed w32 n ≡ pos n
word-pos n h = to_z_pos w32 n (omega arith)

pub word-unsigned : (n : ℕ) → n < 65536 → cast_unsigned w32 (pos n) ≡ n
word-unsigned n h = ap (cast_unsigned w32) (sym (word-pos n h)) ∙ of_z-to_z w32 n (omega (arith, h))

pub word-fits : (n : ℕ) → n < 65536 → SFits w32 (pos n)
word-fits n h =
    let word : Fits w32 n = record { fits = omega (arith, h) } in
    subst (λ (z : ℤ). SFits w32 z) (word-pos n h) (sfits_to_z {w = w32} {n = n} word)

pub word-bits : (n : ℕ) → n < 65536 → HasBits 16 (pos n)
word-bits n h = omega (arith, word-unsigned n h)

-- ---- what a corrector of 16 bits makes is such a number
pub word-made : (p : ℤ) (k v : ℕ) → corrected 16 p k v ≡ pos (nat_abs (corrected 16 p k v))
word-made p k v =
    let n : ℕ = (cast_unsigned w32 p + corrector 16 k v) % 65536 in
    let small : n < 65536 = omega arith in
    let is : corrected 16 p k v ≡ pos n = to_z_pos w32 n (omega (arith, small)) in
    is ∙ ap (λ z. pos (nat_abs z)) (sym is)

pub word-value : (pred : ℕ) (p : ℤ) (k v : ℕ) (value : ℤ) → p ≡ pos pred → value ≡ corrected 16 p k v
    → nat_abs (cast_signed w32 (cast_unsigned w32 value)) ≡ nat_abs (corrected 16 (pos pred) k v)
word-value pred p k v value same is =
    let n : ℕ = (cast_unsigned w32 (pos pred) + corrector 16 k v) % 65536 in
    let small : n < 65536 = omega arith in
    let made : value ≡ cast_signed w32 n = rw same at is in
    let back : cast_unsigned w32 (cast_signed w32 n) ≡ n = of_z-to_z w32 n (omega (arith, small)) in
    ap (λ z. nat_abs (cast_signed w32 (cast_unsigned w32 z))) made ∙ ap (λ u. nat_abs (cast_signed w32 u)) back
