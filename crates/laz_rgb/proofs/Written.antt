-- The events that a writer makes of a colour, or of extra bytes, spell them.
use Rattle.std.proofs.Common.{◌≡◌, ℕ, ◌+◌, ◌*◌, ◌/◌, ◌%◌, ◌<◌, ◌≤◌, Bool, true, false, refl, sym, arith}
use Rattle.std.specs.Prelude.{◌==◌}
use Rattle.laz_rgb.specs.Rows.{byte_of}
use Rattle.laz_rgb.specs.Colours.{bit_if, half_moved, moved, symbol_if}
use Rattle.laz_integer.specs.Bytes.{has_bit}
use Rattle.laz_integer.proofs.Public.{difference-back}

-- ---- the bits of the symbol of changes
bit-times : (t : Bool) (k : ℕ) → bit_if t k ≡ k * bit_if t 1
bit-times true k = omega arith
bit-times false k = omega arith

bit-small : (t : Bool) → bit_if t 1 ≤ 1
bit-small true = omega arith
bit-small false = omega arith

pub bit-most : (t : Bool) (k : ℕ) → bit_if t k ≤ k
bit-most true k = omega arith
bit-most false k = omega arith

has-is : (n : ℕ) (t : Bool) → n ≡ bit_if t 1 → (n == 1) ≡ t
has-is n true e = rw e refl
has-is n false e = rw e refl

pub record Bits (r rh g gh b bh c : Bool) (s : ℕ) : Type 0 where
  pub red_low : has_bit 1 s ≡ r
  pub red_high : has_bit 2 s ≡ rh
  pub green_low : has_bit 4 s ≡ g
  pub green_high : has_bit 8 s ≡ gh
  pub blue_low : has_bit 16 s ≡ b
  pub blue_high : has_bit 32 s ≡ bh
  pub colours : has_bit 64 s ≡ c

digits : (r rh g gh b bh c s : ℕ) → r ≤ 1 → rh ≤ 1 → g ≤ 1 → gh ≤ 1 → b ≤ 1 → bh ≤ 1 → c ≤ 1 → s ≡ r + 2 * rh + 4 * g + 8 * gh + 16 * b + 32 * bh + 64 * c
    → (s / 1 % 2 ≡ r) × (s / 2 % 2 ≡ rh) × (s / 4 % 2 ≡ g) × (s / 8 % 2 ≡ gh) × (s / 16 % 2 ≡ b) × (s / 32 % 2 ≡ bh) × (s / 64 % 2 ≡ c)
digits r rh g gh b bh c s h1 h2 h3 h4 h5 h6 h7 e = (omega arith, omega arith, omega arith, omega arith, omega arith, omega arith, omega arith)

pub bits-of : (r rh g gh b bh c : Bool) → Bits r rh g gh b bh c (bit_if r 1 + bit_if rh 2 + bit_if g 4 + bit_if gh 8 + bit_if b 16 + bit_if bh 32 + bit_if c 64)
unfolding has_bit
bits-of r rh g gh b bh c =
    let s = bit_if r 1 + bit_if rh 2 + bit_if g 4 + bit_if gh 8 + bit_if b 16 + bit_if bh 32 + bit_if c 64 in
    let d = digits (bit_if r 1) (bit_if rh 1) (bit_if g 1) (bit_if gh 1) (bit_if b 1) (bit_if bh 1) (bit_if c 1) s (bit-small r) (bit-small rh) (bit-small g) (bit-small gh) (bit-small b) (bit-small bh) (bit-small c)
    (omega (arith, bit-times rh 2, bit-times g 4, bit-times gh 8, bit-times b 16, bit-times bh 32, bit-times c 64)) in
    record {
      red_low = has-is (s / 1 % 2) r d.0;
      red_high = has-is (s / 2 % 2) rh d.1;
      green_low = has-is (s / 4 % 2) g d.2;
      green_high = has-is (s / 8 % 2) gh d.3;
      blue_low = has-is (s / 16 % 2) b d.4;
      blue_high = has-is (s / 32 % 2) bh d.5;
      colours = has-is (s / 64 % 2) c d.6;
    }

-- ---- one byte
pub byte-back : (t : Bool) (predicted previous byte : ℕ) → predicted < 256 → byte < 256 → (t ≡ false → byte ≡ previous) → byte_of t predicted previous (symbol_if t predicted byte) ≡ byte
byte-back true predicted previous byte p b same = difference-back predicted byte p b
byte-back false predicted previous byte p b same = sym (same refl)

pub moved-small : (from to byte : ℕ) → moved from to byte < 256
moved-small from to byte = omega arith

pub half-small : (from to byte : ℕ) → half_moved from to byte < 256
half-small from to byte = omega arith
