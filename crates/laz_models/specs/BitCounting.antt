-- Models of bits, as they count.
use Rattle.std.specs.Prelude.{ℕ, ◌+◌, ◌-◌, ◌*◌, ◌/◌, ◌^◌, ◌<◌, ◌≤◌, ◌==◌, min, Bool, true, false, nat_lt, if◌then◌else◌}
use Rattle.laz_models.specs.declared.limits.TheConstants.{BIT_PARTS, MAX_BIT_COUNT}

-- What a model of bits knows: the zeros and the bits that it counted for the part of 0, that part as it was last
-- computed, the length of the present cycle, and how many bits of it are still to come.
pub record BitCounting : Type 0 where
  pub zeros : ℕ
  pub count : ℕ
  pub p0 : ℕ
  pub cycle : ℕ
  pub remaining : ℕ

-- A model that has counted no bit.
abbrev pub new_bit_model : BitCounting
new_bit_model = record { zeros = 1; count = 2; p0 = 4096; cycle = 4; remaining = 4 }

-- How many zeros there are with one more bit.
abbrev pub zeros_with : ℕ → Bool → ℕ
zeros_with zeros false = zeros + 1
zeros_with zeros true = zeros

-- The zeros and the bits, both halved if there are more than 2 ^ 13 bits. One bit of them stays a 1 (LASzip).
unfoldable pub small_bit_counts : ℕ → ℕ → ℕ × ℕ
small_bit_counts zeros count =
    if nat_lt MAX_BIT_COUNT count
    then ((zeros + 1) / 2, if (zeros + 1) / 2 == (count + 1) / 2 then (count + 1) / 2 + 1 else (count + 1) / 2)
    else (zeros, count)

-- The part of 0, of 2 ^ 13 parts: the share of the zeros (LASzip, after Said).
abbrev pub zero_part : ℕ × ℕ → ℕ
zero_part counts = counts.0 * (2 ^ 31 / counts.1) / 2 ^ 18

-- How long the cycle after one of this length is: a quarter longer, up to 64 (LASzip).
abbrev pub next_bit_cycle : ℕ → ℕ
next_bit_cycle cycle = min 64 (5 * cycle / 4)

-- A model at the beginning of a cycle, after one of this length, with these zeros and bits.
unfoldable pub new_bit_cycle : ℕ → ℕ → ℕ → BitCounting
new_bit_cycle zeros count cycle =
    let kept = small_bit_counts zeros count in
    let next = next_bit_cycle cycle in
    record { zeros = kept.0; count = kept.1; p0 = zero_part kept; cycle = next; remaining = next }

-- A model after one more bit.
unfoldable pub after_bit : BitCounting → Bool → BitCounting
after_bit m bit =
    if m.remaining == 1 then new_bit_cycle (zeros_with m.zeros bit) (m.count + m.cycle) m.cycle
    else
    record {
      zeros = zeros_with m.zeros bit;
      count = m.count;
      p0 = m.p0;
      cycle = m.cycle;
      remaining = m.remaining - 1;
    }

-- What holds of every model of bits, whatever it has counted.
pub record IsBitCounting (m : BitCounting) : Type 0 where
  pub some : 1 ≤ m.zeros
  pub fewer : m.zeros + m.remaining < m.count + m.cycle
  pub count : m.count ≤ MAX_BIT_COUNT
  pub p0_some : 0 < m.p0
  pub p0_below : m.p0 < BIT_PARTS
  pub remaining : 1 ≤ m.remaining
  pub within : m.remaining ≤ m.cycle
  pub four : 4 ≤ m.cycle
  pub cycle : m.cycle ≤ 64
