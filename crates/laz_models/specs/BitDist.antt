-- The part of 0 that a list of bits gives (LASzip's models of bits).
use Rattle.std.specs.Prelude.{◌≡◌, ℕ, zero, suc, ◌+◌, Bool, not, List, length, drop, count_by, slice_range}
use Rattle.laz_models.specs.BitCounting.{BitCounting, small_bit_counts, zero_part, next_bit_cycle}
use Rattle.laz_models.specs.Cycles.{due, cycle_in, IsInCycle}

-- How long cycle j of a model of bits is, from 0 on (LASzip).
abbrev pub bit_cycle : ℕ → ℕ
bit_cycle zero = 4
bit_cycle (suc j) = next_bit_cycle (bit_cycle j)

-- How many zeros a list of bits has.
abbrev pub zeros_in : List Bool → ℕ
zeros_in bits = count_by not bits

-- The zeros and the bits at the beginning of cycle j, if h are the bits so far: those at the beginning of the cycle
-- before it and those of that cycle, halved if there are more than 2 ^ 13 bits (LASzip).
unfoldable pub bit_counts_at : List Bool → ℕ → ℕ × ℕ
bit_counts_at h zero = (1, 2)
bit_counts_at h (suc j) =
    small_bit_counts
    ((bit_counts_at h j).0 + zeros_in (slice_range h (due bit_cycle j) (due bit_cycle (suc j))))
    ((bit_counts_at h j).1 + bit_cycle j)

-- The part of 0 after the bits h, of 2 ^ 13 parts. It is computed at the beginning of each cycle.
abbrev pub p0_of : List Bool → ℕ
p0_of h = zero_part (bit_counts_at h (cycle_in bit_cycle (length h)))

-- A model stands for the bits h, which it has counted since it was new or reset: it knows what they give.
pub record BitStandsFor (h : List Bool) (m : BitCounting) : Type 0 where
  pub in_cycle : IsInCycle bit_cycle (length h) m.cycle m.remaining
  pub zeros : m.zeros
      ≡ (bit_counts_at h (cycle_in bit_cycle (length h))).0
      + zeros_in (drop (due bit_cycle (cycle_in bit_cycle (length h))) h)
  pub count : m.count ≡ (bit_counts_at h (cycle_in bit_cycle (length h))).1
  pub p0 : m.p0 ≡ p0_of h
