-- How a decoder finds the next symbol without a division.
use Rattle.std.specs.Prelude.{◌≡◌, ℕ, ◌+◌, ◌-◌, ◌*◌, ◌/◌, ◌^◌, ◌<◌, ◌≤◌, min, Bool, true, false, List, slice_index}
use Rattle.std.specs.Int.{leading_zeros, w32}
use Rattle.laz_range.specs.Cut.{Cut, Part}
use Rattle.laz_range.specs.declared.limits.TheConstants.{GUARD, SYMBOL_PARTS}

-- 2 ^ 47 divided by the greatest number of 32 bits whose top 11 bits are these.
abbrev pub reciprocal : ℕ → ℕ
reciprocal top = 2 ^ 47 / ((top + 1) * 2 ^ 21 - 1)

-- Entry i is the reciprocal of the top bits i + 1024.
abbrev pub AreReciprocals : List ℕ → Type 0
AreReciprocals table = (i : ℕ) → i < 1024 → slice_index table i ≡ reciprocal (i + 1024)

-- The top 11 bits of a length without its leading zeros.
abbrev pub top_bits : ℕ → ℕ
top_bits len = len * 2 ^ leading_zeros w32 len / 2 ^ 21

-- The place of a value, of 2 ^ 15 parts of a length, as the reciprocal of the length's top 11 bits gives it.
abbrev pub estimated_place : ℕ → ℕ → ℕ
estimated_place value len =
    let zeros = leading_zeros w32 len
    in value * reciprocal (len * 2 ^ zeros / 2 ^ 21) / 2 ^ (32 - zeros)

-- Two parts of a distribution that follow each other. A part that ends with the interval ends at a guard.
pub record AreTwo (start next after : ℕ) : Type 0 where
  pub first : start < SYMBOL_PARTS
  pub order : start < next
  pub guard : SYMBOL_PARTS ≤ next → (GUARD ≤ next) × (GUARD ≤ after)
  pub second : next < SYMBOL_PARTS → next < after
  pub last : SYMBOL_PARTS ≤ after → GUARD ≤ after

-- The second of two parts, or the first.
abbrev pub part_of_two : ℕ → ℕ → ℕ → Bool → Cut
part_of_two start next after true = Part next (min after SYMBOL_PARTS)
part_of_two start next after false = Part start (min next SYMBOL_PARTS)
