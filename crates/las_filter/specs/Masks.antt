-- Sets of small numbers, as the bits of a mask.
use Rattle.std.specs.Prelude.{ℕ, Bool, ◌==◌}
use Rattle.std.specs.Int.{bit_at}

-- a number is in the set of a mask: its bit is 1
abbrev pub has_bit : ℕ → ℕ → Bool
has_bit mask number = bit_at mask number == 1
