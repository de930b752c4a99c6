-- The cycles of a model, of symbols or of bits. `cycles j` is how long cycle j is, from 0 on.
use Rattle.std.specs.Prelude.{◌≡◌, ℕ, zero, suc, ◌+◌, ◌<◌, ◌≤◌, nat_le, if◌then◌else◌}

-- How many symbols come before cycle j: the sum of the cycles before it.
abbrev pub due : (ℕ → ℕ) → ℕ → ℕ
due cycles zero = 0
due cycles (suc j) = due cycles j + cycles j

-- The cycle of the symbol after `len` symbols: the greatest j with `due cycles j` at most `len`.
unfoldable pub cycle_in : (ℕ → ℕ) → ℕ → ℕ
cycle_in cycles zero = 0
cycle_in cycles (suc len) =
    if nat_le (due cycles (cycle_in cycles len + 1)) (suc len) then cycle_in cycles len + 1
    else cycle_in cycles len

-- After `len` symbols a model is in the cycle of the next one. `cycle` is its length, and `remaining` symbols of it are
-- to come.
pub record IsInCycle (cycles : ℕ → ℕ) (len cycle remaining : ℕ) : Type 0 where
  pub begun : due cycles (cycle_in cycles len) ≤ len
  pub open_until : len < due cycles (cycle_in cycles len + 1)
  pub is : cycle ≡ cycles (cycle_in cycles len)
  pub to_come : remaining + len ≡ due cycles (cycle_in cycles len + 1)
