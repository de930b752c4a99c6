-- The numbers from which records are made: those of a linear congruential generator modulo 2^64, with the multiplier
-- and the increment of D. Knuth's MMIX.
use Rattle.std.specs.Prelude.{◌≡◌, ℕ, zero, suc, ◌+◌, ◌*◌, ◌/◌, ◌%◌, ◌^◌, if◌then◌else◌}
use Rattle.las_header.specs.Fields.{has_colours}
use Rattle.las_make.specs.declared.drawing.Draws.{Draws}

-- the state after another one
unfoldable pub next_state : ℕ → ℕ
next_state state = (state * 6364136223846793005 + 1442695040888963407) % 2 ^ 64

-- the state after this many draws: the first is the seed
unfoldable pub state_drawn : (seed draws : ℕ) → ℕ
state_drawn seed zero = seed
state_drawn seed (suc n) = next_state (state_drawn seed n)

-- the number of a draw, counted from 0: the upper half of the state after it
unfoldable pub draw : (seed number : ℕ) → ℕ
draw seed n = state_drawn seed (suc n) / 2 ^ 32

-- A draw gave the number that is due, and left the state after it.
abbrev pub DrawsNext : (old result new : ℕ) → Type 0
DrawsNext old result new =
    (seed n : ℕ) → old ≡ state_drawn seed n → (result ≡ draw seed n) × (new ≡ state_drawn seed (n + 1))

-- how many numbers are drawn for a record: an eighth for its colours
abbrev pub draws_each : (format : ℕ) → ℕ
draws_each format = if has_colours format then 8 else 7

-- the numbers of a record, from this draw on
unfoldable pub draws_at : (format seed first : ℕ) → Draws
draws_at format seed first = record {
  x = draw seed first;
  y = draw seed (first + 1);
  z = draw seed (first + 2);
  intensity = draw seed (first + 3);
  returns = draw seed (first + 4);
  number = draw seed (first + 5);
  class = draw seed (first + 6);
  colours = if has_colours format then draw seed (first + 7) else 0;
}
