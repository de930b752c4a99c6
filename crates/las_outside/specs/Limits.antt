-- Limits of what is asked of the product, each defined here alone.
use Rattle.std.specs.Prelude.{ℕ, ◌≤◌}

-- how many workers there may be
abbrev pub AreWorkers : (workers : ℕ) → Type 0
AreWorkers workers = (1 ≤ workers) × (workers ≤ 8)
