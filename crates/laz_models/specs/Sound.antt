-- What holds of every model of symbols, whatever it has counted.
use Rattle.std.specs.Prelude.{ℕ, ◌+◌, ◌*◌, ◌<◌, ◌≤◌, List, length, sum}
use Rattle.laz_models.specs.Counting.{Counting, AreCounts, AreStarts}
use Rattle.laz_models.specs.Dist.{alphabet_size}
use Rattle.laz_models.specs.Bank.{model_at}
use Rattle.laz_models.specs.declared.limits.TheConstants.{MAX_COUNT}

-- Each count is at least 1, no part is empty, and the counts stay small.
pub record IsSound (m : Counting) : Type 0 where
  pub counts : AreCounts m.counts
  pub starts : AreStarts (alphabet_size m) m.starts
  pub sum : sum m.counts + m.remaining ≤ MAX_COUNT + m.cycle
  pub some : 1 ≤ m.remaining
  pub within : m.remaining ≤ m.cycle
  pub four : 4 ≤ m.cycle
  pub cycle : m.cycle ≤ 8 * (alphabet_size m + 6)

-- Each model of a bank is sound.
abbrev pub AreSound : List Counting → Type 0
AreSound bank = (i : ℕ) → i < length bank → IsSound (model_at bank i)
