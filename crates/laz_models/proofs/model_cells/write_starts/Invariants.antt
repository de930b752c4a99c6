use Rattle.std.proofs.Common.{◌≡◌, ℕ, ◌<◌, get_or, take, sum}
use Rattle.laz_models.specs.Counting.{part_start}
use Rattle.laz_models.proofs.model_cells.write_starts.Given as goal

abbrev pub invariant-loop-i : goal.invariant-loop-i
invariant-loop-i l = (l.below ≡ sum (take l.i l.counts)) × ((k : ℕ) → k < l.i → get_or l.starts k 0 ≡ part_start l.counts k)
