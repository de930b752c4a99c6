use Rattle.std.proofs.Common.{◌≡◌, ◌++◌, take, drop}
use Rattle.laz_models.specs.Counting.{halves_of}
use Rattle.laz_models.proofs.model_cells.halve.Given as goal

abbrev pub invariant-loop-count : goal.invariant-loop-count
invariant-loop-count l = l.counts ≡ halves_of (take l.count-index l.fn.counts) ++ drop l.count-index l.fn.counts
