use Rattle.std.proofs.Common.{◌≡◌, take}
use Rattle.las_info.specs.Cells.{bins_from}
use Rattle.las_info.proofs.tally.rows_of.Given as goal

abbrev pub invariant-loop-i : goal.invariant-loop-i
invariant-loop-i l = l.rows.items ≡ bins_from 0 (take l.i l.counts)
