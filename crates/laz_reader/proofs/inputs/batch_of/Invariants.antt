use Rattle.std.proofs.Common.{◌≡◌, ℕ, ◌<◌, ◌≤◌, true, get_or}
use Rattle.laz_chunk.specs.Layouts.{layout}
use Rattle.laz_reader.specs.Unpacking.{may_hold}
use Rattle.laz_reader.proofs.inputs.batch_of.Given as goal

abbrev pub invariant-loop-i : goal.invariant-loop-i
invariant-loop-i l =
    ((k : ℕ) → k < l.i → 1 ≤ get_or l.points k 0)
    × ((k : ℕ) → k < l.i → may_hold (layout l.job) (get_or l.points k 0) (get_or l.bytes k 0) ≡ true)
