use Rattle.std.proofs.Common.{◌≡◌, ◌≤◌, length}
use Rattle.las_header.specs.Vlrs.{vlr_start}
use Rattle.las_header.proofs.vlrs.pass_the_end.Given as goal

abbrev pub invariant-vlrs : goal.invariant-vlrs
invariant-vlrs l = (l.at ≡ vlr_start l.i l.head) × (l.at ≤ length l.head)
