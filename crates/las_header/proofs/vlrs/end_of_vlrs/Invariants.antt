use Rattle.std.proofs.Common.{◌≡◌}
use Rattle.las_header.specs.Vlrs.{vlr_start}
use Rattle.las_header.proofs.vlrs.end_of_vlrs.Given as goal

abbrev pub invariant-vlrs : goal.invariant-vlrs
invariant-vlrs l = l.at ≡ vlr_start l.i l.head
