use Rattle.std.proofs.Common.{◌≡◌}
use Rattle.las_header.specs.Vlrs.{vlr_start, first_vlrs}
use Rattle.las_header.proofs.vlrs.places.Given as goal

abbrev pub invariant-vlrs : goal.invariant-vlrs
invariant-vlrs l = (l.at ≡ vlr_start l.i l.head) × (l.places.items ≡ first_vlrs l.i l.head)
