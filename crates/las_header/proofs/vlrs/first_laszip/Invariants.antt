use Rattle.std.proofs.Common.{◌≡◌, []}
use Rattle.las_header.specs.Vlrs.{vlr_start}
use Rattle.las_header.proofs.VlrLemmas.{laszips}
use Rattle.las_header.proofs.vlrs.first_laszip.Given as goal

abbrev pub invariant-vlrs : goal.invariant-vlrs
invariant-vlrs l = (l.at ≡ vlr_start l.i l.head) × (laszips l.i l.head ≡ [])
