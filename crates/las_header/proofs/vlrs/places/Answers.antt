use Rattle.std.proofs.Common.{arith}
use Rattle.las_header.proofs.VlrLemmas.{place_fits}
use Rattle.las_header.proofs.vlrs.places.Goals as goal

pub place_at-place-requires-clause-within : goal.place_at-place-requires-clause-within
place_at-place-requires-clause-within c = place_fits c.vlrs.i c.vlrs.at c.args.head.now (omega arith) c.vlrs.invariant.0 c.requires.vlrs
