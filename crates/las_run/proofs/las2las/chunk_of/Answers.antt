use Rattle.std.proofs.Common.{rules}
use Rattle.las_run.proofs.las2las.chunk_of.Goals as goal

pub returns-then-packing-clause-chunk : goal.returns-then-packing-clause-chunk
returns-then-packing-clause-chunk c = search rules
