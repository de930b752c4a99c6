use Rattle.std.proofs.Common.{arith}
use Rattle.las_make.proofs.Placed.{extra_next}
use Rattle.las_make.proofs.records.put_extra.Goals as goal

pub loop-j-preserved : goal.loop-j-preserved
loop-j-preserved c = extra_next c.args.at c.loop-j.j c.args.k c.args.place.now c.loop-j.place (omega arith) c.loop-j.invariant
