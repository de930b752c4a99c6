use Rattle.std.proofs.Common.{ap, arith, ◌∙◌}
use Rattle.las_points.specs.Record.{x_of}
use Rattle.las_points.proofs.Signed.{signed_again}
use Rattle.las_points.proofs.write.set_x.Goals as goal

pub returns-clause-value : goal.returns-clause-value
returns-clause-value c =
    ap x_of c.set_u32_at.ensures
    ∙ signed_again 0 c.args.value c.cast_unsigned.result c.args.point.now (omega arith) (omega arith) c.ranges.value c.cast_unsigned.ensures
