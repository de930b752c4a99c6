use Rattle.std.proofs.Common.{ap, arith, ◌∙◌}
use Rattle.las_points.specs.Record.{y_of}
use Rattle.las_points.proofs.Signed.{signed_again}
use Rattle.las_points.proofs.write.set_y.Goals as goal

pub returns-clause-value : goal.returns-clause-value
returns-clause-value c =
    ap y_of c.set_u32_at.ensures
    ∙ signed_again 4 c.args.value c.cast_unsigned.result c.args.point.now (omega arith) (omega arith) c.ranges.value c.cast_unsigned.ensures
