use Rattle.std.proofs.Common.{ap, arith, ◌∙◌}
use Rattle.las_header.proofs.Public.{number_at-with_number_at}
use Rattle.las_points.specs.Record.{source_of}
use Rattle.las_points.proofs.write.set_source.Goals as goal

pub returns-clause-value : goal.returns-clause-value
returns-clause-value c =
    ap source_of c.set_u16_at.ensures ∙ number_at-with_number_at 2 18 c.args.value c.args.point.now (omega arith) (omega arith)
