use Rattle.std.proofs.Common.{arith}
use Rattle.laz_reader.proofs.opening.table_size.Goals as goal

pub returns-clause-bounds : goal.returns-clause-bounds
returns-clause-bounds c = omega arith

pub returns-clause-size : goal.returns-clause-size
returns-clause-size c = omega arith
