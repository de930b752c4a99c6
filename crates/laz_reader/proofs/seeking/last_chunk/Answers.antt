use Rattle.std.proofs.Common.{arith}
use Rattle.std.proofs.lemmas.Grind.{common_steps}
use Rattle.laz_reader.proofs.seeking.last_chunk.Goals as goal

pub loop-i-preserved : goal.loop-i-preserved
loop-i-preserved c = grind (arith, common_steps)

pub returns-clause-order : goal.returns-clause-order
returns-clause-order c = grind (arith, common_steps)
