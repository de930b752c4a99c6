use Rattle.std.proofs.lemmas.Result.{IfOk-from_err}
use Rattle.std.proofs.Common.{arith}
use Rattle.std.proofs.lemmas.Grind.{common_steps}
use Rattle.laz_reader.proofs.reading.read_part.Goals as goal

pub returns-clause-len : goal.returns-clause-len
returns-clause-len g c = grind (arith, common_steps)

pub returns-clause-bytes : goal.returns-clause-bytes
returns-clause-bytes g c = grind (arith, common_steps)

pub returns-in_err-resize-clause-len : goal.returns-in_err-resize-clause-len
returns-in_err-resize-clause-len g c = IfOk-from_err c.from_residual.result _ c.from_residual.ensures.0

pub returns-in_err-resize-clause-bytes : goal.returns-in_err-resize-clause-bytes
returns-in_err-resize-clause-bytes g c = IfOk-from_err c.from_residual.result _ c.from_residual.ensures.0

pub returns-in_err-resize-clause-calm : goal.returns-in_err-resize-clause-calm
returns-in_err-resize-clause-calm g c = IfOk-from_err c.from_residual.result _ c.from_residual.ensures.0
