use Rattle.std.proofs.lemmas.Result.{IfOk-from_err}
use Rattle.std.proofs.Common.{arith}
use Rattle.std.proofs.lemmas.Grind.{common_steps}
use Rattle.laz_reader.proofs.inputs.read_input.Goals as goal

pub returns-clause-shape : goal.returns-clause-shape
returns-clause-shape g c = grind (arith, common_steps)

pub returns-clause-known : goal.returns-clause-known
returns-clause-known g c = grind (arith, common_steps)

pub returns-in_err-resize-clause-shape : goal.returns-in_err-resize-clause-shape
returns-in_err-resize-clause-shape g c = IfOk-from_err c.from_residual.result _ c.from_residual.ensures.0

pub returns-in_err-resize-clause-known : goal.returns-in_err-resize-clause-known
returns-in_err-resize-clause-known g c = IfOk-from_err c.from_residual.result _ c.from_residual.ensures.0

pub returns-in_err-resize-clause-calm : goal.returns-in_err-resize-clause-calm
returns-in_err-resize-clause-calm g c = IfOk-from_err c.from_residual.result _ c.from_residual.ensures.0
