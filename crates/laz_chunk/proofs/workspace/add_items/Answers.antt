use Rattle.std.proofs.lemmas.Result.{IfOk-from_err}
use Rattle.laz_chunk.proofs.workspace.add_items.Goals as goal

pub returns-in_err-new : goal.returns-in_err-new
returns-in_err-new c = IfOk-from_err c.from_residual.result _ c.from_residual.ensures.0

pub returns-in_err-new-2 : goal.returns-in_err-new-2
returns-in_err-new-2 c = IfOk-from_err c.from_residual-in_err-new-2.result _ c.from_residual-in_err-new-2.ensures.0

pub returns-in_err-new-3 : goal.returns-in_err-new-3
returns-in_err-new-3 c = IfOk-from_err c.from_residual-in_err-new-3.result _ c.from_residual-in_err-new-3.ensures.0
