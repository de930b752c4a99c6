use Rattle.std.proofs.lemmas.Result.{IfOk-from_err}
use Rattle.las_merge.proofs.opening.open_next.Goals as goal

pub returns-in_err-input-clause-opened : goal.returns-in_err-input-clause-opened
returns-in_err-input-clause-opened g c = IfOk-from_err c.from_residual.result _ c.from_residual.ensures.0

pub returns-in_err-input-clause-calm : goal.returns-in_err-input-clause-calm
returns-in_err-input-clause-calm g c = IfOk-from_err c.from_residual.result _ c.from_residual.ensures.0

pub returns-in_err-input-clause-reads : goal.returns-in_err-input-clause-reads
returns-in_err-input-clause-reads g c = c.open_input.ensures.reads

pub returns-in_err-input-clause-asked : goal.returns-in_err-input-clause-asked
returns-in_err-input-clause-asked g c = c.open_input.ensures.asked
