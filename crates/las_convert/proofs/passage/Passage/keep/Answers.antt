use Rattle.std.proofs.lemmas.Result.{IfOk-from_err}
use Rattle.las_convert.proofs.passage.Passage.keep.Goals as goal

pub returns-in_err-grow-clause-within : goal.returns-in_err-grow-clause-within
returns-in_err-grow-clause-within g c = IfOk-from_err c.from_residual.result _ c.from_residual.ensures.0

pub returns-in_err-grow-clause-long : goal.returns-in_err-grow-clause-long
returns-in_err-grow-clause-long g c = IfOk-from_err c.from_residual.result _ c.from_residual.ensures.0

pub returns-in_err-grow-clause-read : goal.returns-in_err-grow-clause-read
returns-in_err-grow-clause-read g c = IfOk-from_err c.from_residual.result _ c.from_residual.ensures.0

pub returns-in_err-grow-clause-kept : goal.returns-in_err-grow-clause-kept
returns-in_err-grow-clause-kept g c looked before is = IfOk-from_err c.from_residual.result _ c.from_residual.ensures.0

pub returns-in_err-grow-clause-after : goal.returns-in_err-grow-clause-after
returns-in_err-grow-clause-after g c looked before is = IfOk-from_err c.from_residual.result _ c.from_residual.ensures.0

pub returns-in_err-part-clause-within : goal.returns-in_err-part-clause-within
returns-in_err-part-clause-within g c =
    IfOk-from_err c.from_residual-in_err-part.result _ c.from_residual-in_err-part.ensures.0

pub returns-in_err-part-clause-long : goal.returns-in_err-part-clause-long
returns-in_err-part-clause-long g c =
    IfOk-from_err c.from_residual-in_err-part.result _ c.from_residual-in_err-part.ensures.0

pub returns-in_err-part-clause-read : goal.returns-in_err-part-clause-read
returns-in_err-part-clause-read g c =
    IfOk-from_err c.from_residual-in_err-part.result _ c.from_residual-in_err-part.ensures.0

pub returns-in_err-part-clause-kept : goal.returns-in_err-part-clause-kept
returns-in_err-part-clause-kept g c looked before is =
    IfOk-from_err c.from_residual-in_err-part.result _ c.from_residual-in_err-part.ensures.0

pub returns-in_err-part-clause-after : goal.returns-in_err-part-clause-after
returns-in_err-part-clause-after g c looked before is =
    IfOk-from_err c.from_residual-in_err-part.result _ c.from_residual-in_err-part.ensures.0
