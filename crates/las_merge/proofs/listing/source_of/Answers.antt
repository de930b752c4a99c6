use Rattle.std.proofs.lemmas.Result.{IfOk-from_err}
use Rattle.las_merge.proofs.listing.source_of.Goals as goal

pub returns-in_err-name : goal.returns-in_err-name
returns-in_err-name c = IfOk-from_err c.from_residual.result _ c.from_residual.ensures.0
