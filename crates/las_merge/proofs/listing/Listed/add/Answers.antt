use Rattle.std.proofs.Common.{◌∙◌}
use Rattle.std.proofs.lemmas.Result.{IfOk-from_err}
use Rattle.las_merge.proofs.listing.Listed.add.Goals as goal

pub returns-in_err-source-clause-inputs : goal.returns-in_err-source-clause-inputs
returns-in_err-source-clause-inputs c = IfOk-from_err c.from_residual.result _ c.from_residual.ensures.0

pub returns-in_err-source-clause-sources : goal.returns-in_err-source-clause-sources
returns-in_err-source-clause-sources c = IfOk-from_err c.from_residual.result _ c.from_residual.ensures.0

pub returns-in_err-source-clause-added : goal.returns-in_err-source-clause-added
returns-in_err-source-clause-added c = IfOk-from_err c.from_residual.result _ c.from_residual.ensures.0

pub returns-in_err-source-clause-few : goal.returns-in_err-source-clause-few
returns-in_err-source-clause-few c = IfOk-from_err c.from_residual.result _ c.from_residual.ensures.0

pub returns-in_err-add-clause-inputs : goal.returns-in_err-add-clause-inputs
returns-in_err-add-clause-inputs c = IfOk-from_err c.from_residual-in_err-add.result _ c.from_residual-in_err-add.ensures.0

pub returns-in_err-add-clause-sources : goal.returns-in_err-add-clause-sources
returns-in_err-add-clause-sources c = IfOk-from_err c.from_residual-in_err-add.result _ c.from_residual-in_err-add.ensures.0

pub returns-in_err-add-clause-added : goal.returns-in_err-add-clause-added
returns-in_err-add-clause-added c = IfOk-from_err c.from_residual-in_err-add.result _ c.from_residual-in_err-add.ensures.0

pub returns-in_err-add-clause-few : goal.returns-in_err-add-clause-few
returns-in_err-add-clause-few c = IfOk-from_err c.from_residual-in_err-add.result _ c.from_residual-in_err-add.ensures.0

pub returns-in_err-name-clause-inputs : goal.returns-in_err-name-clause-inputs
returns-in_err-name-clause-inputs c = IfOk-from_err c.from_residual-in_err-name.result _ c.from_residual-in_err-name.ensures.0

pub returns-in_err-name-clause-sources : goal.returns-in_err-name-clause-sources
returns-in_err-name-clause-sources c = IfOk-from_err c.from_residual-in_err-name.result _ c.from_residual-in_err-name.ensures.0

pub returns-in_err-name-clause-added : goal.returns-in_err-name-clause-added
returns-in_err-name-clause-added c = IfOk-from_err c.from_residual-in_err-name.result _ c.from_residual-in_err-name.ensures.0

pub returns-in_err-name-clause-few : goal.returns-in_err-name-clause-few
returns-in_err-name-clause-few c = IfOk-from_err c.from_residual-in_err-name.result _ c.from_residual-in_err-name.ensures.0

pub returns-in-Ok-push-clause-few : goal.returns-in-Ok-push-clause-few
returns-in-Ok-push-clause-few c = c.in_ok-add.ensures.few

pub returns-in-Ok-push-clause-added : goal.returns-in-Ok-push-clause-added
returns-in-Ok-push-clause-added c =
    let counts = c.deref-2.ensures.value ∙ c.into_chunks-head.ensures.points in
    let sizes = c.deref-3.ensures.value ∙ c.into_chunks-head.ensures.bytes in
    rw (← counts, ← sizes) c.in_ok-add.ensures.added
