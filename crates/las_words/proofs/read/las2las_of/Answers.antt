use Rattle.std.proofs.lemmas.Result.{IfOk-from_err}
use Rattle.las_words.specs.Texts.{texts}
use Rattle.las_words.proofs.Commands.{converts}
use Rattle.las_words.proofs.read.las2las_of.Goals as goal

pub returns-in_err-copy_of : goal.returns-in_err-copy_of
returns-in_err-copy_of c = IfOk-from_err c.from_residual.result _ c.from_residual.ensures.0

pub returns-in_err-copy_of-2 : goal.returns-in_err-copy_of-2
returns-in_err-copy_of-2 c =
    IfOk-from_err c.from_residual-in_err-copy_of-2.result _ c.from_residual-in_err-copy_of-2.ensures.0

pub returns-in_err-plan_of : goal.returns-in_err-plan_of
returns-in_err-plan_of c =
    IfOk-from_err c.from_residual-in_err-plan_of.result _ c.from_residual-in_err-plan_of.ensures.0

pub returns-in_err-tallies_of : goal.returns-in_err-tallies_of
returns-in_err-tallies_of c =
    IfOk-from_err c.from_residual-in_err-tallies_of.result _ c.from_residual-in_err-tallies_of.ensures.0

pub returns : goal.returns
returns c =
    converts (texts c.args.options.now.words.now) c.args.options.now.pieces.now c.in_ok-copy_of.field-0 c.in_ok-copy_of-2.field-0
    c.in_ok-plan_of.field-0 c.packing_of.result _ _ _ _ _ _ c.in_ok-tallies_of.field-0
    c.in_ok-copy_of.ensures c.in_ok-copy_of-2.ensures c.in_ok-plan_of.ensures c.packing_of.ensures.packed
    c.packing_of.ensures.chunk c.workers_of.ensures
    c.start_of.ensures c.stop_of.ensures c.step_of.ensures c.pick_of.ensures c.is_given.ensures
    c.in_ok-tallies_of.ensures
