use Rattle.std.proofs.lemmas.Result.{IfOk-from_err}
use Rattle.las_words.specs.Texts.{texts}
use Rattle.las_words.proofs.Commands.{reports}
use Rattle.las_words.proofs.read.lasinfo_of.Goals as goal

pub returns-in_err-copy_of : goal.returns-in_err-copy_of
returns-in_err-copy_of c = IfOk-from_err c.from_residual.result _ c.from_residual.ensures.0

pub returns-in_err-tallies_of : goal.returns-in_err-tallies_of
returns-in_err-tallies_of c =
    IfOk-from_err c.from_residual-in_err-tallies_of.result _ c.from_residual-in_err-tallies_of.ensures.0

pub returns : goal.returns
returns c =
    reports (texts c.args.options.now.words.now) c.args.options.now.pieces.now c.in_ok-copy_of.field-0 c.in_ok-tallies_of.field-0 _
    c.in_ok-copy_of.ensures c.in_ok-tallies_of.ensures c.workers_of.ensures
