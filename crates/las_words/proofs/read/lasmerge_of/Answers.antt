use Rattle.std.proofs.lemmas.Result.{IfOk-from_err}
use Rattle.las_words.specs.Texts.{texts}
use Rattle.las_words.proofs.Commands.{merges}
use Rattle.las_words.proofs.read.lasmerge_of.Goals as goal

pub returns-in_err-copy_of : goal.returns-in_err-copy_of
returns-in_err-copy_of c = IfOk-from_err c.from_residual.result _ c.from_residual.ensures.0

pub returns-in_err-texts_of : goal.returns-in_err-texts_of
returns-in_err-texts_of c =
    IfOk-from_err c.from_residual-in_err-texts_of.result _ c.from_residual-in_err-texts_of.ensures.0

pub returns : goal.returns
returns c =
    merges (texts c.args.options.now.words.now) c.args.options.now.pieces.now c.in_ok-texts_of.field-0 c.in_ok-copy_of.field-0
    c.packing_of.result _ _
    c.in_ok-texts_of.ensures c.in_ok-copy_of.ensures c.packing_of.ensures.packed c.packing_of.ensures.chunk
    c.workers_of.ensures c.is_given.ensures
