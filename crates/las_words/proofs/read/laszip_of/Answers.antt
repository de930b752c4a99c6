use Rattle.std.proofs.lemmas.Result.{IfOk-from_err}
use Rattle.las_words.specs.Texts.{texts}
use Rattle.las_words.proofs.Commands.{packs}
use Rattle.las_words.proofs.read.laszip_of.Goals as goal

pub returns-in_err-copy_of : goal.returns-in_err-copy_of
returns-in_err-copy_of c = IfOk-from_err c.from_residual.result _ c.from_residual.ensures.0

pub returns-in_err-copy_of-2 : goal.returns-in_err-copy_of-2
returns-in_err-copy_of-2 c =
    IfOk-from_err c.from_residual-in_err-copy_of-2.result _ c.from_residual-in_err-copy_of-2.ensures.0

pub returns : goal.returns
returns c =
    packs (texts c.args.options.now.words.now) c.args.options.now.pieces.now c.in_ok-copy_of.field-0 c.in_ok-copy_of-2.field-0 _ _
    c.in_ok-copy_of.ensures c.in_ok-copy_of-2.ensures c.chunk_of.ensures c.workers_of.ensures
