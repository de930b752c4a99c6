use Rattle.std.proofs.Common.{◌∙◌, ap}
use Rattle.las_words.specs.Names.{extension_of, stem_of}
use Rattle.las_words.specs.Texts.{texts}
use Rattle.las_words.proofs.Commands.{splits}
use Rattle.std.proofs.lemmas.Result.{IfOk-from_err}
use Rattle.las_words.proofs.read.lassplit_of.Goals as goal

pub returns-in_err-copy_of : goal.returns-in_err-copy_of
returns-in_err-copy_of c = IfOk-from_err c.from_residual.result _ c.from_residual.ensures.0

pub returns-in_err-from_str : goal.returns-in_err-from_str
returns-in_err-from_str c =
    IfOk-from_err c.from_residual-in_err-from_str.result _ c.from_residual-in_err-from_str.ensures.0

pub returns-in_err-from_str-2 : goal.returns-in_err-from_str-2
returns-in_err-from_str-2 c =
    IfOk-from_err c.from_residual-in_err-from_str-2.result _ c.from_residual-in_err-from_str-2.ensures.0

pub returns : goal.returns
returns c =
    let output = c.text_of-output.ensures in
    splits (texts c.args.options.now.words.now) c.args.options.now.pieces.now c.in_ok-copy_of.field-0 c.in_ok-from_str.field-0
    c.in_ok-from_str-2.field-0 _ _ c.in_ok-copy_of.ensures
    (c.in_ok-from_str.ensures.ok ∙ c.stem_of.ensures ∙ ap stem_of output) (c.in_ok-from_str-2.ensures.ok ∙
    c.end_of.ensures ∙ ap extension_of output)
    c.rule_of.ensures c.workers_of.ensures
