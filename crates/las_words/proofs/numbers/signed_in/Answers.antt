use Rattle.std.proofs.Common.{◌∙◌, ap, sym}
use Rattle.las_words.specs.Numbers.{is_number, without_minus}
use Rattle.las_words.proofs.Parsing.{signed_number}
use Rattle.las_words.proofs.numbers.signed_in.Goals as goal

pub returns : goal.returns
returns c = c.ok.ensures.value ∙ signed_number c.args.word.now c.parse.result c.parse.ensures.value.0 (ap is_number (ap without_minus (sym c.as_bytes.ensures.value) ∙ sym c.without_minus.ensures) ∙ sym c.is_number.ensures ∙ c.if-not-is_number.false)
