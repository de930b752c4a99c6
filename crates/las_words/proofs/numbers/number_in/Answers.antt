use Rattle.std.proofs.Common.{arith, ap, sym, ◌∙◌}
use Rattle.las_words.specs.Numbers.{is_number}
use Rattle.las_words.proofs.Parsing.{no_number}
use Rattle.las_words.proofs.numbers.number_in.Goals as goal

pub returns-in_default-3 : goal.returns-in_default-3
returns-in_default-3 c = no_number c.args.low c.args.high c.args.word.now c.parse.result c.in_default.field-0 c.parse.ensures.value.0 c.in_default.is (ap is_number (sym c.as_bytes.ensures.value) ∙ sym c.is_number.ensures ∙ c.if-not-is_number.false) (omega arith)
