use Rattle.std.proofs.Common.{◌≡◌, ℕ, Some, sym, ◌∙◌, ap}
use Rattle.las_words.specs.Texts.{texts}
use Rattle.las_words.specs.Table.{tool_named}
use Rattle.las_words.specs.Says.{usage, wrong_word, asked_of}
use Rattle.las_words.proofs.Saying.{no_tool, wrong, accepted, sound}
use Rattle.las_words.proofs.read.read.Goals as goal

pub returns-in_default-clause-usage : goal.returns-in_default-clause-usage
returns-in_default-clause-usage c = λ index is.
    let same : 0 ≡ index = cc in
    no_tool (texts c.args.names.now) (texts c.args.words.now) (ap tool_named (sym c.word.ensures) ∙ sym c.named.ensures ∙ c.in_default.is) ∙ ap usage same

pub returns-in-Some-2-clause-usage : goal.returns-in-Some-2-clause-usage
returns-in-Some-2-clause-usage c = λ index is.
    let same : c.in-Some-2.index ≡ index = cc in
    wrong (texts c.args.names.now) (texts c.args.words.now) c.in-Some.tool c.in_ok-pieces.pieces.items index
    (ap tool_named (sym c.word.ensures) ∙ sym c.named.ensures ∙ c.in-Some.is) c.in_ok-pieces.ensures.pieces
    (ap (wrong_word (texts c.args.names.now) c.in-Some.tool (texts c.args.words.now)) (sym c.deref.ensures.value) ∙ sym c.in_ok-index.ensures ∙ c.in-Some-2.is ∙ ap (λ (n : ℕ). Some n) same)

pub returns-clause-command : goal.returns-clause-command
returns-clause-command c =
    accepted (texts c.args.names.now) (texts c.args.words.now) c.in-Some.tool c.in_ok-pieces.pieces.items _
    (ap tool_named (sym c.word.ensures) ∙ sym c.named.ensures ∙ c.in-Some.is) c.in_ok-pieces.ensures.pieces
    (ap (wrong_word (texts c.args.names.now) c.in-Some.tool (texts c.args.words.now)) (sym c.deref.ensures.value) ∙ sym c.in_ok-index.ensures ∙ c.in_default-2.is)
    (c.in_ok-command_of.ensures ∙ ap (asked_of c.in-Some.tool (texts c.args.words.now)) c.deref.ensures.value)

pub returns-clause-sound : goal.returns-clause-sound
returns-clause-sound c =
    sound (texts c.args.names.now) (texts c.args.words.now) c.in-Some.tool c.in_ok-pieces.pieces.items _ c.in_ok-pieces.ensures.pieces
    (ap (wrong_word (texts c.args.names.now) c.in-Some.tool (texts c.args.words.now)) (sym c.deref.ensures.value) ∙ sym c.in_ok-index.ensures ∙ c.in_default-2.is)
    (c.in_ok-command_of.ensures ∙ ap (asked_of c.in-Some.tool (texts c.args.words.now)) c.deref.ensures.value)
