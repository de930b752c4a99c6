use Rattle.std.proofs.Common.{get_or, None, sym, ◌∙◌, ap}
use Rattle.std.specs.Str.{bytes_eq}
use Rattle.las_words.specs.Texts.{texts}
use Rattle.las_words.specs.Settings.{value_by}
use Rattle.las_words.proofs.Gathered.{none_here, not_here, value_is}
use Rattle.las_words.proofs.options.Options.is_value.Goals as goal
use Rattle.las_words.proofs.options.Options.is_value.Goals.{else-eq-via-then-eq+else-eq-2, else-eq-via-else-eq}

pub loop-piece-preserved : goal.loop-piece-preserved
loop-piece-preserved c =
    let words = texts c.args.self.now.words.now in
    let pieces = c.args.self.now.pieces.now in
    let name = c.args.name.now in
    let text = c.args.text.now in
    let index = c.loop-piece.piece-index in
    let piece = get_or pieces index (record { at = 0; flag = None }) in
    elim c.else-eq.branch [
      | else-eq-via-then-eq+else-eq-2 w ↦
          not_here (bytes_eq text) (value_by words name) pieces index _ _ c.loop-piece-test.true
          (value_is words name piece _ _ _ c.word.ensures c.eq.ensures w.if-eq.true)
          (ap (bytes_eq text) (sym w.word-then-eq.ensures) ∙ sym w.eq-then-eq.ensures ∙ w.if-eq-2.false)
          ∙ c.loop-piece.invariant
      | else-eq-via-else-eq w ↦
          none_here (bytes_eq text) (value_by words name) pieces index _ c.loop-piece-test.true
          (value_is words name piece _ _ _ c.word.ensures c.eq.ensures w.if-eq.false)
          ∙ c.loop-piece.invariant
    ]
