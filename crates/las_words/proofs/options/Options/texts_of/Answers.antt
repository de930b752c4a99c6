use Rattle.std.proofs.Common.{get_or, Some, None, sym, ◌∙◌, ap, append-nil}
use Rattle.las_words.specs.Texts.{texts}
use Rattle.las_words.specs.Settings.{texts_of, value_by}
use Rattle.las_words.proofs.Gathered.{gathered, value_is}
use Rattle.las_words.proofs.options.Options.texts_of.Goals as goal
use Rattle.las_words.proofs.options.Options.texts_of.Goals.{then-eq+in_ok-push_word, else-eq}

pub loop-piece-preserved : goal.loop-piece-preserved
loop-piece-preserved c =
    let words = texts c.args.self.now.words.now in
    let pieces = c.args.self.now.pieces.now in
    let name = c.args.name.now in
    let piece = get_or pieces c.loop-piece.piece-index (record { at = 0; flag = None }) in
    let found = texts c.loop-piece.found.items in
    let now = texts c.if-eq.found.items in
    let all = texts_of words name pieces in
    elim c.if-eq.branch [
      | then-eq+in_ok-push_word w ↦
          gathered (value_by words name) pieces c.loop-piece.piece-index _ (Some _) found now all c.loop-piece-test.true
          (value_is words name piece _ _ _ c.word.ensures c.eq.ensures w.if-eq.true)
          (ap (λ v. texts v.items) w.found-is ∙ w.in_ok-push_word.ensures)
          c.loop-piece.invariant
      | else-eq w ↦
          gathered (value_by words name) pieces c.loop-piece.piece-index _ None found now all c.loop-piece-test.true
          (value_is words name piece _ _ _ c.word.ensures c.eq.ensures w.if-eq.false)
          (ap (λ v. texts v.items) w.found-is ∙ sym (append-nil found))
          c.loop-piece.invariant
    ]
