use Rattle.std.proofs.Common.{◌+◌, drop, sym, ◌∙◌, ap}
use Rattle.std.specs.Str.{bytes_eq}
use Rattle.las_words.specs.declared.pieces.Piece.{Piece}
use Rattle.las_words.specs.Texts.{texts}
use Rattle.las_words.specs.Tallies.{tally_in}
use Rattle.las_words.proofs.Gathered.{none_here, not_here, none_is, tally_is, word_after}
use Rattle.las_words.proofs.options.Options.is_tallied.Goals as goal
use Rattle.las_words.proofs.options.Options.is_tallied.Goals.{else-is_tally-via-then-is_tally+else-eq}
use Rattle.las_words.proofs.options.Options.is_tallied.Goals.{else-is_tally-via-else-is_tally}

pub loop-piece-preserved : goal.loop-piece-preserved
loop-piece-preserved c =
    let words = texts c.args.self.now.words.now in
    let pieces = c.args.self.now.pieces.now in
    elim c.else-is_tally.branch [
      | else-is_tally-via-then-is_tally+else-eq w ↦
          not_here (bytes_eq c.args.name.now) (λ (p : Piece). tally_in p.flag (drop (p.at + 1) words)) pieces
          c.loop-piece.piece-index _ _ c.loop-piece-test.true
          (tally_is _ _ (sym c.is_tally.ensures ∙ w.if-is_tally.true))
          (ap (bytes_eq c.args.name.now) (sym (w.word.ensures ∙ word_after words _)) ∙ sym w.eq.ensures ∙ w.if-eq.false)
          ∙ c.loop-piece.invariant
      | else-is_tally-via-else-is_tally w ↦
          none_here (bytes_eq c.args.name.now) (λ (p : Piece). tally_in p.flag (drop (p.at + 1) words)) pieces
          c.loop-piece.piece-index _ c.loop-piece-test.true
          (none_is _ _ (sym c.is_tally.ensures ∙ w.if-is_tally.false))
          ∙ c.loop-piece.invariant
    ]
