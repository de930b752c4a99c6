use Rattle.std.proofs.Common.{◌+◌, ◌++◌, [], ◌∷◌, drop, Some, None, sym, ◌∙◌, ap, append-nil}
use Rattle.las_words.specs.declared.pieces.Piece.{Piece}
use Rattle.las_words.specs.Texts.{texts}
use Rattle.las_words.specs.Tallies.{tally_in, tallies_of}
use Rattle.las_words.proofs.Gathered.{gathered, none_is, tally_is, word_after}
use Rattle.las_words.proofs.options.Options.tallies_of.Goals as goal
use Rattle.las_words.proofs.options.Options.tallies_of.Goals.{then-is_tally+in_ok-push_word, else-is_tally}

pub loop-piece-preserved : goal.loop-piece-preserved
loop-piece-preserved c =
    let words = texts c.args.self.now.words.now in
    let pieces = c.args.self.now.pieces.now in
    let found = texts c.loop-piece.tallies.items in
    let now = texts c.if-is_tally.tallies.items in
    let all = tallies_of words pieces in
    elim c.if-is_tally.branch [
      | then-is_tally+in_ok-push_word w ↦
          gathered (λ (p : Piece). tally_in p.flag (drop (p.at + 1) words)) pieces c.loop-piece.piece-index _ (Some _)
          found now all c.loop-piece-test.true
          (tally_is _ _ (sym c.is_tally.ensures ∙ w.if-is_tally.true))
          (ap (λ v. texts v.items) w.tallies-is ∙ w.in_ok-push_word.ensures ∙
          ap (λ t. found ++ t ∷ []) (word_after words _))
          c.loop-piece.invariant
      | else-is_tally w ↦
          gathered (λ (p : Piece). tally_in p.flag (drop (p.at + 1) words)) pieces c.loop-piece.piece-index _ None found
          now all c.loop-piece-test.true
          (none_is _ _ (sym c.is_tally.ensures ∙ w.if-is_tally.false))
          (ap (λ v. texts v.items) w.tallies-is ∙ sym (append-nil found))
          c.loop-piece.invariant
    ]
