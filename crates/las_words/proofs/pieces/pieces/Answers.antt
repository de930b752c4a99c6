use Rattle.std.proofs.Common.{◌≡◌, ◌++◌, ◌+◌, [], ◌∷◌, drop, Option, ◌∙◌, ap}
use Rattle.las_words.specs.declared.table.Flag.{Flag}
use Rattle.las_words.specs.Texts.{texts, word_at}
use Rattle.las_words.specs.Table.{flag_named}
use Rattle.las_words.specs.Pieces.{values_after}
use Rattle.las_words.proofs.Cutting.{value_next, option_next, within_more, within_still, piece_at}
use Rattle.las_words.proofs.pieces.pieces.Goals as goal
use Rattle.las_words.proofs.pieces.pieces.Goals.{then-skip-gt0, else-skip-gt0+in_ok-push}

pub loop-at-preserved : goal.loop-at-preserved
loop-at-preserved c = elim c.if-skip-gt0.branch [
  | then-skip-gt0 w ↦ let same : c.if-skip-gt0.pieces.items ≡ c.loop-at.pieces.items = ap (λ v. v.items) w.pieces-is in record {
    cut = value_next c.args.tool c.loop-at.at c.loop-at.skip c.if-skip-gt0.skip c.args.words.now _ _ _ w.if-skip-gt0.true c.loop-at-test.true w.skip-is same c.loop-at.invariant.cut;
    within = within_still _ _ _ same c.loop-at.invariant.within;
  }
  | else-skip-gt0+in_ok-push w ↦
      let flag : w.flag-flag.result ≡ flag_named c.args.tool (word_at (texts c.args.words.now) c.loop-at.at) = w.flag-flag.ensures ∙ ap (flag_named c.args.tool) w.word.ensures in
      let more : c.if-skip-gt0.pieces.items ≡ c.loop-at.pieces.items ++ piece_at c.args.tool c.loop-at.at (texts c.args.words.now) ∷ [] =
      ap (λ v. v.items) w.pieces-is ∙ w.in_ok-push.ensures.items ∙ ap (λ (f : Option Flag). c.loop-at.pieces.items ++ record { at = c.loop-at.at; flag = f } ∷ []) flag in
      let values : c.if-skip-gt0.skip ≡ values_after (flag_named c.args.tool (word_at (texts c.args.words.now) c.loop-at.at)) (drop (c.loop-at.at + 1) (texts c.args.words.now)) =
      w.skip-is ∙ w.count_after-skip.ensures ∙ ap (values_after w.flag-flag.result) w.words_from.ensures ∙ ap (λ (f : Option Flag). values_after f (drop (c.loop-at.at + 1) (texts c.args.words.now))) flag in
      record {
        cut = option_next c.args.tool c.loop-at.at c.loop-at.skip c.if-skip-gt0.skip c.args.words.now _ _ _ w.if-skip-gt0.false c.loop-at-test.true values more c.loop-at.invariant.cut;
        within = within_more _ _ _ _ more c.loop-at.invariant.within c.loop-at-test.true;
      }
]
