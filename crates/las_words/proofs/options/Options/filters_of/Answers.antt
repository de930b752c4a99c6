use Rattle.std.proofs.Common.{◌≡◌, ◌+◌, ◌++◌, [], ◌∷◌, drop, Some, None, sym, ◌∙◌, ap, append-nil}
use Rattle.las_words.specs.declared.pieces.Piece.{Piece}
use Rattle.las_words.specs.Texts.{texts}
use Rattle.las_words.specs.Plans.{filter_in, filters_of}
use Rattle.las_words.proofs.Gathered.{gathered}
use Rattle.las_words.proofs.options.Options.filters_of.Goals as goal
use Rattle.las_words.proofs.options.Options.filters_of.Goals.{in-Some+in_ok-push, in_default}

pub loop-piece-preserved : goal.loop-piece-preserved
loop-piece-preserved c =
    let words = texts c.args.self.now.words.now in
    let pieces = c.args.self.now.pieces.now in
    let found = c.loop-piece.keeps.items in
    let now = c.match-filter_in.keeps.items in
    let all = filters_of words pieces in
    elim c.match-filter_in.branch [
      | in-Some+in_ok-push w ↦
          let more : now ≡ found ++ w.in-Some.keep ∷ [] = ap (λ v. v.items) w.keeps-is ∙ w.in_ok-push.ensures.items in
          gathered (λ (p : Piece). filter_in p.flag (drop (p.at + 1) words)) pieces c.loop-piece.piece-index _
          (Some w.in-Some.keep) found now all c.loop-piece-test.true (ap (filter_in _) (sym c.words_from.ensures) ∙
          sym c.filter_in.ensures ∙ w.in-Some.is) more c.loop-piece.invariant
      | in_default w ↦
          let same : now ≡ found = ap (λ v. v.items) w.keeps-is in
          gathered (λ (p : Piece). filter_in p.flag (drop (p.at + 1) words)) pieces c.loop-piece.piece-index _ None
          found now all c.loop-piece-test.true (ap (filter_in _) (sym c.words_from.ensures) ∙
          sym c.filter_in.ensures ∙ w.in_default.is) (same ∙ sym (append-nil found)) c.loop-piece.invariant
    ]
