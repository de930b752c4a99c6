use Rattle.std.proofs.Common.{◌≡◌, ◌+◌, ◌++◌, [], ◌∷◌, drop, Some, None, sym, ◌∙◌, ap, append-nil}
use Rattle.las_words.specs.declared.pieces.Piece.{Piece}
use Rattle.las_words.specs.Texts.{texts}
use Rattle.las_words.specs.Plans.{change_in, changes_given}
use Rattle.las_words.proofs.Gathered.{gathered}
use Rattle.las_words.proofs.options.Options.changes_of.Goals as goal
use Rattle.las_words.proofs.options.Options.changes_of.Goals.{in-Some+in_ok-push, in_default}

pub loop-piece-preserved : goal.loop-piece-preserved
loop-piece-preserved c =
    let words = texts c.args.self.now.words.now in
    let pieces = c.args.self.now.pieces.now in
    let found = c.loop-piece.changes.items in
    let now = c.match-change_in.changes.items in
    let all = changes_given words pieces in
    elim c.match-change_in.branch [
      | in-Some+in_ok-push w ↦
          let more : now ≡ found ++ w.in-Some.change ∷ [] =
          ap (λ v. v.items) w.changes-is ∙ w.in_ok-push.ensures.items in
          gathered (λ (p : Piece). change_in p.flag (drop (p.at + 1) words)) pieces c.loop-piece.piece-index _
          (Some w.in-Some.change) found now all c.loop-piece-test.true
          (ap (change_in _) (sym c.words_from.ensures) ∙ sym c.change_in.ensures ∙
          w.in-Some.is) more c.loop-piece.invariant
      | in_default w ↦
          let same : now ≡ found = ap (λ v. v.items) w.changes-is in
          gathered (λ (p : Piece). change_in p.flag (drop (p.at + 1) words)) pieces c.loop-piece.piece-index _ None
          found now all c.loop-piece-test.true (ap (change_in _) (sym c.words_from.ensures) ∙
          sym c.change_in.ensures ∙ w.in_default.is) (same ∙ sym (append-nil found)) c.loop-piece.invariant
    ]
