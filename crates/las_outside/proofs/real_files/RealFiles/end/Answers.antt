use Rattle.std.proofs.Common.{◌≡◌, ◌∙◌, ap}
use Rattle.las_outside.specs.Drafting.{Drafting}
use Rattle.las_outside.specs.RealFiles.{SystemView}
use Rattle.las_outside.proofs.LeftDrafts.{said_of}
use Rattle.las_outside.proofs.real_files.RealFiles.end.Goals.{then-status-eq0, else-status-eq0}
use Rattle.las_outside.proofs.real_files.RealFiles.end.Goals as goal

pub returns-then-status-ne0-clause-said_at_last : goal.returns-then-status-ne0-clause-said_at_last
returns-then-status-ne0-clause-said_at_last g c failed =
    let begun : c.if-status-eq0.self.drafts.begun ≡ c.args.self.now.drafts.begun =
    elim c.if-status-eq0.branch [
      | then-status-eq0 w ↦ ap (λ (s : SystemView). s.drafts.begun) w.self-is ∙ w.publish-status.ensures.publishes.begun
      | else-status-eq0 w ↦ ap (λ (s : SystemView). s.drafts.begun) w.self-is
    ] in
    let begun_now : c.self.inside.drafts.begun ≡ c.args.self.now.drafts.begun =
    ap (λ (s : SystemView). s.drafts.begun) c.self.view_is ∙ begun in
    let moved_now = ap (λ (d : Drafting). d.moved) c.discard.ensures.drafts in (
      g.E.Sink.seen c.if-status-eq0.err,
      said_of c.args.keep c.args.self.now.drafts.begun c.self.inside.drafts.begun c.self.inside.drafts.moved c.discard.new.self.moved (g.E.Sink.seen c.if-status-eq0.err) (g.E.Sink.seen c.discard.new.err) begun_now moved_now c.discard.ensures.said,
    )
