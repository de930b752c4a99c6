use Rattle.las_outside.proofs.LeftDrafts.{none_said}
use Rattle.las_outside.proofs.draft_list.DraftList.discard.Goals as goal

pub loop-number-init : goal.loop-number-init
loop-number-init g c = none_said c.args.keep c.self.inside.moved (g.E.Sink.seen c.args.err.now)
