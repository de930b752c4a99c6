use Rattle.std.proofs.Common.{◌-◌}
use Rattle.las_outside.specs.LeftDrafts.{SaysOfDrafts}
use Rattle.las_outside.proofs.draft_list.DraftList.discard.Given as goal

abbrev pub invariant-loop-number : goal.invariant-loop-number
invariant-loop-number g l =
    SaysOfDrafts l.keep (l.number - l.initial.number) (g.E.Sink.seen l.fn.err) (g.E.Sink.seen l.err)
