use Rattle.std.proofs.Common.{◌<◌}
use Rattle.las_outside.specs.Drafting.{BeginsNone}
use Rattle.las_outside.proofs.handles.Handles.create_draft.Given as goal

abbrev pub invariant-loop-number : goal.invariant-loop-number
invariant-loop-number g l = (l.drafts.begun < l.drafts.room) × BeginsNone l.fn.drafts l.drafts
