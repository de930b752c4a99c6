use Rattle.std.proofs.Common.{◌≡◌}
use Rattle.las_outside.proofs.publishing.move_all.Given as goal

abbrev pub invariant-loop-number : goal.invariant-loop-number
invariant-loop-number g l = l.drafts ≡ record l.fn.drafts { moved = l.number }
