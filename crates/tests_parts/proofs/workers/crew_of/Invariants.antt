use Rattle.std.proofs.Common.{◌≡◌, length}
use Rattle.tests_parts.proofs.workers.crew_of.Given as goal

abbrev pub invariant-loop-hand : goal.invariant-loop-hand
invariant-loop-hand l = length l.crew ≡ l._hand
