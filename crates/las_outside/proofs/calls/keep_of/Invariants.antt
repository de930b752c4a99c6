use Rattle.std.proofs.Common.{◌≡◌, drop}
use Rattle.las_outside.specs.Calls.{keep_of}
use Rattle.las_outside.proofs.calls.keep_of.Given as goal

abbrev pub invariant-loop-number : goal.invariant-loop-number
invariant-loop-number l = keep_of (drop l.number-index l.listed) l.call ≡ keep_of l.listed l.call
