use Rattle.std.proofs.Common.{◌≡◌, vec_len}
use Rattle.tests_parts.proofs.workers.inputs_of.Given as goal

abbrev pub invariant-loop-byte : goal.invariant-loop-byte
invariant-loop-byte l = vec_len l.inputs ≡ l.byte-index
