use Rattle.std.proofs.Common.{◌≡◌, ◌+◌, ◌-◌, ◌≤◌, length, drop}
use Rattle.las_words.specs.Texts.{texts}
use Rattle.las_words.specs.Faults.{first_wrong}
use Rattle.las_words.proofs.faults.first_wrong.Given as goal

abbrev pub invariant-loop-k : goal.invariant-loop-k
invariant-loop-k l = record {
  rest : first_wrong (texts l.names) l.values (l.at + l.k) (l.count - l.k) (drop l.k (texts l.after)) ≡ first_wrong (texts l.names) l.values l.at l.count (texts l.after);
  within : l.k ≤ length l.after;
}
