use Rattle.std.proofs.Common.{◌≡◌, ◌+◌, ◌*◌, ◌-◌, ◌/◌, ◌≤◌, ℕ, List, All, length}
use Rattle.las_info.proofs.Running.{RunOf, Running}
use Rattle.las_info.proofs.summary.summed.Given as goal

abbrev pub invariant-loop-pair : goal.invariant-loop-pair
invariant-loop-pair l = record {
  number : l.count ≡ length l.block / l.size;
  left : length l.rest ≡ l.size * (l.count - 2 * l._pair);
  long : length l.returns ≡ 8;
  few : All (λ n. n ≤ l.counts.points + 2 * l._pair) l.returns;
  run : (before : List (List ℕ)) → RunOf before l.initial.returns l.initial.bounds
      → Running l.size l.count (2 * l._pair) l.block l.rest before l.returns l.bounds;
}
