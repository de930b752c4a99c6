use Rattle.std.proofs.Common.{◌≡◌, ◌*◌, ◌-◌, ◌/◌, ℕ, List, length}
use Rattle.las_info.specs.Tallies.{tally_after}
use Rattle.las_info.proofs.Cuts.{Cuts}
use Rattle.las_info.proofs.runs.count_groups.Given as goal

abbrev pub invariant-loop-group : goal.invariant-loop-group
invariant-loop-group g l = record {
  number : l.count ≡ length l.block / l.size;
  left : length l.rest ≡ l.size * (l.count - l.each * l._group);
  counts : (done : List (List ℕ)) × Cuts l.size l.count (l.each * l._group) l.block l.rest done
      × (l.counted ≡ tally_after g.B.Bins.bin_of l.initial.counted done);
}
