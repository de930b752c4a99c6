use Rattle.std.proofs.Common.{◌≡◌, ◌*◌, ◌-◌, ◌/◌, ℕ, List, length}
use Rattle.las_info.specs.Tallies.{tally_after}
use Rattle.las_info.proofs.Cuts.{Cuts}
use Rattle.las_info.proofs.block_count.count_block.Given as goal

abbrev pub invariant-loop-pair : goal.invariant-loop-pair
invariant-loop-pair g l = record {
  number : l.count ≡ length l.block / l.size;
  left : length l.rest ≡ l.size * (l.count - 2 * l._pair);
  counts : (done : List (List ℕ)) × Cuts l.size l.count (2 * l._pair) l.block l.rest done
      × (l.counted ≡ tally_after g.B.Bins.bin_of l.initial.counted done);
}
