use Rattle.std.proofs.Common.{◌≡◌, ◌*◌, ◌-◌, ◌^◌, ◌≤◌, take}
use Rattle.std.specs.Prelude.{sum}
use Rattle.las_merge.proofs.listing.total.Given as goal

abbrev pub invariant-loop-size : goal.invariant-loop-size
invariant-loop-size l = record {
  sum_is : l.bytes ≡ sum (take l.size-index l.sizes);
  small : l.bytes ≤ (2 ^ 32 - 1) * l.size-index;
}
