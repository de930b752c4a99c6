use Rattle.std.proofs.Common.{◌≡◌, ◌-◌, ◌^◌, ◌<◌, ℕ, min, length, slice_index}
use Rattle.std.specs.Prelude.{sum_by}
use Rattle.laz_copied.specs.Copied.{returns_to_15}
use Rattle.las_merge.proofs.summing.long_returns_in.Given as goal

abbrev pub invariant-loop-i : goal.invariant-loop-i
invariant-loop-i l = record {
  size : length l.sums ≡ 15;
  each : (k : ℕ) → k < l.i → slice_index l.sums k ≡ min (sum_by (λ input. slice_index (returns_to_15 input.head.bytes) k) l.inputs) (2 ^ 64 - 1);
}
