use Rattle.std.proofs.Common.{◌≡◌, ◌*◌, ◌^◌, ◌≤◌, take}
use Rattle.las_merge.specs.Opening.{points_read}
use Rattle.las_merge.proofs.opening.count_points.Given as goal

abbrev pub invariant-loop-input : goal.invariant-loop-input
invariant-loop-input l = record {
  points_are : l.points ≡ points_read (take l.input-index l.inputs);
  small : l.points ≤ 2 ^ 32 * l.input-index;
}
