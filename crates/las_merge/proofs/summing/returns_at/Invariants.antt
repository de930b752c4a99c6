use Rattle.std.proofs.Common.{◌≡◌, ◌-◌, ◌^◌, min, take, slice_index}
use Rattle.std.specs.Prelude.{sum_by}
use Rattle.las_header.specs.Fields.{returns_of}
use Rattle.las_merge.proofs.summing.returns_at.Given as goal

abbrev pub invariant-loop-input : goal.invariant-loop-input
invariant-loop-input l = l.sum ≡ min (sum_by (λ input. slice_index (returns_of input.head.bytes) l.i) (take l.input-index l.inputs)) (2 ^ 32 - 1)
