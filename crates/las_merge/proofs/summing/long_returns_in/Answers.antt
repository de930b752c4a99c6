use Rattle.std.proofs.Common.{◌-◌, ◌^◌, ℕ, min, slice_index, arith}
use Rattle.std.specs.Prelude.{sum_by}
use Rattle.std.proofs.lemmas.List.FromFn.{fill_by_all}
use Rattle.laz_copied.specs.Copied.{returns_to_15}
use Rattle.las_merge.proofs.summing.long_returns_in.Goals as goal

pub returns : goal.returns
returns c =
    let f : ℕ → ℕ = λ k. min (sum_by (λ input. slice_index (returns_to_15 input.head.bytes) k) c.args.inputs.now) (2 ^ 64 - 1) in
    fill_by_all f c.loop-i.sums 15 0 c.loop-i.invariant.size (λ k below. c.loop-i.invariant.each k (omega (arith, below, c.loop-i-test.false)))
