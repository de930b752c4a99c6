use Rattle.std.proofs.Common.{◌≡◌, ℕ, ap, ◌∙◌, arith, slice_index}
use Rattle.laz_copied.specs.Copied.{returns_to_15}
use Rattle.las_merge.specs.Opening.{InputSeen}
use Rattle.las_merge.proofs.Appended.{sum_more}
use Rattle.las_merge.proofs.summing.long_returns_at.Goals as goal

pub loop-input-preserved : goal.loop-input-preserved
loop-input-preserved c =
    let f : InputSeen → ℕ = λ input. slice_index (returns_to_15 input.head.bytes) c.args.i in
    let row : slice_index c.returns_to_15.result c.args.i ≡ f c.input-item.result = ap (λ r. slice_index r c.args.i) c.returns_to_15.ensures ∙ ap f c.input.view_is in
    let more = sum_more f c.args.inputs.now c.loop-input.input-index c.input-item.result c.loop-input-test.true in
    omega (arith, c.saturating_add-sum.ensures, c.loop-input.invariant, row, more, ap f c.input-item.is)
