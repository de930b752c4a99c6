use Rattle.std.proofs.Common.{◌++◌, codes}
use Rattle.std.specs.Fmt.{decimal}
use Rattle.las_info.proofs.Texts.{longer}
use Rattle.las_info.proofs.lines.push_values.Goals as goal

pub loop-number-preserved : goal.loop-number-preserved
loop-number-preserved c =
    longer (λ number. codes " " ++ decimal number) _ _ _ c.args.numbers.now c.loop-number.number-index 0 c.loop-number-test.true
    c.loop-number.invariant c.in_ok-push_number.ensures
