use Rattle.std.proofs.Common.{◌++◌, ◌∙◌, ap, codes}
use Rattle.std.specs.Fmt.{decimal}
use Rattle.las_info.proofs.Texts.{longer}
use Rattle.las_info.proofs.lines.push_each.Goals as goal

pub loop-count-preserved : goal.loop-count-preserved
loop-count-preserved c =
    longer (λ number. codes " " ++ decimal number) _ _ _ c.args.counts.now c.loop-count.count-index 0 c.loop-count-test.true
    c.loop-count.invariant (c.in_ok-push_number.ensures ∙ ap (λ n. c.loop-count.text.items ++ (codes " " ++ decimal n)) c.from.ensures)
