use Rattle.std.proofs.Common.{◌∙◌, ◌++◌, ap, codes, take}
use Rattle.las_info.specs.Report.{extents_text, number_line}
use Rattle.las_info.proofs.Texts.{two}
use Rattle.las_info.proofs.reporting.push_summary.Goals as goal

pub returns : goal.returns
returns c =
    let word = codes "record returns" in
    two c.args.text.now.items (number_line word (take 5 c.counts-counts.result.returns)) (extents_text c.extents.result) _ _
    c.in_ok-push_counts.ensures c.in_ok-push_extents.ensures
    ∙ ap (λ counts. c.args.text.now.items ++ (number_line word (take 5 counts.returns) ++ extents_text c.extents.result))
    c.counts-counts.ensures
    ∙ ap (λ extents. c.args.text.now.items
    ++ (number_line word (take 5 c.args.summary.now.counts.returns) ++ extents_text extents)) c.extents.ensures
