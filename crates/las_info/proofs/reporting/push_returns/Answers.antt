use Rattle.std.proofs.Common.{◌∙◌, ◌++◌, ap, codes}
use Rattle.las_header.specs.Fields.{returns_of}
use Rattle.las_info.specs.Report.{long_line, number_line}
use Rattle.las_info.proofs.Texts.{two}
use Rattle.las_info.proofs.reporting.push_returns.Goals as goal

pub returns : goal.returns
returns c =
    let word = codes "header returns" in
    two c.args.text.now.items (number_line word c.returns.result) (long_line c.long_returns.result) _ _
    c.in_ok-push_counts.ensures c.in_ok-push_long.ensures
    ∙ ap (λ numbers. c.args.text.now.items ++ (number_line word numbers ++ long_line c.long_returns.result)) c.returns.ensures
    ∙ ap (λ numbers. c.args.text.now.items ++ (number_line word (returns_of c.args.head.now.bytes) ++ long_line numbers))
    c.long_returns.ensures
