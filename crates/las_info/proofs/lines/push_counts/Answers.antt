use Rattle.std.proofs.Common.{◌++◌, ◌∙◌, ap, codes, sym}
use Rattle.std.specs.Fmt.{decimal}
use Rattle.las_info.proofs.Texts.{three, through}
use Rattle.las_info.proofs.lines.push_counts.Goals as goal

pub returns : goal.returns
returns c =
    three c.args.text.now.items c.args.word.now _ (codes "\n") _ _ _ c.in_ok-extend_from_slice.ensures.items
    c.in_ok-push_each.ensures c.in_ok-extend_from_slice-2.ensures.items
    ∙ ap (λ t. c.args.text.now.items ++ (c.args.word.now ++ t ++ codes "\n"))
    (sym (through (λ value. codes " " ++ value) decimal c.args.counts.now))
