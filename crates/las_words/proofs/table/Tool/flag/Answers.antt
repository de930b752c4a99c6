use Rattle.std.proofs.Common.{sym, ◌∙◌, ap}
use Rattle.std.specs.Str.{bytes_eq}
use Rattle.las_words.specs.declared.table.Flag.{Flag}
use Rattle.las_words.specs.Table.{row_of}
use Rattle.las_words.proofs.Gathered.{found_later}
use Rattle.las_words.proofs.table.Tool.flag.Goals as goal

pub loop-flag-preserved : goal.loop-flag-preserved
loop-flag-preserved c =
    let word = c.args.word.now in
    found_later (λ (flag : Flag). bytes_eq word (row_of flag).name) c.options-flag-items.result.now
    c.loop-flag.flag-index _ c.loop-flag-test.true
    (ap (bytes_eq word) (sym c.name.ensures) ∙ sym c.eq.ensures ∙ c.if-eq.false)
    ∙ c.loop-flag.invariant
