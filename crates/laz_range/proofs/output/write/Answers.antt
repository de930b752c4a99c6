use Rattle.std.proofs.Common.{◌+◌, ◌%◌, ◌∙◌, arith}
use Rattle.laz_range.specs.Output.{low_of}
use Rattle.laz_range.proofs.Fronts.{spells, sum_parts}
use Rattle.laz_range.proofs.output.write.Goals as goal

pub returns-clause-spells : goal.returns-clause-spells
returns-clause-spells c =
    let old = c.args.bytes.now in
    let at = c.args.at in
    let next = c.args.next in
    spells at next (low_of at next c.args.low old + c.args.from) old c.put_window.new.bytes c.requires.bytes c.put_window.ensures.bytes c.requires.order c.requires.within
    (c.put_window.auto.bytes ∙ c.add-sum.auto.bytes) c.requires.fits
    (c.put_window.ensures.number ∙ (c.add-sum.ensures.sum ∙ sum_parts at next (c.args.low % 4294967296) c.args.from old c.requires.order (omega (arith, c.requires.within))))
