use Rattle.laz_range.proofs.Choosing.{width-part}
use Rattle.laz_range.proofs.search.part_to.Goals as goal

pub returns-clause-width : goal.returns-clause-width
returns-clause-width c =
    rw (c.min-end.ensures, c.parts.ensures, c.parts-from.ensures)
    (width-part c.args.start c.args.next c.args.len c.requires.long c.requires.guard)
