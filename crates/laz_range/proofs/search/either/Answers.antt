use Rattle.std.proofs.Common.{◌/◌, ◌<◌, arith}
use Rattle.laz_range.proofs.Choosing.{by-product, width-two}
use Rattle.laz_range.proofs.search.either.Goals as goal

pub returns-clause-second : goal.returns-clause-second
returns-clause-second c =
    let unit = c.args.len / 32768 in
    let some : 0 < unit = omega arith in
    rw c.parts-middle.ensures (by-product c.args.next unit c.args.value some)

pub returns-clause-width : goal.returns-clause-width
returns-clause-width c =
    rw (c.min-high.ensures, c.choose.ensures, c.choose-low.ensures, c.parts-2.ensures, c.parts.ensures, c.parts-middle.ensures)
    (width-two _ c.args.start c.args.next c.args.after c.args.len c.requires.long c.requires.two)
