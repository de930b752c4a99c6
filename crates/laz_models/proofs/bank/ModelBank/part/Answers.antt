use Rattle.std.proofs.Common.{arith}
use Rattle.laz_models.proofs.Banks.{at}
use Rattle.laz_models.proofs.Models.{part_end-above}
use Rattle.laz_models.proofs.bank.ModelBank.part.Goals as goal

pub part-requires-clause-symbol : goal.part-requires-clause-symbol
part-requires-clause-symbol c =
    let a = at c.args.self.now c.self.inside.places.items c.self.inside.cells.items c.args.m c.index-place.result.now c.self.view_is c.self.invariant.0 c.requires.model c.index-place.ensures in
    omega (arith, a.size, c.requires.symbol)

pub returns-clause-some : goal.returns-clause-some
returns-clause-some c =
    let a = at c.args.self.now c.self.inside.places.items c.self.inside.cells.items c.args.m c.index-place.result.now c.self.view_is c.self.invariant.0 c.requires.model c.index-place.ensures in
    let start = rw c.deref.ensures.value at c.part.ensures.start in
    let end = rw c.deref.ensures.value at c.part.ensures.end in
    rw (start, end) (part_end-above c.index-place.result.now.size _ c.args.s a.state_parts (omega (arith, a.size, c.requires.symbol))).0

pub returns-clause-whole : goal.returns-clause-whole
returns-clause-whole c =
    let a = at c.args.self.now c.self.inside.places.items c.self.inside.cells.items c.args.m c.index-place.result.now c.self.view_is c.self.invariant.0 c.requires.model c.index-place.ensures in
    let end = rw c.deref.ensures.value at c.part.ensures.end in
    rw end (part_end-above c.index-place.result.now.size _ c.args.s a.state_parts (omega (arith, a.size, c.requires.symbol))).1
