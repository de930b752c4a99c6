use Rattle.laz_models.proofs.Banks.{at}
use Rattle.laz_models.proofs.bank.ModelBank.near_symbol.Goals as goal

pub near_symbol-requires-clause-symbol : goal.near_symbol-requires-clause-symbol
near_symbol-requires-clause-symbol c =
    let a = at c.args.self.now c.self.inside.places.items c.self.inside.cells.items c.args.m c.index.result.now c.self.view_is c.self.invariant.0 c.requires.model c.index.ensures in
    rw a.size at c.requires.symbol

pub returns-clause-near : goal.returns-clause-near
returns-clause-near c =
    let a = at c.args.self.now c.self.inside.places.items c.self.inside.cells.items c.args.m c.index.result.now c.self.view_is c.self.invariant.0 c.requires.model c.index.ensures in
    rw a.is (rw c.deref.ensures.value at c.near_symbol.ensures.near)

pub returns-clause-starts : goal.returns-clause-starts
returns-clause-starts c =
    (at c.args.self.now c.self.inside.places.items c.self.inside.cells.items c.args.m c.index.result.now c.self.view_is c.self.invariant.0 c.requires.model c.index.ensures).starts
