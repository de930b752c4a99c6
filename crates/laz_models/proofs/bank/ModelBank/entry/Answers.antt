use Rattle.laz_models.proofs.Banks.{at}
use Rattle.laz_models.proofs.bank.ModelBank.entry.Goals as goal

pub entry-requires-clause-entry : goal.entry-requires-clause-entry
entry-requires-clause-entry c =
    let a = at c.args.self.now c.self.inside.places.items c.self.inside.cells.items c.args.m c.index-place.result.now c.self.view_is c.self.invariant.0 c.requires.model c.index-place.ensures in
    rw (a.size) at c.requires.entry

pub returns-clause-last : goal.returns-clause-last
returns-clause-last c =
    let a = at c.args.self.now c.self.inside.places.items c.self.inside.cells.items c.args.m c.index-place.result.now c.self.view_is c.self.invariant.0 c.requires.model c.index-place.ensures in
    rw (a.size, a.is) (rw c.deref.ensures.value at c.entry.ensures)

pub returns-clause-dist : goal.returns-clause-dist
returns-clause-dist c = λ h stands. rw (← stands.starts) (returns-clause-last c)
