use Rattle.std.proofs.Common.{arith}
use Rattle.laz_models.specs.Bank.{model_at}
use Rattle.laz_models.specs.Dist.{alphabet_size}
use Rattle.laz_models.proofs.Banks.{at}
use Rattle.laz_models.proofs.Models.{bounds-of}
use Rattle.laz_models.proofs.bank.ModelBank.bounds.Goals as goal

pub bounds-requires-clause-symbol : goal.bounds-requires-clause-symbol
bounds-requires-clause-symbol c =
    let a = at c.args.self.now c.self.inside.places.items c.self.inside.cells.items c.args.m c.index.result.now c.self.view_is c.self.invariant.0 c.requires.model c.index.ensures in
    omega (arith, a.size, c.requires.symbol)

pub returns-clause-start : goal.returns-clause-start
returns-clause-start c = rw (at c.args.self.now c.self.inside.places.items c.self.inside.cells.items c.args.m c.index.result.now c.self.view_is c.self.invariant.0 c.requires.model c.index.ensures).is (rw c.deref.ensures.value at c.bounds.ensures.start)

pub returns-clause-next : goal.returns-clause-next
returns-clause-next c = rw (at c.args.self.now c.self.inside.places.items c.self.inside.cells.items c.args.m c.index.result.now c.self.view_is c.self.invariant.0 c.requires.model c.index.ensures).is (rw c.deref.ensures.value at c.bounds.ensures.next)

pub returns-clause-end : goal.returns-clause-end
returns-clause-end c = (bounds-of (alphabet_size (model_at c.args.self.now c.args.m)) c.args.s (model_at c.args.self.now c.args.m).starts c.bounds.result.0 c.bounds.result.1 (at c.args.self.now c.self.inside.places.items c.self.inside.cells.items c.args.m c.index.result.now c.self.view_is c.self.invariant.0 c.requires.model c.index.ensures).starts c.requires.symbol (returns-clause-start c) (returns-clause-next c)).end

pub returns-clause-first : goal.returns-clause-first
returns-clause-first c = (bounds-of (alphabet_size (model_at c.args.self.now c.args.m)) c.args.s (model_at c.args.self.now c.args.m).starts c.bounds.result.0 c.bounds.result.1 (at c.args.self.now c.self.inside.places.items c.self.inside.cells.items c.args.m c.index.result.now c.self.view_is c.self.invariant.0 c.requires.model c.index.ensures).starts c.requires.symbol (returns-clause-start c) (returns-clause-next c)).first

pub returns-clause-some : goal.returns-clause-some
returns-clause-some c = (bounds-of (alphabet_size (model_at c.args.self.now c.args.m)) c.args.s (model_at c.args.self.now c.args.m).starts c.bounds.result.0 c.bounds.result.1 (at c.args.self.now c.self.inside.places.items c.self.inside.cells.items c.args.m c.index.result.now c.self.view_is c.self.invariant.0 c.requires.model c.index.ensures).starts c.requires.symbol (returns-clause-start c) (returns-clause-next c)).some

pub returns-clause-guard : goal.returns-clause-guard
returns-clause-guard c = (bounds-of (alphabet_size (model_at c.args.self.now c.args.m)) c.args.s (model_at c.args.self.now c.args.m).starts c.bounds.result.0 c.bounds.result.1 (at c.args.self.now c.self.inside.places.items c.self.inside.cells.items c.args.m c.index.result.now c.self.view_is c.self.invariant.0 c.requires.model c.index.ensures).starts c.requires.symbol (returns-clause-start c) (returns-clause-next c)).guard

pub returns-clause-dist : goal.returns-clause-dist
returns-clause-dist c = λ h stands. rw (← stands.starts) (returns-clause-start c, returns-clause-end c)
