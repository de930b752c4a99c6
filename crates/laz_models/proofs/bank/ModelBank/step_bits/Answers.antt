use Rattle.std.proofs.Common.{◌-◌, ◌∙◌, ap, sym, arith}
use Rattle.laz_models.specs.Lookup.{search_bits}
use Rattle.laz_models.proofs.Banks.{at}
use Rattle.laz_models.proofs.Lookups.{search_bits-bounds}
use Rattle.laz_models.proofs.bank.ModelBank.step_bits.Goals as goal

pub returns-clause-is : goal.returns-clause-is
returns-clause-is c =
    let a = at c.args.self.now c.self.inside.places.items c.self.inside.cells.items c.args.m c.index.result.now c.self.view_is c.self.invariant.0 c.requires c.index.ensures in
    a.placed.model.shape.shift ∙ ap (λ n. 15 - search_bits n) (sym a.size)

pub returns-clause-few : goal.returns-clause-few
returns-clause-few c =
    let a = at c.args.self.now c.self.inside.places.items c.self.inside.cells.items c.args.m c.index.result.now c.self.view_is c.self.invariant.0 c.requires c.index.ensures in
    omega (arith, a.placed.model.shape.shift, search_bits-bounds c.index.result.now.size)
