use Rattle.std.proofs.Common.{◌<◌, ◌≤◌, ◌∙◌, refl, ap, length, arith}
use Rattle.std.proofs.lemmas.List.{length-map, get_or-set_same, get_or-set_other}
use Rattle.laz_models.specs.Bank.{model_at}
use Rattle.laz_models.specs.Counting.{after_symbol, new_model}
use Rattle.laz_models.specs.Dist.{alphabet_size}
use Rattle.laz_models.specs.Place.{counting_in}
use Rattle.laz_models.proofs.Banks.{at, AreFirst-set, EndWithin-set, IsBank-set, view-set, StandsFor-push, sizes-set}
use Rattle.laz_models.proofs.Sounds.{AreSound-bank}
use Rattle.laz_models.proofs.bank.ModelBank.count_read.Goals as goal

pub count_at-requires-clause-symbol : goal.count_at-requires-clause-symbol
count_at-requires-clause-symbol c =
    let a = at c.args.self.now c.self.inside.places.items c.self.inside.cells.items c.args.m c.index_mut.result.now c.self.view_is c.self.invariant.0 c.requires.model c.index_mut.ensures.value in
    omega (arith, a.size, c.requires.symbol)

pub invariant_of-self : goal.invariant_of-self
invariant_of-self c =
    let here : c.args.m < length c.self.inside.places.items = omega (arith, ap length c.self.view_is, length-map c.self.inside.places.items (counting_in c.self.inside.cells.items), c.requires.model) in (
      IsBank-set c.self.inside.places.items c.self.inside.cells.items c.count_at.new.cells.items c.args.m c.index_mut.result.now c.count_at.new.place c.self.invariant.0 here c.index_mut.ensures.value c.count_at.ensures.place c.count_at.ensures.good c.count_at.ensures.others,
      AreFirst-set c.self.inside.places.items c.self.inside.cells.items c.count_at.new.cells.items c.args.m c.index_mut.result.now c.count_at.new.place c.self.invariant.1 here c.index_mut.ensures.value c.count_at.ensures.place c.count_at.ensures.others,
      EndWithin-set c.self.inside.places.items c.args.m _ _ c.index_mut.result.now c.count_at.new.place c.self.invariant.2 c.count_at.ensures.capacity here c.index_mut.ensures.value c.count_at.ensures.place,
    )

pub returns-clause-after_symbol : goal.returns-clause-after_symbol
returns-clause-after_symbol c =
    let here : c.args.m < length c.self.inside.places.items = omega (arith, ap length c.self.view_is, length-map c.self.inside.places.items (counting_in c.self.inside.cells.items), c.requires.model) in
    let a = at c.args.self.now c.self.inside.places.items c.self.inside.cells.items c.args.m c.index_mut.result.now c.self.view_is c.self.invariant.0 c.requires.model c.index_mut.ensures.value in
    let view = view-set c.self.inside.places.items c.self.inside.cells.items c.count_at.new.cells.items c.args.m c.index_mut.result.now c.count_at.new.place c.self.invariant.0 here c.index_mut.ensures.value c.count_at.ensures.others in
    view ∙ rw (c.self.view_is, c.count_at.ensures.after_symbol, ← a.is) refl

pub returns-clause-others : goal.returns-clause-others
returns-clause-others c = λ k ne. rw (returns-clause-after_symbol c) (get_or-set_other c.args.self.now c.args.m k (after_symbol (model_at c.args.self.now c.args.m) c.args.s) (new_model 2) ne)

pub returns-clause-sizes : goal.returns-clause-sizes
returns-clause-sizes c = rw (returns-clause-after_symbol c) (sizes-set c.args.self.now c.args.m c.args.s c.requires.model)

pub returns-clause-stands : goal.returns-clause-stands
returns-clause-stands c = λ h stands.
    let a = at c.args.self.now c.self.inside.places.items c.self.inside.cells.items c.args.m c.index_mut.result.now c.self.view_is c.self.invariant.0 c.requires.model c.index_mut.ensures.value in
    let many : 2 ≤ alphabet_size (model_at c.args.self.now c.args.m) = omega (arith, a.size, a.placed.model.shape.many) in
    rw (returns-clause-after_symbol c, get_or-set_same c.args.self.now c.args.m (after_symbol (model_at c.args.self.now c.args.m) c.args.s) (new_model 2) c.requires.model)
    (StandsFor-push h c.args.s (model_at c.args.self.now c.args.m) many c.requires.symbol stands)

pub returns-clause-sound : goal.returns-clause-sound
returns-clause-sound c = AreSound-bank _ c.count_at.new.cells.items (invariant_of-self c).0
