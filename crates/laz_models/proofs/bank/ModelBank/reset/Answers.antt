use Rattle.std.proofs.Common.{◌≤◌, ◌∙◌, ap, map}
use Rattle.std.proofs.lemmas.List.{get_or-map}
use Rattle.laz_models.specs.Counting.{Counting, new_model}
use Rattle.laz_models.specs.Bank.{model_at}
use Rattle.laz_models.specs.Dist.{alphabet_size}
use Rattle.laz_models.specs.Place.{counting_in}
use Rattle.laz_models.proofs.Banks.{StandsFor-new_model, many-at}
use Rattle.laz_models.proofs.Layouts.{AreFirst-new, EndWithin-new, first-IsBank, first-view, sizes-reset}
use Rattle.laz_models.proofs.Sounds.{AreSound-bank}
use Rattle.laz_models.proofs.bank.ModelBank.reset.Goals as goal

pub invariant_of-self : goal.invariant_of-self
invariant_of-self c =
    rw c.reset_all.ensures
    (first-IsBank c.self.inside.places.items c.self.inside.cells.items c.self.invariant.0, AreFirst-new c.self.inside.places.items c.self.inside.cells.items c.self.invariant.1, EndWithin-new c.self.inside.places.items _ c.self.invariant.2)

pub returns-clause-new_model : goal.returns-clause-new_model
returns-clause-new_model c =
    ap (map (counting_in c.self.inside.cells.items)) c.reset_all.ensures
    ∙ (first-view c.self.inside.places.items c.self.inside.cells.items c.self.invariant.0
    ∙ ap (map (λ (m : Counting). new_model (alphabet_size m))) c.self.view_is)

pub returns-clause-stands : goal.returns-clause-stands
returns-clause-stands c = λ m below.
    let many : 2 ≤ alphabet_size (model_at c.args.self.now m) = many-at c.args.self.now c.self.inside.places.items c.self.inside.cells.items m c.self.view_is c.self.invariant.0 below in
    rw (returns-clause-new_model c, get_or-map (λ (m : Counting). new_model (alphabet_size m)) c.args.self.now m (new_model 2) (new_model 2) below) (StandsFor-new_model (alphabet_size (model_at c.args.self.now m)) many)

pub returns-clause-sizes : goal.returns-clause-sizes
returns-clause-sizes c = rw (returns-clause-new_model c) (sizes-reset c.args.self.now)

pub returns-clause-sound : goal.returns-clause-sound
returns-clause-sound c = AreSound-bank _ c.self.inside.cells.items (invariant_of-self c).0
