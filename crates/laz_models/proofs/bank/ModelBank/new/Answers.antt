use Rattle.std.proofs.Common.{ℕ, ◌≤◌, get_or, subst, sym}
use Rattle.std.proofs.lemmas.List.{get_or-map}
use Rattle.std.proofs.lemmas.List.Elements.{All-get_or}
use Rattle.laz_models.specs.Counting.{new_model}
use Rattle.laz_models.proofs.Banks.{StandsFor-new_model}
use Rattle.laz_models.specs.Sound.{AreSound}
use Rattle.laz_models.proofs.Sounds.{AreSound-new_model}
use Rattle.laz_models.proofs.Layouts.{layout-view, sizes-new_model}
use Rattle.laz_models.proofs.bank.ModelBank.new.Goals as goal

pub returns-clause-new_model : goal.returns-clause-new_model
returns-clause-new_model c = layout-view _ c.args.sizes.now _ _ c.in_ok-places.ensures.layout

pub returns-clause-stands : goal.returns-clause-stands
returns-clause-stands c = λ m below.
    let range = All-get_or (λ (n : ℕ). (2 ≤ n) × (n ≤ 2048)) c.args.sizes.now m 0 below c.requires.range in
    rw (returns-clause-new_model c, get_or-map new_model c.args.sizes.now m 0 (new_model 2) below) (StandsFor-new_model (get_or c.args.sizes.now m 0) range.0)

pub returns-clause-sizes : goal.returns-clause-sizes
returns-clause-sizes c = rw (returns-clause-new_model c) (sizes-new_model c.args.sizes.now)

pub returns-clause-sound : goal.returns-clause-sound
returns-clause-sound c = subst AreSound (sym (returns-clause-new_model c)) (AreSound-new_model c.args.sizes.now c.requires.range)
