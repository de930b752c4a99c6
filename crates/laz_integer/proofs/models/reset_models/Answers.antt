use Rattle.std.proofs.Common.{◌≡◌, map, ap, refl, ◌∙◌}
use Rattle.laz_models.specs.Counting.{new_model}
use Rattle.laz_integer.specs.Integer.{int_sizes}
use Rattle.laz_integer.proofs.States.{new_model-sizes}
use Rattle.laz_integer.proofs.models.reset_models.Goals as goal

pub returns : goal.returns
returns c =
    let bank : c.reset.new.self ≡ map new_model (int_sizes c.args.models.now.bits c.args.models.now.contexts) =
    c.reset.ensures.new_model ∙ (new_model-sizes c.args.models.now.bank ∙ ap (map new_model) c.requires.sizes) in
    rw (bank, c.reset-2.ensures.new_model) refl
