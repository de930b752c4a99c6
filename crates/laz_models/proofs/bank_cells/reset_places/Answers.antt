use Rattle.std.proofs.Common.{arith}
use Rattle.std.proofs.lemmas.List.Edits.{map_over_more}
use Rattle.std.proofs.lemmas.List.{get_or_default}
use Rattle.laz_models.specs.Place.{as_new}
use Rattle.laz_models.proofs.bank_cells.reset_places.Goals as goal

pub loop-place-preserved : goal.loop-place-preserved
loop-place-preserved c =
    map_over_more as_new c.args.places.now c.loop-place.places c.loop-place.place-index _ (omega arith) c.loop-place.invariant (get_or_default c.loop-place.places c.loop-place.place-index _ _ (omega arith))
