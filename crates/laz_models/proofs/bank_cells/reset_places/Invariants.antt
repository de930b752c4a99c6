use Rattle.std.proofs.Common.{◌≡◌, ◌++◌, map, take, drop}
use Rattle.laz_models.specs.Place.{as_new}
use Rattle.laz_models.proofs.bank_cells.reset_places.Given as goal

abbrev pub invariant-loop-place : goal.invariant-loop-place
invariant-loop-place l = l.places ≡ map as_new (take l.place-index l.fn.places) ++ drop l.place-index l.fn.places
