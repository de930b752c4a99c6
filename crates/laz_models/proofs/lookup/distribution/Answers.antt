use Rattle.std.proofs.Common.{◌≡◌, ◌-◌, arith}
use Rattle.laz_models.specs.Place.{dist_extent}
use Rattle.laz_models.proofs.Places.{has_dist}
use Rattle.laz_models.proofs.lookup.distribution.Goals as goal

pub returns-clause-dist : goal.returns-clause-dist
returns-clause-dist c =
    let p = c.args.place.now in
    let extent : p.end - p.start - p.size ≡ dist_extent p.size = omega (arith, c.requires.placed.model.shape.extent) in
    rw extent (has_dist p c.args.cells.now c.requires.placed c.requires.first).is

pub returns-clause-starts : goal.returns-clause-starts
returns-clause-starts c =
    let p = c.args.place.now in
    let extent : p.end - p.start - p.size ≡ dist_extent p.size = omega (arith, c.requires.placed.model.shape.extent) in
    rw extent (has_dist p c.args.cells.now c.requires.placed c.requires.first).starts

pub returns-clause-table : goal.returns-clause-table
returns-clause-table c =
    let p = c.args.place.now in
    let extent : p.end - p.start - p.size ≡ dist_extent p.size = omega (arith, c.requires.placed.model.shape.extent) in
    rw extent (has_dist p c.args.cells.now c.requires.placed c.requires.first).table
