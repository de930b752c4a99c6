use Rattle.std.proofs.Common.{◌≡◌, ℕ, ◌*◌, ◌%◌, ◌^◌, subst, arith}
use Rattle.std.proofs.Math.Nat.{mod-eq_of_lt}
use Rattle.laz_models.specs.Place.{counting_in}
use Rattle.laz_models.specs.Near.{IsNear}
use Rattle.laz_models.proofs.Lookups.{search-few, step-within}
use Rattle.laz_models.proofs.lookup.near.Goals as goal

pub overflow_cast-entry : goal.overflow_cast-entry
overflow_cast-entry c = omega (arith, c.requires.entry, search-few c.args.place.now.size)

pub returns-then-place : goal.returns-then-place
returns-then-place c =
    let place = c.args.place.now in
    subst (λ (k : ℕ). IsNear (counting_in c.args.cells.now place).starts (c.args.entry * 2 ^ k) c.near_in_table.result) c.requires.placed.model.shape.shift
    (rw (← c.distribution-dist.ensures.starts) c.near_in_table.ensures)

pub returns : goal.returns
returns c =
    let place = c.args.place.now in
    let shift = c.requires.placed.model.shape.shift in
    let fits : (c.args.entry * 2 ^ place.shift) % 4294967296 ≡ c.args.entry * 2 ^ place.shift = rw shift (mod-eq_of_lt (omega (arith, step-within place.size c.args.entry c.requires.entry))) in
    let here = rw fits at c.near_without_table.ensures in
    subst (λ (k : ℕ). IsNear (counting_in c.args.cells.now place).starts (c.args.entry * 2 ^ k) c.near_without_table.result) shift here
