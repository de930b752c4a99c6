use Rattle.std.proofs.Common.{◌≡◌, ◌-◌, ◌*◌, ◌%◌, ◌^◌, ◌<◌, ℕ, ap, ◌∙◌, subst, arith}
use Rattle.std.proofs.Math.Nat.{mod-eq_of_lt}
use Rattle.laz_models.specs.Lookup.{IsLastAt, search_bits, table_bits}
use Rattle.laz_models.specs.Place.{counting_in}
use Rattle.laz_models.proofs.Lookups.{entry-kept, places, search-few, table_bits-below, table_bits-bounds, table_bits-le, search_bits-bounds}
use Rattle.laz_models.proofs.lookup.entry.Goals as goal

pub overflow_shl-bits : goal.overflow_shl-bits
overflow_shl-bits c = omega (arith, c.table_bits-bits.ensures, table_bits-bounds c.args.place.now.size)

pub overflow_sub-bits : goal.overflow_sub-bits
overflow_sub-bits c = omega (arith, c.table_bits-bits.ensures, table_bits-bounds c.args.place.now.size)

pub overflow_sub-bits-2 : goal.overflow_sub-bits-2
overflow_sub-bits-2 c = omega (arith, c.table_bits-bits.ensures, c.requires.placed.model.shape.shift, table_bits-le c.args.place.now.size, search_bits-bounds c.args.place.now.size)

pub near-requires-clause-entry : goal.near-requires-clause-entry
near-requires-clause-entry c =
    let n = c.args.place.now.size in
    let all : 1 * 2 ^ c.table_bits-bits.result % 4294967296 ≡ 2 ^ table_bits n = rw c.table_bits-bits.ensures (table_bits-below n) in
    let below : c.args.t < 2 ^ table_bits n = omega (arith, all, c.if-t-bits.false, c.requires.entry) in
    let kept = entry-kept n c.args.t below in
    let more : 15 - c.table_bits-bits.result - c.args.place.now.shift ≡ search_bits n - table_bits n = omega (arith, c.table_bits-bits.ensures, c.requires.placed.model.shape.shift, search_bits-bounds n, table_bits-le n) in
    let fits : c.args.t * 2 ^ (search_bits n - table_bits n) % 18446744073709551616 ≡ c.args.t * 2 ^ (search_bits n - table_bits n) = mod-eq_of_lt (omega (arith, kept.within, search-few n)) in
    rw (more, fits) kept.within

pub returns-then-t-bits : goal.returns-then-t-bits
returns-then-t-bits c =
    let n = c.args.place.now.size in
    let all : 1 * 2 ^ c.table_bits-bits.result % 4294967296 ≡ 2 ^ table_bits n = rw c.table_bits-bits.ensures (table_bits-below n) in
    let is : c.args.t ≡ 2 ^ table_bits n = c.if-t-bits.true ∙ all in
    let whole : c.args.t * 2 ^ (15 - table_bits n) ≡ 32768 = ap (λ t. t * 2 ^ (15 - table_bits n)) is ∙ places (table_bits n) (omega (arith, table_bits-bounds n)) in
    rw whole c.find.ensures

pub returns : goal.returns
returns c =
    let n = c.args.place.now.size in
    let starts = (counting_in c.args.cells.now c.args.place.now).starts in
    let all : 1 * 2 ^ c.table_bits-bits.result % 4294967296 ≡ 2 ^ table_bits n = rw c.table_bits-bits.ensures (table_bits-below n) in
    let below : c.args.t < 2 ^ table_bits n = omega (arith, all, c.if-t-bits.false, c.requires.entry) in
    let kept = entry-kept n c.args.t below in
    let more : 15 - c.table_bits-bits.result - c.args.place.now.shift ≡ search_bits n - table_bits n = omega (arith, c.table_bits-bits.ensures, c.requires.placed.model.shape.shift, search_bits-bounds n, table_bits-le n) in
    let fits : c.args.t * 2 ^ (search_bits n - table_bits n) % 18446744073709551616 ≡ c.args.t * 2 ^ (search_bits n - table_bits n) = mod-eq_of_lt (omega (arith, kept.within, search-few n)) in
    let near = rw (more, fits) at c.near.ensures.symbol in
    subst (λ (v : ℕ). IsLastAt starts v c.near.result.symbol) kept.place near
