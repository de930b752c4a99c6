use Rattle.std.proofs.Common.{◌≡◌, ◌*◌, ◌%◌, ◌^◌, ◌≤◌, arith}
use Rattle.std.proofs.Math.Nat.{mod-eq_of_lt}
use Rattle.laz_models.specs.Lookup.{search_bits}
use Rattle.laz_models.proofs.Lookups.{search_bits-bounds, search-few}
use Rattle.laz_models.proofs.bank_cells.first_place.Goals as goal

pub overflow_shl-result : goal.overflow_shl-result
overflow_shl-result c = omega (arith, c.search_bits-bits.ensures, search_bits-bounds c.args.size)

pub overflow_sub-result : goal.overflow_sub-result
overflow_sub-result c = omega (arith, c.search_bits-bits.ensures, search_bits-bounds c.args.size)

pub overflow_add-result-3 : goal.overflow_add-result-3
overflow_add-result-3 c =
    let few : 2 ^ c.search_bits-bits.result ≤ 2048 = rw c.search_bits-bits.ensures (search-few c.args.size) in
    let fits : (1 * 2 ^ c.search_bits-bits.result) % 18446744073709551616 ≡ 1 * 2 ^ c.search_bits-bits.result = mod-eq_of_lt (omega arith) in
    omega arith

pub returns-clause-shape : goal.returns-clause-shape
returns-clause-shape c =
    let few : 2 ^ search_bits c.args.size ≤ 2048 = search-few c.args.size in
    let fits : (1 * 2 ^ search_bits c.args.size) % 18446744073709551616 ≡ 1 * 2 ^ search_bits c.args.size = mod-eq_of_lt (omega arith) in
    rw c.search_bits-bits.ensures
    (record {
      many = c.requires.many;
      few = c.requires.few;
      shift = omega arith;
      extent = omega (arith, fits);
    })
