use Rattle.std.proofs.Common.{◌≡◌, ◌*◌, ◌%◌, ◌^◌, ◌≤◌, arith}
use Rattle.std.proofs.Math.Nat.{mod-eq_of_lt}
use Rattle.laz_models.proofs.Lookups.{search_bits-bounds, search-few}
use Rattle.laz_models.proofs.model_cells.even_cells.Goals as goal

pub overflow_shl-bits : goal.overflow_shl-bits
overflow_shl-bits c = omega (arith, c.requires.bits, search_bits-bounds c.args.size)

pub overflow_add-counts-2 : goal.overflow_add-counts-2
overflow_add-counts-2 c =
    let few : 2 ^ c.args.bits ≤ 2048 = rw c.requires.bits (search-few c.args.size) in
    let fits : (1 * 2 ^ c.args.bits) % 18446744073709551616 ≡ 1 * 2 ^ c.args.bits = mod-eq_of_lt (omega arith) in
    omega arith

pub write_even-requires-clause-length : goal.write_even-requires-clause-length
write_even-requires-clause-length c =
    let few : 2 ^ c.args.bits ≤ 2048 = rw c.requires.bits (search-few c.args.size) in
    let fits : (1 * 2 ^ c.args.bits) % 18446744073709551616 ≡ 1 * 2 ^ c.args.bits = mod-eq_of_lt (omega arith) in
    rw (c.deref_mut.ensures.value, ← c.requires.bits) (omega (arith, fits, c.in_ok-cells.ensures.len))
