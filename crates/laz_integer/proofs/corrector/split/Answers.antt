use Rattle.std.proofs.Common.{◌≡◌, ◌-◌, ◌*◌, ◌^◌, ◌%◌, ◌<◌, arith}
use Rattle.std.proofs.lemmas.Nat.{one_shl, pow_pos}
use Rattle.laz_integer.proofs.Correctors.{twice, split-full, split-any}
use Rattle.laz_integer.proofs.corrector.split.Goals as goal

pub magnitude-size-requires-clause-fits : goal.magnitude-size-requires-clause-fits
magnitude-size-requires-clause-fits c =
    let half : 1 * 2 ^ (c.args.bits - 1) % 4294967296 ≡ 2 ^ (c.args.bits - 1) = one_shl (c.args.bits - 1) 32 (omega arith) in
    rw half (omega (arith, twice c.args.bits c.requires.some))

pub magnitude-size-requires-clause-some : goal.magnitude-size-requires-clause-some
magnitude-size-requires-clause-some c =
    let half : 1 * 2 ^ (c.args.bits - 1) % 4294967296 ≡ 2 ^ (c.args.bits - 1) = one_shl (c.args.bits - 1) 32 (omega arith) in
    rw half (pow_pos (c.args.bits - 1))

pub returns-then-width-eq-MAX_BITS : goal.returns-then-width-eq-MAX_BITS
returns-then-width-eq-MAX_BITS c =
    let half : 1 * 2 ^ (c.args.bits - 1) % 4294967296 ≡ 2 ^ (c.args.bits - 1) = one_shl (c.args.bits - 1) 32 (omega arith) in
    let size = c.magnitude-size.ensures in
    let digits = c.binary_digits-width.ensures in
    let r = split-full c.args.bits c.binary_digits-width.result c.magnitude-size.result c.args.difference c.requires.some c.requires.few c.requires.fits (rw half at size.up) (rw half at size.down) c.if-width-eq-MAX_BITS.true (digits.least (omega (arith, c.if-width-eq-MAX_BITS.true))) digits.digits in
    record { width = r.width; index = r.index; digits = r.digits; value = r.value; makes = r.makes }

pub returns : goal.returns
returns c =
    let half : 1 * 2 ^ (c.args.bits - 1) % 4294967296 ≡ 2 ^ (c.args.bits - 1) = one_shl (c.args.bits - 1) 32 (omega arith) in
    let size = c.magnitude-size.ensures in
    let digits = c.binary_digits-width.ensures in
    let small : c.binary_digits-width.result < 32 = omega (arith, digits.few, c.if-width-eq-MAX_BITS.false) in
    let r = split-any c.args.bits c.binary_digits-width.result c.magnitude-size.result c.index_in_width.result c.args.difference c.requires.some c.requires.few c.requires.fits (rw half at size.up) (rw half at size.down) small digits.none digits.least digits.above digits.digits (rw half at c.index_in_width.ensures.bit) (rw half at c.index_in_width.ensures.up) (rw half at c.index_in_width.ensures.down) in
    record { width = r.width; index = r.index; digits = r.digits; value = r.value; makes = r.makes }
