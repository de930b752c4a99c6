use Rattle.std.proofs.Common.{◌≡◌, min, arith}
use Rattle.laz_integer.proofs.Choices.{wide_parts}
use Rattle.laz_integer.proofs.models.high_digits.Goals as goal

pub returns-then-k-le-HIGH_BITS-clause-below : goal.returns-then-k-le-HIGH_BITS-clause-below
returns-then-k-le-HIGH_BITS-clause-below c =
    let least : min c.args.k 8 ≡ c.args.k = omega (arith, c.if-k-le-HIGH_BITS.true) in
    rw least c.requires.value

pub returns-clause-below : goal.returns-clause-below
returns-clause-below c = (wide_parts c.args.k c.args.v c.if-k-le-HIGH_BITS.false c.requires.value).0
