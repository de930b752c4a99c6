use Rattle.std.proofs.Common.{◌-◌, ◌/◌, ◌%◌, ◌^◌, [], ◌∷◌, arith}
use Rattle.std.proofs.lemmas.Nat.{and_mask, one_shl}
use Rattle.laz_range.specs.Cut.{raw_cuts}
use Rattle.laz_range.proofs.Public.{Codes-append}
use Rattle.laz_integer.specs.Integer.{symbol_cut, high_at}
use Rattle.laz_integer.specs.Models.{state_of}
use Rattle.laz_integer.proofs.Choices.{cuts-narrow, cuts-wide, next-narrow, next-wide}
use Rattle.laz_integer.proofs.models.put_digits.Goals as goal

pub returns-then-k-le-HIGH_BITS-clause-codes : goal.returns-then-k-le-HIGH_BITS-clause-codes
returns-then-k-le-HIGH_BITS-clause-codes c =
    rw (cuts-narrow (state_of c.args.models.now) c.args.k c.args.v c.requires.some c.if-k-le-HIGH_BITS.true)
    (rw (c.high_digits.ensures.narrow c.if-k-le-HIGH_BITS.true) at c.put_high.ensures.codes)

pub returns-then-k-le-HIGH_BITS-clause-next : goal.returns-then-k-le-HIGH_BITS-clause-next
returns-then-k-le-HIGH_BITS-clause-next c =
    rw (next-narrow (state_of c.args.models.now) c.args.k c.args.v c.requires.some c.if-k-le-HIGH_BITS.true)
    (rw (c.high_digits.ensures.narrow c.if-k-le-HIGH_BITS.true) at c.put_high.ensures.next)

pub returns-clause-codes : goal.returns-clause-codes
returns-clause-codes c =
    let raw = rw (one_shl (c.args.k - 8) 32 (omega arith), and_mask c.args.v (c.args.k - 8)) at c.raw.ensures in
    let high = rw (c.high_digits.ensures.wide c.if-k-le-HIGH_BITS.false) at c.put_high.ensures.codes in
    rw (cuts-wide (state_of c.args.models.now) c.args.k c.args.v c.if-k-le-HIGH_BITS.false c.requires.small)
    (Codes-append _ _ _ (symbol_cut (high_at (state_of c.args.models.now) c.args.k) (c.args.v / 2 ^ (c.args.k - 8)) ∷ []) (raw_cuts (c.args.k - 8) (c.args.v % 2 ^ (c.args.k - 8))) high raw)

pub returns-clause-next : goal.returns-clause-next
returns-clause-next c =
    rw (next-wide (state_of c.args.models.now) c.args.k c.args.v c.if-k-le-HIGH_BITS.false c.requires.small)
    (rw (c.high_digits.ensures.wide c.if-k-le-HIGH_BITS.false) at c.put_high.ensures.next)
