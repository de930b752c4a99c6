use Rattle.std.proofs.Common.{◌<◌, refl, arith}
use Rattle.laz_range.proofs.Public.{Codes-none}
use Rattle.laz_integer.specs.Models.{state_of}
use Rattle.laz_integer.proofs.Correctors.{choices-more}
use Rattle.laz_integer.proofs.Choices.{cuts-zero, cuts-most, next-zero, next-most}
use Rattle.laz_integer.proofs.Sounds.{IsIntState-flag}
use Rattle.laz_integer.proofs.models.put_rest.Goals as goal

pub returns-then-k-eq0-clause-codes : goal.returns-then-k-eq0-clause-codes
returns-then-k-eq0-clause-codes c = rw (c.if-k-eq0.true, cuts-zero) c.put_bit.ensures.codes

pub returns-then-k-eq0-clause-next : goal.returns-then-k-eq0-clause-next
returns-then-k-eq0-clause-next c = rw (c.if-k-eq0.true, next-zero, c.put_bit.ensures.after_symbol) refl

pub returns-then-k-eq-MAX_BITS-clause-codes : goal.returns-then-k-eq-MAX_BITS-clause-codes
returns-then-k-eq-MAX_BITS-clause-codes c = rw (c.if-k-eq-MAX_BITS.true, cuts-most) (Codes-none c.args.encoder.now)

pub returns-then-k-eq-MAX_BITS-clause-next : goal.returns-then-k-eq-MAX_BITS-clause-next
returns-then-k-eq-MAX_BITS-clause-next c = rw (c.if-k-eq-MAX_BITS.true, next-most) refl

pub put_digits-requires-clause-small : goal.put_digits-requires-clause-small
put_digits-requires-clause-small c = omega (arith, c.if-k-eq-MAX_BITS.false, c.requires.range, c.requires.state.few)

pub put_digits-requires-clause-value : goal.put_digits-requires-clause-value
put_digits-requires-clause-value c =
    let small : c.args.k < 32 = omega (arith, c.if-k-eq-MAX_BITS.false, c.requires.range, c.requires.state.few) in
    rw (choices-more c.args.k (omega (arith, c.if-k-eq0.false)) small) at c.requires.value

pub returns-then-k-eq0-clause-state : goal.returns-then-k-eq0-clause-state
returns-then-k-eq0-clause-state c = rw c.put_bit.ensures.after_symbol (IsIntState-flag (state_of c.args.models.now) _ c.requires.state)
