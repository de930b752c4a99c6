use Rattle.std.proofs.Common.{◌≡◌, ◌^◌, ◌<◌, sym, refl, arith}
use Rattle.std.proofs.lemmas.Result.{err_from_is_err_and}
use Rattle.laz_integer.specs.Corrector.{choices}
use Rattle.laz_integer.specs.Models.{state_of}
use Rattle.laz_integer.proofs.Correctors.{choices-more}
use Rattle.laz_integer.proofs.Choices.{Reads-equal, zero-takes, zero-none, most-takes, bit_back, next-zero, next-most}
use Rattle.laz_integer.proofs.Sounds.{bit-after}
use Rattle.laz_integer.proofs.models.take_rest.Goals as goal

pub returns-in_err-bit-clause-reads : goal.returns-in_err-bit-clause-reads
returns-in_err-bit-clause-reads c =
    let p = err_from_is_err_and c.from_residual.result c.from_residual.ensures.1 in
    rw (p.1, c.if-k-eq0.true) (zero-none (state_of c.args.models.now) c.args.decoder.now c.take_bit.new.decoder c.in_err-bit.ensures.reads)

pub returns-then-k-eq0-clause-reads : goal.returns-then-k-eq0-clause-reads
returns-then-k-eq0-clause-reads c =
    rw c.if-k-eq0.true (zero-takes (state_of c.args.models.now) c.in_ok-bit.bit c.args.decoder.now c.take_bit.new.decoder c.in_ok-bit.ensures.reads)

pub returns-then-k-eq0-clause-next : goal.returns-then-k-eq0-clause-next
returns-then-k-eq0-clause-next c = rw (c.if-k-eq0.true, next-zero, bit_back c.in_ok-bit.bit, c.in_ok-bit.ensures.after_symbol) refl

pub returns-then-k-eq-MAX_BITS-clause-reads : goal.returns-then-k-eq-MAX_BITS-clause-reads
returns-then-k-eq-MAX_BITS-clause-reads c = rw c.if-k-eq-MAX_BITS.true (most-takes (state_of c.args.models.now) c.args.decoder.now c.requires.within c.requires.good)

pub returns-then-k-eq-MAX_BITS-clause-next : goal.returns-then-k-eq-MAX_BITS-clause-next
returns-then-k-eq-MAX_BITS-clause-next c = rw c.if-k-eq-MAX_BITS.true (sym (next-most (state_of c.args.models.now) 0))

pub take_digits-requires-clause-small : goal.take_digits-requires-clause-small
take_digits-requires-clause-small c = omega (arith, c.if-k-eq-MAX_BITS.false, c.requires.range, c.requires.state.few)

pub returns-clause-reads : goal.returns-clause-reads
returns-clause-reads c =
    let small : c.args.k < 32 = omega (arith, c.if-k-eq-MAX_BITS.false, c.requires.range, c.requires.state.few) in
    let sizes : 2 ^ c.args.k ≡ choices c.args.k = sym (choices-more c.args.k (omega (arith, c.if-k-eq0.false)) small) in
    Reads-equal c.take_digits.result _ _ _ _ c.args.decoder.now c.take_digits.new.decoder (λ v h. omega (arith, h, sizes)) (λ v h. omega (arith, h, sizes)) (λ v. refl) c.take_digits.ensures.reads

pub returns-then-k-eq0-clause-state : goal.returns-then-k-eq0-clause-state
returns-then-k-eq0-clause-state c = bit-after c.take_bit.result (state_of c.args.models.now) c.take_bit.new.model c.requires.state c.take_bit.ensures.after_symbol c.take_bit.ensures.kept
