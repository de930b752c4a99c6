use Rattle.std.proofs.Common.{◌+◌, ◌-◌, ◌*◌, ◌^◌, ◌∙◌, sym, arith}
use Rattle.std.proofs.lemmas.Result.{err_from_is_err_and}
use Rattle.laz_integer.specs.Models.{state_of}
use Rattle.laz_integer.proofs.Choices.{digits-narrow, digits-none_high, digits-none_low, digits-wide, next-narrow, next-wide, wide_below, wide_whole, wide_fits, high_is}
use Rattle.laz_integer.proofs.models.take_digits.Goals as goal

pub returns-in_err-high-clause-reads : goal.returns-in_err-high-clause-reads
returns-in_err-high-clause-reads c =
    let p = err_from_is_err_and c.from_residual.result c.from_residual.ensures.1 in
    rw p.1 (digits-none_high (state_of c.args.models.now) c.args.k c.args.decoder.now c.take_high.new.decoder c.requires.some c.requires.small c.in_err-high.ensures.reads)

pub returns-then-k-le-HIGH_BITS-clause-reads : goal.returns-then-k-le-HIGH_BITS-clause-reads
returns-then-k-le-HIGH_BITS-clause-reads c =
    digits-narrow (state_of c.args.models.now) c.args.k c.in_ok-high.high c.args.decoder.now c.take_high.new.decoder c.requires.some c.if-k-le-HIGH_BITS.true c.in_ok-high.ensures.reads

pub returns-then-k-le-HIGH_BITS-clause-next : goal.returns-then-k-le-HIGH_BITS-clause-next
returns-then-k-le-HIGH_BITS-clause-next c =
    c.in_ok-high.ensures.next ∙ sym (next-narrow (state_of c.args.models.now) c.args.k c.in_ok-high.high c.requires.some c.if-k-le-HIGH_BITS.true)

pub returns-in_err-low-clause-reads : goal.returns-in_err-low-clause-reads
returns-in_err-low-clause-reads c =
    let p = err_from_is_err_and c.from_residual-in_err-low.result c.from_residual-in_err-low.ensures.1 in
    rw p.1 (digits-none_low (state_of c.args.models.now) c.args.k c.in_ok-high.high c.args.decoder.now c.take_high.new.decoder c.take_raw.new.self c.if-k-le-HIGH_BITS.false c.requires.small c.in_ok-high.ensures.reads c.in_err-low.ensures.reads)

pub overflow_add-result : goal.overflow_add-result
overflow_add-result c =
    let high = c.in_ok-high.ensures.reads.choice.asked in
    let low = c.in_ok-low.ensures.reads.choice.asked in
    let wide = c.if-k-le-HIGH_BITS.false in
    rw (wide_whole c.args.k c.in_ok-high.high wide c.requires.small high)
    (omega (arith, wide_fits c.args.k (c.in_ok-high.high * 2 ^ (c.args.k - 8) + c.in_ok-low.low) c.requires.small (wide_below c.args.k c.in_ok-high.high c.in_ok-low.low wide high low)))

pub returns-clause-reads : goal.returns-clause-reads
returns-clause-reads c =
    let wide = c.if-k-le-HIGH_BITS.false in
    rw (wide_whole c.args.k c.in_ok-high.high wide c.requires.small c.in_ok-high.ensures.reads.choice.asked)
    (digits-wide (state_of c.args.models.now) c.args.k c.in_ok-high.high c.in_ok-low.low c.args.decoder.now c.take_high.new.decoder c.take_raw.new.self wide c.requires.small c.in_ok-high.ensures.reads c.in_ok-low.ensures.reads)

pub returns-clause-next : goal.returns-clause-next
returns-clause-next c =
    let wide = c.if-k-le-HIGH_BITS.false in
    let high = c.in_ok-high.high in
    let low = c.in_ok-low.low in
    rw (
      wide_whole c.args.k high wide c.requires.small c.in_ok-high.ensures.reads.choice.asked,
      next-wide (state_of c.args.models.now) c.args.k (high * 2 ^ (c.args.k - 8) + low) wide c.requires.small,
      high_is c.args.k high low c.in_ok-low.ensures.reads.choice.asked,
    )
    c.in_ok-high.ensures.next
