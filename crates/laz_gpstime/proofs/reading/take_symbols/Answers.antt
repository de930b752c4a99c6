use Rattle.std.proofs.Common.{◌≡◌, ℕ, ◌-◌, ◌<◌, ◌∙◌, ap, refl, arith}
use Rattle.std.proofs.lemmas.Result.{err_from_is_err_and}
use Rattle.laz_gpstime.specs.Choices.{switch_next}
use Rattle.laz_gpstime.specs.State.{state_of}
use Rattle.laz_gpstime.specs.Slots.{difference_of, after_switch}
use Rattle.laz_gpstime.specs.Times.{new_symbol}
use Rattle.laz_gpstime.proofs.Fronts.{first-after, first-none, first-plain, gone-is}
use Rattle.laz_gpstime.proofs.reading.take_symbols.Goals as goal

pub returns-in_err-symbol-clause-reads : goal.returns-in_err-symbol-clause-reads
returns-in_err-symbol-clause-reads c =
    let p = err_from_is_err_and c.from_residual.result c.from_residual.ensures.1 in
    rw p.1 (first-none (state_of c.args.times.now) c.args.decoder.now c.take_time_symbol.new.decoder c.in_err-symbol.ensures.reads)

pub returns-then-symbol-new-clause-reads : goal.returns-then-symbol-new-clause-reads
returns-then-symbol-new-clause-reads c =
    let st = state_of c.args.times.now in
    (0, first-plain st c.args.decoder.now c.take_time_symbol.new.decoder c.in_ok-symbol.symbol (rw (c.new_symbol-new.ensures, c.current.ensures) at c.if-symbol-new.true) c.in_ok-symbol.ensures.reads, c.in_ok-symbol.ensures.next)

pub returns-clause-reads : goal.returns-clause-reads
returns-clause-reads c =
    let st = state_of c.args.times.now in
    let mid = state_of (record { sequences = c.switch_by.new.sequences; symbols = c.take_time_symbol.new.times.symbols; integers = c.take_time_symbol.new.times.integers }) in
    let new : c.new_symbol-new.result ≡ new_symbol (difference_of st) = rw c.current.ensures at c.new_symbol-new.ensures in
    let switch : new_symbol (difference_of st) < c.in_ok-symbol.symbol = omega (arith, new, c.if-symbol-new.false) in
    let i : ℕ = c.in_ok-symbol.symbol - new_symbol (difference_of st) in
    let moved_is : c.switch_by.new.sequences ≡ after_switch c.take_time_symbol.new.times.sequences i = c.switch_by.ensures ∙ ap (λ n. after_switch c.take_time_symbol.new.times.sequences (c.in_ok-symbol.symbol - n)) new in
    let is : mid ≡ switch_next st i = gone-is st (state_of c.take_time_symbol.new.times) mid c.in_ok-symbol.symbol i c.in_ok-symbol.ensures.next moved_is refl refl (omega (arith, switch)) in
    first-after c.take_last_symbol.result st mid (state_of c.take_last_symbol.new.times) c.args.decoder.now c.take_time_symbol.new.decoder c.take_last_symbol.new.decoder c.in_ok-symbol.symbol switch c.in_ok-symbol.ensures.reads is c.take_last_symbol.ensures.reads c.take_last_symbol.ensures.next
