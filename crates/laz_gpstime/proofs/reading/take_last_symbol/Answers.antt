use Rattle.std.proofs.Common.{◌<◌, ◌≤◌, arith}
use Rattle.laz_gpstime.specs.Choices.{time_symbol_cuts}
use Rattle.laz_gpstime.specs.State.{state_of}
use Rattle.laz_gpstime.specs.Slots.{difference_of}
use Rattle.laz_gpstime.specs.Times.{new_symbol, symbols_of}
use Rattle.laz_range.proofs.Public.{Takes-fewer}
use Rattle.laz_gpstime.proofs.Fronts.{symbols-are}
use Rattle.laz_gpstime.proofs.reading.take_last_symbol.Goals as goal

pub returns-clause-reads : goal.returns-clause-reads
returns-clause-reads c =
    let st = state_of c.args.times.now in
    Takes-fewer (λ s. s < symbols_of (difference_of st)) (λ s. s ≤ new_symbol (difference_of st)) (time_symbol_cuts st) c.args.decoder.now c.take_time_symbol.new.decoder c.in_ok-symbol.symbol
    (rw (c.new_symbol-new.ensures, c.current.ensures) at c.if-symbol-new.false) (λ y q. omega (arith, q, symbols-are (difference_of st))) c.in_ok-symbol.ensures.reads
