use Rattle.std.proofs.Common.{refl}
use Rattle.std.proofs.lemmas.Result.{err_from_is_err_and}
use Rattle.laz_gpstime.specs.State.{state_of}
use Rattle.laz_gpstime.specs.Slots.{difference_of, slot_of}
use Rattle.laz_gpstime.proofs.Rests.{new-next, new-none_high, new-none_low, new-takes, new-time}
use Rattle.laz_gpstime.proofs.reading.take_new.Goals as goal

pub returns-in_err-word-clause-reads : goal.returns-in_err-word-clause-reads
returns-in_err-word-clause-reads c =
    let p = err_from_is_err_and c.from_residual.result c.from_residual.ensures.1 in
    rw p.1 (new-none_high (state_of c.args.times.now) c.args.decoder.now c.take_word.new.decoder c.in_err-word.ensures.reads)

pub returns-in_err-low-clause-reads : goal.returns-in_err-low-clause-reads
returns-in_err-low-clause-reads c =
    let p = err_from_is_err_and c.from_residual-in_err-low.result c.from_residual-in_err-low.ensures.1 in
    let h = c.in_ok-word.ensures.reads in
    rw p.1 (new-none_low (state_of c.args.times.now) c.args.decoder.now c.take_word.new.decoder c.take_raw.new.self h.0 h.1 c.in_err-low.ensures.reads)

pub returns-clause-reads : goal.returns-clause-reads
returns-clause-reads c =
    let st = state_of c.args.times.now in
    let new = state_of (record { sequences = c.open_sequence.new.sequences; symbols = c.take_word.new.times.symbols; integers = c.take_word.new.times.integers }) in
    let h = c.in_ok-word.ensures.reads in
    let time = new-time (difference_of st) (slot_of st).time c.high.result c.in_ok-word.word c.in_ok-low.low _ h.0 (rw c.current-from.ensures at c.high.ensures) h.2 refl in (
      (h.0, c.in_ok-low.low),
      new-takes st c.args.decoder.now c.take_word.new.decoder c.take_raw.new.self h.0 c.in_ok-low.low h.1 c.in_ok-low.ensures.reads,
      time,
      new-next st new _ (h.0, c.in_ok-low.low) time (rw c.in_ok-word.ensures.sequences at c.open_sequence.ensures) c.in_ok-word.ensures.symbols h.3,
    )
