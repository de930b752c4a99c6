use Rattle.std.proofs.Common.{refl}
use Rattle.std.proofs.lemmas.Result.{err_from_is_err_and}
use Rattle.laz_gpstime.specs.State.{state_of}
use Rattle.laz_gpstime.specs.Slots.{difference_of, slot_of}
use Rattle.laz_gpstime.proofs.Rests.{is-near, near-next, near-none, near-takes, near-time}
use Rattle.laz_gpstime.proofs.Points.{point-state}
use Rattle.laz_gpstime.proofs.reading.take_near.Goals as goal

pub returns-in_err-word-clause-reads : goal.returns-in_err-word-clause-reads
returns-in_err-word-clause-reads c =
    let p = err_from_is_err_and c.from_residual.result c.from_residual.ensures.1 in
    let st = state_of c.args.times.now in
    rw p.1 (near-none st c.args.symbol c.context.result c.args.decoder.now c.take_word.new.decoder (is-near (difference_of st) c.args.symbol c.requires.below c.requires.differs) (rw c.current-slot.ensures at c.context.ensures.context) c.in_err-word.ensures.reads)

pub returns-clause-state : goal.returns-clause-state
returns-clause-state c =
    let new = state_of (record { sequences = c.add_point.new.sequences; symbols = c.take_word.new.times.symbols; integers = c.take_word.new.times.integers }) in
    point-state (state_of c.take_word.new.times) new _ c.time_plus-time.result c.take_word.ensures.state c.add_point.ensures refl refl

pub returns-clause-reads : goal.returns-clause-reads
returns-clause-reads c =
    let st = state_of c.args.times.now in
    let new = state_of (record { sequences = c.add_point.new.sequences; symbols = c.take_word.new.times.symbols; integers = c.take_word.new.times.integers }) in
    let h = c.in_ok-word.ensures.reads in
    let near = is-near (difference_of st) c.args.symbol c.requires.below c.requires.differs in
    let ctx = rw c.current-slot.ensures at c.context.ensures.context in
    let time = near-time (difference_of st) (slot_of st).time c.args.symbol c.predicted-pred.result c.in_ok-word.word c.time_plus-time.result h.0 near (rw c.current-slot.ensures at c.predicted-pred.ensures) h.2 (rw c.current-slot.ensures at c.time_plus-time.ensures) in (
      (h.0, 0),
      near-takes st c.args.symbol c.context.result c.args.decoder.now c.take_word.new.decoder h.0 near ctx h.1,
      time,
      near-next st new c.args.symbol c.context.result c.time_plus-time.result h.0 near ctx time (rw c.in_ok-word.ensures.sequences at c.add_point.ensures) c.in_ok-word.ensures.symbols h.3,
    )
