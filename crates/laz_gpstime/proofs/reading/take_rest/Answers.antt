use Rattle.std.proofs.Common.{◌≡◌, ◌∙◌, refl, ap}
use Rattle.laz_gpstime.specs.Choices.{no_rest}
use Rattle.laz_gpstime.specs.State.{state_of}
use Rattle.laz_gpstime.specs.Slots.{difference_of, slot_of}
use Rattle.laz_gpstime.specs.Times.{same_symbol}
use Rattle.laz_gpstime.specs.declared.sequences.Slot.{Slot}
use Rattle.laz_gpstime.proofs.Rests.{same-next, same-takes, same-time}
use Rattle.laz_gpstime.proofs.reading.take_rest.Goals as goal

pub returns-clause-reads : goal.returns-clause-reads
returns-clause-reads g c =
    let st = state_of c.args.times.now in
    let new = state_of (record { sequences = c.add_point.new.sequences; symbols = c.args.times.now.symbols; integers = c.args.times.now.integers }) in
    let same : c.args.symbol ≡ same_symbol (difference_of st) = c.if-symbol-same_symbol.false ∙ (rw c.current-slot.ensures at c.same_symbol.ensures) in
    let at : c.current-slot.result.time ≡ (slot_of st).time = ap (λ (s : Slot). s.time) c.current-slot.ensures in (
      no_rest,
      same-takes st c.args.symbol c.args.decoder.now same c.requires.within c.requires.good,
      at ∙ same-time (difference_of st) (slot_of st).time c.args.symbol no_rest same,
      same-next st new c.args.symbol c.current-slot.result.time no_rest same at c.add_point.ensures refl refl,
    )
