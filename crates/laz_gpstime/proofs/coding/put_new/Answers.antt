use Rattle.std.proofs.Common.{◌++◌, [], ◌∷◌, List, subst, refl}
use Rattle.std.specs.Int.{w32, cast_signed}
use Rattle.laz_range.specs.Coding.{Codes}
use Rattle.laz_integer.specs.Events.{Event, cuts_after, raw_events}
use Rattle.laz_integer.specs.Integer.{IntEvents}
use Rattle.laz_gpstime.specs.Meanings.{time_kind}
use Rattle.laz_gpstime.specs.State.{state_of}
use Rattle.laz_gpstime.specs.Slots.{ModelsStand, slot_of}
use Rattle.laz_gpstime.specs.Times.{time_symbol}
use Rattle.laz_gpstime.proofs.Coded.{new-is-made, raw-codes, raw-stands, stand-still, two-codes, two-stand}
use Rattle.laz_gpstime.proofs.coding.put_new.Goals as goal

pub returns-clause-codes : goal.returns-clause-codes
returns-clause-codes c earlier h =
    let here = slot_of (state_of c.args.times.now) in
    let first = time_symbol here.difference c.new_symbol.result ∷ [] in
    let rest = IntEvents time_kind 32 8 (cast_signed w32 c.high.result) (cast_signed w32 c.high-2.result) in
    let low = raw_events 32 c.low.result in
    subst (λ (es : List Event). Codes c.args.encoder.now c.raw.new.self (cuts_after earlier es))
    (new-is-made here c.args.time c.new_symbol.result c.high.result c.high-2.result c.low.result (rw c.current-slot.ensures at c.new_symbol.ensures) (rw c.current-slot.ensures at c.high.ensures) c.high-2.ensures c.low.ensures)
    (two-codes _ c.put_time_symbol.new.encoder _ earlier first (rest ++ low) (c.put_time_symbol.ensures.codes earlier h)
    (two-codes _ c.put_word.new.encoder _ (earlier ++ first) rest low (c.put_word.ensures.codes (earlier ++ first) (c.put_time_symbol.ensures.stands earlier h)) (raw-codes _ _ ((earlier ++ first) ++ rest) 32 c.low.result c.raw.ensures)))

pub returns-clause-stands : goal.returns-clause-stands
returns-clause-stands c earlier h =
    let here = slot_of (state_of c.args.times.now) in
    let first = time_symbol here.difference c.new_symbol.result ∷ [] in
    let rest = IntEvents time_kind 32 8 (cast_signed w32 c.high.result) (cast_signed w32 c.high-2.result) in
    let low = raw_events 32 c.low.result in
    let new = state_of (record { sequences = c.open_sequence.new.sequences; symbols = c.put_word.new.times.symbols; integers = c.put_word.new.times.integers }) in
    let stood = stand-still _ (state_of c.put_word.new.times) new refl refl (c.put_word.ensures.stands (earlier ++ first) (c.put_time_symbol.ensures.stands earlier h)) in
    subst (λ (es : List Event). ModelsStand (earlier ++ es) new)
    (new-is-made here c.args.time c.new_symbol.result c.high.result c.high-2.result c.low.result (rw c.current-slot.ensures at c.new_symbol.ensures) (rw c.current-slot.ensures at c.high.ensures) c.high-2.ensures c.low.ensures)
    (two-stand earlier first (rest ++ low) new (two-stand (earlier ++ first) rest low new (raw-stands ((earlier ++ first) ++ rest) 32 c.low.result new stood)))
