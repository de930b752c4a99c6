use Rattle.std.proofs.Common.{◌++◌, [], ◌∷◌, List, subst, refl}
use Rattle.std.specs.Int.{w32, cast_signed}
use Rattle.laz_range.specs.Coding.{Codes}
use Rattle.laz_integer.specs.Events.{Event, cuts_after}
use Rattle.laz_integer.specs.Integer.{IntEvents}
use Rattle.laz_gpstime.specs.Meanings.{time_kind}
use Rattle.laz_gpstime.specs.State.{state_of}
use Rattle.laz_gpstime.specs.Slots.{ModelsStand, slot_of}
use Rattle.laz_gpstime.specs.Times.{time_symbol}
use Rattle.laz_gpstime.proofs.Coded.{near-other, near-same, stand-still, two-codes, two-stand}
use Rattle.laz_gpstime.proofs.Points.{point-state}
use Rattle.laz_gpstime.proofs.coding.put_near.Goals as goal

pub returns-then-word-eq0-clause-codes : goal.returns-then-word-eq0-clause-codes
returns-then-word-eq0-clause-codes c earlier h =
    subst (λ (es : List Event). Codes c.args.encoder.now c.put_time_symbol.new.encoder (cuts_after earlier es))
    (near-same (slot_of (state_of c.args.times.now)) c.same_symbol-symbol.result c.difference_word-word.result c.args.time (rw c.current-slot.ensures at c.difference_word-word.ensures) c.if-word-eq0.true (rw c.current-slot.ensures at c.same_symbol-symbol.ensures))
    (c.put_time_symbol.ensures.codes earlier h)

pub returns-then-word-eq0-clause-stands : goal.returns-then-word-eq0-clause-stands
returns-then-word-eq0-clause-stands c earlier h =
    let new = state_of (record { sequences = c.add_point.new.sequences; symbols = c.put_time_symbol.new.times.symbols; integers = c.put_time_symbol.new.times.integers }) in
    subst (λ (es : List Event). ModelsStand (earlier ++ es) new)
    (near-same (slot_of (state_of c.args.times.now)) c.same_symbol-symbol.result c.difference_word-word.result c.args.time (rw c.current-slot.ensures at c.difference_word-word.ensures) c.if-word-eq0.true (rw c.current-slot.ensures at c.same_symbol-symbol.ensures))
    (stand-still _ (state_of c.put_time_symbol.new.times) new refl refl (c.put_time_symbol.ensures.stands earlier h))

pub returns-clause-state : goal.returns-clause-state
returns-clause-state c =
    let new = state_of (record { sequences = c.add_point-2.new.sequences; symbols = c.put_word.new.times.symbols; integers = c.put_word.new.times.integers }) in
    point-state (state_of c.put_word.new.times) new _ c.args.time c.put_word.ensures.state c.add_point-2.ensures refl refl

pub returns-clause-codes : goal.returns-clause-codes
returns-clause-codes c earlier h =
    let here = slot_of (state_of c.args.times.now) in
    let s = c.difference_symbol-symbol.result in
    let first = time_symbol here.difference s ∷ [] in
    let rest = IntEvents time_kind 32 c.context.result (cast_signed w32 c.predicted-pred.result) (cast_signed w32 c.difference_word-word.result) in
    subst (λ (es : List Event). Codes c.args.encoder.now c.put_word.new.encoder (cuts_after earlier es))
    (near-other here s c.difference_word-word.result c.args.time c.predicted-pred.result c.context.result (rw c.current-slot.ensures at c.difference_word-word.ensures) c.if-word-eq0.false (rw c.current-slot.ensures at c.difference_symbol-symbol.ensures.symbol) (rw c.current-slot.ensures at c.predicted-pred.ensures) (rw c.current-slot.ensures at c.context.ensures.context))
    (two-codes _ c.put_time_symbol-2.new.encoder _ earlier first rest (c.put_time_symbol-2.ensures.codes earlier h) (c.put_word.ensures.codes (earlier ++ first) (c.put_time_symbol-2.ensures.stands earlier h)))

pub returns-clause-stands : goal.returns-clause-stands
returns-clause-stands c earlier h =
    let here = slot_of (state_of c.args.times.now) in
    let s = c.difference_symbol-symbol.result in
    let first = time_symbol here.difference s ∷ [] in
    let rest = IntEvents time_kind 32 c.context.result (cast_signed w32 c.predicted-pred.result) (cast_signed w32 c.difference_word-word.result) in
    let new = state_of (record { sequences = c.add_point-2.new.sequences; symbols = c.put_word.new.times.symbols; integers = c.put_word.new.times.integers }) in
    subst (λ (es : List Event). ModelsStand (earlier ++ es) new)
    (near-other here s c.difference_word-word.result c.args.time c.predicted-pred.result c.context.result (rw c.current-slot.ensures at c.difference_word-word.ensures) c.if-word-eq0.false (rw c.current-slot.ensures at c.difference_symbol-symbol.ensures.symbol) (rw c.current-slot.ensures at c.predicted-pred.ensures) (rw c.current-slot.ensures at c.context.ensures.context))
    (two-stand earlier first rest new (stand-still _ (state_of c.put_word.new.times) new refl refl (c.put_word.ensures.stands (earlier ++ first) (c.put_time_symbol-2.ensures.stands earlier h))))
