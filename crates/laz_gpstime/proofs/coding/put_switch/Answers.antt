use Rattle.std.proofs.Common.{List, subst, sym, refl, ◌++◌}
use Rattle.laz_integer.specs.Events.{Event, cuts_after}
use Rattle.laz_range.specs.Coding.{Codes}
use Rattle.laz_gpstime.specs.State.{state_of}
use Rattle.laz_gpstime.specs.Slots.{ModelsStand, difference_of}
use Rattle.laz_gpstime.proofs.Coded.{some-switch, stand-still}
use Rattle.laz_gpstime.proofs.coding.put_switch.Goals as goal

pub returns-clause-codes : goal.returns-clause-codes
returns-clause-codes c earlier h =
    let st = state_of c.args.times.now in
    subst (λ (es : List Event). Codes c.args.encoder.now c.put_time_symbol.new.encoder (cuts_after earlier es)) (sym (some-switch (difference_of st) c.args.i c.if-i-eq0.false)) (rw (c.new_symbol.ensures, c.current-difference.ensures) at (c.put_time_symbol.ensures.codes earlier h))

pub returns-clause-stands : goal.returns-clause-stands
returns-clause-stands c earlier h =
    let st = state_of c.args.times.now in
    let new = state_of (record { sequences = c.switch_by.new.sequences; symbols = c.put_time_symbol.new.times.symbols; integers = c.put_time_symbol.new.times.integers }) in
    let stood = stand-still _ (state_of c.put_time_symbol.new.times) new refl refl (c.put_time_symbol.ensures.stands earlier h) in
    subst (λ (es : List Event). ModelsStand (earlier ++ es) new) (sym (some-switch (difference_of st) c.args.i c.if-i-eq0.false)) (rw (c.new_symbol.ensures, c.current-difference.ensures) at stood)
