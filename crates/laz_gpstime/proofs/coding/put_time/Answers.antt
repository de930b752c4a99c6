use Rattle.std.proofs.Common.{◌≡◌, ◌++◌, ℕ, Option, subst}
use Rattle.laz_range.specs.Coding.{Codes}
use Rattle.laz_integer.specs.Events.{cuts_after}
use Rattle.laz_gpstime.specs.State.{state_of}
use Rattle.laz_gpstime.specs.Slots.{ModelsStand, after_coded, after_switch, difference_of, slot_at, state_events}
use Rattle.laz_gpstime.specs.Times.{near_events, switch_events}
use Rattle.laz_gpstime.proofs.Coded.{two-codes, two-stand}
use Rattle.laz_gpstime.proofs.coding.put_time.Goals as goal

pub returns-in-Some-clause-sequences : goal.returns-in-Some-clause-sequences
returns-in-Some-clause-sequences g c =
    let old = c.args.times.now.sequences in
    subst (λ (o : Option ℕ). c.put_near.new.times.sequences ≡ after_coded old c.args.time o) c.in-Some.ensures.nearest
    (rw c.put_switch.ensures.sequences at c.put_near.ensures.sequences)

pub returns-in-Some-clause-codes : goal.returns-in-Some-clause-codes
returns-in-Some-clause-codes g c earlier h =
    let st = state_of c.args.times.now in
    let first = switch_events (difference_of st) c.in-Some.i in
    let slot = slot_at (after_switch st.sequences c.in-Some.i) (after_switch st.sequences c.in-Some.i).last in
    subst (λ (o : Option ℕ). Codes c.args.encoder.now c.put_near.new.encoder (cuts_after earlier (state_events st c.args.time o))) c.in-Some.ensures.nearest
    (two-codes _ c.put_switch.new.encoder _ earlier first (near_events slot.difference slot.time c.args.time) (c.put_switch.ensures.codes earlier h)
    (rw c.put_switch.ensures.sequences at (c.put_near.ensures.codes (earlier ++ first) (c.put_switch.ensures.stands earlier h))))

pub returns-in-Some-clause-stands : goal.returns-in-Some-clause-stands
returns-in-Some-clause-stands g c earlier h =
    let st = state_of c.args.times.now in
    let first = switch_events (difference_of st) c.in-Some.i in
    let slot = slot_at (after_switch st.sequences c.in-Some.i) (after_switch st.sequences c.in-Some.i).last in
    subst (λ (o : Option ℕ). ModelsStand (earlier ++ state_events st c.args.time o) (state_of c.put_near.new.times)) c.in-Some.ensures.nearest
    (two-stand earlier first (near_events slot.difference slot.time c.args.time) (state_of c.put_near.new.times)
    (rw c.put_switch.ensures.sequences at (c.put_near.ensures.stands (earlier ++ first) (c.put_switch.ensures.stands earlier h))))

pub returns-in-None-clause-codes : goal.returns-in-None-clause-codes
returns-in-None-clause-codes g c earlier h =
    subst (λ (o : Option ℕ). Codes c.args.encoder.now c.put_new.new.encoder (cuts_after earlier (state_events (state_of c.args.times.now) c.args.time o))) c.in-None.ensures.nearest (c.put_new.ensures.codes earlier h)
