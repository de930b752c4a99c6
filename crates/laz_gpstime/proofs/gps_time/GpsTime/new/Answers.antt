use Rattle.laz_gpstime.specs.State.{state_of}
use Rattle.laz_gpstime.proofs.Starts.{start-state}
use Rattle.laz_gpstime.proofs.gps_time.GpsTime.new.Goals as goal

pub invariant_of-result : goal.invariant_of-result
invariant_of-result c =
    let q = c.sequences_of-sequences in
    let i = c.in_ok-integers.ensures in
    start-state (state_of (record { sequences = q.result; symbols = c.in_ok-symbols.symbols; integers = c.in_ok-integers.integers })) 0 q.ensures.slots q.ensures.last q.ensures.next
    c.in_ok-symbols.ensures.sizes (record { state = i.state; bits = i.bits; contexts = i.contexts })
