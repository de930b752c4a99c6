use Rattle.std.proofs.Common.{◌∙◌, arith}
use Rattle.laz_gpstime.specs.Meanings.{time_kind}
use Rattle.laz_gpstime.specs.State.{state_of}
use Rattle.laz_gpstime.proofs.Models.{models-count, symbol-state}
use Rattle.laz_gpstime.proofs.Starts.{start-stands, start-state}
use Rattle.laz_gpstime.proofs.gps_time.GpsTime.start.Goals as goal

pub invariant_of-self : goal.invariant_of-self
invariant_of-self c =
    let is = c.self.invariant in
    let q = c.sequences_of-self-inside in
    let i = c.reset-2.ensures in
    start-state (state_of (record { sequences = q.result; symbols = c.reset.new.self; integers = c.reset-2.new.self })) c.time_of.result q.ensures.slots q.ensures.last q.ensures.next
    (c.reset.ensures.sizes ∙ is.sizes) (record { state = i.state; bits = i.bits ∙ is.integers.bits; contexts = i.contexts ∙ is.integers.contexts })

pub returns : goal.returns
returns c =
    let is = c.self.invariant in
    let q = c.sequences_of-self-inside in
    let st = state_of c.self.inside.times in
    let count = models-count st is in
    let after = models-count (state_of (record { sequences = c.self.inside.times.sequences; symbols = c.reset.new.self; integers = c.self.inside.times.integers })) (symbol-state st c.reset.new.self is c.reset.ensures.sizes) in
    rw (← c.time_of.ensures)
    (start-stands (state_of (record { sequences = q.result; symbols = c.reset.new.self; integers = c.reset-2.new.self })) c.time_of.result q.ensures.slots q.ensures.last q.ensures.next
    (λ m within. c.reset.ensures.stands m (omega (arith, within, after, count))) (c.reset-2.ensures.stands time_kind))
