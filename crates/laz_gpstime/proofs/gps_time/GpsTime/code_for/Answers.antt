use Rattle.laz_gpstime.specs.State.{state_of}
use Rattle.laz_gpstime.proofs.Written.{written, written-codes}
use Rattle.laz_gpstime.proofs.gps_time.GpsTime.code_for.Goals as goal

pub returns-clause-events : goal.returns-clause-events
returns-clause-events g c earlier points h =
    let stood = rw (← c.self.view_is) at h in
    rw (← c.time_of.ensures) (written-codes _ _ earlier points (state_of c.self.inside.times) c.time_of.result stood (c.put_time.ensures.codes earlier stood.models))

pub returns-clause-stands : goal.returns-clause-stands
returns-clause-stands g c earlier points h =
    let stood = rw (← c.self.view_is) at h in
    rw (← c.time_of.ensures) (written earlier points (state_of c.self.inside.times) (state_of c.put_time.new.times) c.time_of.result stood c.put_time.ensures.sequences (c.put_time.ensures.stands earlier stood.models))
