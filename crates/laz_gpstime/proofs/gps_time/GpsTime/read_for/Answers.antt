use Rattle.std.proofs.Common.{subst, sym}
use Rattle.std.proofs.lemmas.Result.{err_from_is_err_and}
use Rattle.laz_gpstime.specs.Items.{ReadsTime}
use Rattle.laz_gpstime.specs.State.{state_of}
use Rattle.laz_gpstime.specs.Times.{time_at}
use Rattle.laz_gpstime.proofs.Spellings.{none-time, one-time, reads-time, refuses-time}
use Rattle.laz_gpstime.proofs.gps_time.GpsTime.read_for.Goals as goal

pub returns-in_err-time-clause-reads : goal.returns-in_err-time-clause-reads
returns-in_err-time-clause-reads g c earlier points h =
    let stood = rw (← c.self.view_is) at h in
    let p = err_from_is_err_and c.from_residual.result c.from_residual.ensures.1 in
    rw p.1 (refuses-time earlier points (state_of c.self.inside.times) c.self.invariant stood c.args.decoder.now c.take_time.new.decoder c.in_err-time.ensures.reads)

pub returns-in_err-time-clause-none : goal.returns-in_err-time-clause-none
returns-in_err-time-clause-none g c earlier points h sizes has before =
    let stood = rw (← c.self.view_is) at h in
    let p = err_from_is_err_and c.from_residual.result c.from_residual.ensures.1 in
    rw p.1 (none-time sizes has earlier before points c.args.decoder.now c.take_time.new.decoder (refuses-time earlier points (state_of c.self.inside.times) c.self.invariant stood c.args.decoder.now c.take_time.new.decoder c.in_err-time.ensures.reads))

pub returns-clause-reads : goal.returns-clause-reads
returns-clause-reads g c earlier points h =
    let stood = rw (← c.self.view_is) at h in
    let st = state_of c.self.inside.times in
    let new = state_of c.take_time.new.times in
    let r = c.in_ok-time.ensures.reads in
    let read = reads-time earlier points st c.self.invariant stood c.args.decoder.now c.take_time.new.decoder r.0 c.in_ok-time.time new r.1 r.2 r.3 in
    subst (λ n. ReadsTime earlier points n c.args.decoder.now c.take_time.new.decoder new) (sym c.set_time.ensures.time) read

pub returns-clause-only : goal.returns-clause-only
returns-clause-only g c earlier points h sizes has before =
    let r = returns-clause-reads g c earlier points h in
    one-time sizes has earlier before points c.args.decoder.now c.take_time.new.decoder (r.events, time_at c.set_time.new.part) r.takes
