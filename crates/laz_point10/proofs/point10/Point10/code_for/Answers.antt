use Rattle.std.proofs.Common.{◌++◌, ◌∷◌, subst}
use Rattle.laz_range.specs.Coding.{Codes}
use Rattle.laz_integer.specs.Events.{cuts_after}
use Rattle.laz_point10.specs.declared.point.Point.{Point}
use Rattle.laz_point10.specs.PointEvents.{point_events}
use Rattle.laz_point10.specs.Items.{PointStands, PointState}
use Rattle.laz_point10.proofs.Standing.{codes-point, stands-point}
use Rattle.laz_point10.proofs.point10.Point10.code_for.Goals as goal

pub returns-clause-events : goal.returns-clause-events
returns-clause-events g c earlier points h =
    let st : PointState = record { models = c.self.inside.models; history = c.self.inside.history } in
    let stood = rw (← c.self.view_is) at h in
    let point = c.of-point.result in
    subst (λ (p : Point). Codes c.args.encoder.now c.put_point.new.encoder (cuts_after earlier (point_events points p))) c.of-point.ensures.point
    (codes-point earlier points st c.self.invariant c.put_point.ensures.bytes stood point c.of-point.ensures.fits c.args.encoder.now c.put_point.new.encoder c.put_point.ensures.codes)

pub returns-clause-stands : goal.returns-clause-stands
returns-clause-stands g c earlier points h =
    let st : PointState = record { models = c.self.inside.models; history = c.self.inside.history } in
    let stood = rw (← c.self.view_is) at h in
    let point = c.of-point.result in
    subst (λ (p : Point). PointStands (earlier ++ point_events points p) (p ∷ points) (record { models = c.put_point.new.models; history = c.add.new.self })) c.of-point.ensures.point
    (stands-point earlier points st c.self.invariant c.put_point.ensures.bytes stood point c.of-point.ensures.fits c.put_point.new.models c.add.new.self c.put_point.ensures.next (c.add.ensures.stands points stood.history))
