use Rattle.std.proofs.Common.{sym, subst}
use Rattle.std.proofs.lemmas.Result.{err_from_is_err_and}
use Rattle.laz_point10.specs.declared.point.Point.{Point}
use Rattle.laz_point10.specs.Points.{point_at}
use Rattle.laz_point10.specs.Items.{PointState, ReadsPoint}
use Rattle.laz_point10.proofs.Standing.{none-point, one-point, reads-point, refuses-point}
use Rattle.laz_point10.proofs.point10.Point10.read.Goals as goal

pub returns-in_err-point-clause-reads : goal.returns-in_err-point-clause-reads
returns-in_err-point-clause-reads c earlier points h =
    let st : PointState = record { models = c.self.inside.models; history = c.self.inside.history } in
    let stood = rw (← c.self.view_is) at h in
    let p = err_from_is_err_and c.from_residual.result c.from_residual.ensures.1 in
    rw p.1 (refuses-point earlier points st c.self.invariant c.in_err-point.ensures.bytes stood _ _ c.in_err-point.ensures.reads)

pub returns-in_err-point-clause-none : goal.returns-in_err-point-clause-none
returns-in_err-point-clause-none c earlier points h sizes has before =
    let st : PointState = record { models = c.self.inside.models; history = c.self.inside.history } in
    let stood = rw (← c.self.view_is) at h in
    let p = err_from_is_err_and c.from_residual.result c.from_residual.ensures.1 in
    rw p.1 (none-point sizes has earlier before points _ _ (refuses-point earlier points st c.self.invariant c.in_err-point.ensures.bytes stood _ _ c.in_err-point.ensures.reads))

pub returns-clause-reads : goal.returns-clause-reads
returns-clause-reads c earlier points h =
    let st : PointState = record { models = c.self.inside.models; history = c.self.inside.history } in
    let stood = rw (← c.self.view_is) at h in
    let r = c.in_ok-point.ensures.reads in
    let point = c.in_ok-point.point in
    let read = reads-point earlier points st c.self.invariant c.in_ok-point.ensures.bytes stood c.args.decoder.now c.take_point.new.decoder r.0 point c.take_point.new.models c.add.new.self r.1 r.2 r.3 (c.add.ensures.stands points stood.history) in
    subst (λ (p : Point). ReadsPoint earlier points p c.args.decoder.now c.take_point.new.decoder (record { models = c.take_point.new.models; history = c.add.new.self })) (sym c.put.ensures) read

pub returns-clause-only : goal.returns-clause-only
returns-clause-only c earlier points h sizes has before =
    let r = returns-clause-reads c earlier points h in
    one-point sizes has earlier before points c.args.decoder.now c.take_point.new.decoder (r.events, point_at c.put.new.part) r.takes
