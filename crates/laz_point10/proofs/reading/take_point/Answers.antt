use Rattle.std.proofs.Common.{◌≡◌, ◌+◌, ◌%◌, ap, ◌∙◌, refl, rules}
use Rattle.std.specs.Prelude.{FitsSigned}
use Rattle.std.specs.Int.{w32, int_wrapping_add}
use Rattle.std.proofs.lemmas.Int.{to_z-of_z}
use Rattle.std.proofs.lemmas.Result.{err_from_is_err_and}
use Rattle.laz_point10.specs.declared.history.Predictions.{Predictions}
use Rattle.laz_point10.specs.Coded.{point_made}
use Rattle.laz_point10.proofs.Parts.{same-point}
use Rattle.laz_point10.proofs.PointTakings.{point-takes, point-none_head, point-none_surface, point-none_scan, point-none_place, same-models}
use Rattle.laz_point10.proofs.reading.take_point.Goals as goal

pub returns-in_err-changes-clause-reads : goal.returns-in_err-changes-clause-reads
returns-in_err-changes-clause-reads c =
    let p = err_from_is_err_and c.from_residual.result c.from_residual.ensures.1 in
    rw p.1 (point-none_head c.args.models.now c.args.history.now _ _ (rw c.last-last.ensures.last at c.in_err-changes.ensures.reads))

pub returns-in_err-intensity-clause-reads : goal.returns-in_err-intensity-clause-reads
returns-in_err-intensity-clause-reads c =
    let p = err_from_is_err_and c.from_residual-in_err-intensity.result c.from_residual-in_err-intensity.ensures.1 in
    let e = c.predictions-e.ensures.predicted in
    rw p.1 (point-none_surface c.args.models.now c.args.history.now (c.in_ok-changes.changes, c.in_ok-changes.flags) _ _ _ (rw c.last-last.ensures.last at c.in_ok-changes.ensures.reads) (rw e at c.in_err-intensity.ensures.reads))

pub returns-in_err-turned-clause-reads : goal.returns-in_err-turned-clause-reads
returns-in_err-turned-clause-reads c =
    let p = err_from_is_err_and c.from_residual-in_err-turned.result c.from_residual-in_err-turned.ensures.1 in
    let e = c.predictions-e.ensures.predicted in
    let surface = rw e at c.in_ok-intensity.ensures.reads in
    rw p.1 (point-none_scan c.args.models.now c.args.history.now (c.in_ok-changes.changes, c.in_ok-changes.flags) (surface.0, c.in_ok-intensity.classification) _ _ _ _ (rw c.last-last.ensures.last at c.in_ok-changes.ensures.reads) surface.1 (rw e at c.in_err-turned.ensures.reads))

pub returns-in_err-dx-clause-reads : goal.returns-in_err-dx-clause-reads
returns-in_err-dx-clause-reads c =
    let p = err_from_is_err_and c.from_residual-in_err-dx.result c.from_residual-in_err-dx.ensures.1 in
    let e = c.predictions-e.ensures.predicted in
    let surface = rw e at c.in_ok-intensity.ensures.reads in
    let scan = rw e at c.in_ok-turned.ensures.reads in
    rw p.1 (point-none_place c.args.models.now c.args.history.now (c.in_ok-changes.changes, c.in_ok-changes.flags) (surface.0, c.in_ok-intensity.classification) (c.in_ok-turned.turned, (c.in_ok-turned.user_data, scan.0)) _ _ _ _ _
    (rw c.last-last.ensures.last at c.in_ok-changes.ensures.reads) surface.1 scan.1 c.in_err-dx.ensures.reads)

pub returns-clause-reads : goal.returns-clause-reads
returns-clause-reads c =
    let m = c.args.history.now in
    let e = c.predictions-e.ensures.predicted in
    let surface = rw e at c.in_ok-intensity.ensures.reads in
    let scan = rw e at c.in_ok-turned.ensures.reads in
    let place = rw e at c.in_ok-dx.ensures.reads in
    let fz : FitsSigned w32 c.in_ok-dx.z = search rules in
    let last : c.predictions-e.result.previous ≡ m.last = ap (λ (x : Predictions). x.previous) e in (
      ((c.in_ok-changes.changes, c.in_ok-changes.flags), ((surface.0, c.in_ok-intensity.classification), ((c.in_ok-turned.turned, (c.in_ok-turned.user_data, scan.0)), place.0))),
      point-takes c.args.models.now m (c.in_ok-changes.changes, c.in_ok-changes.flags) (surface.0, c.in_ok-intensity.classification) (c.in_ok-turned.turned, (c.in_ok-turned.user_data, scan.0)) place.0 _ _ _ _ _
          (rw c.last-last.ensures.last at c.in_ok-changes.ensures.reads) surface.1 scan.1 place.1,
      same-point _ _ _ _ _ _ _ _ _ (point_made m ((c.in_ok-changes.changes, c.in_ok-changes.flags), ((surface.0, c.in_ok-intensity.classification), ((c.in_ok-turned.turned, (c.in_ok-turned.user_data, scan.0)), place.0))))
          (ap (λ q. int_wrapping_add w32 q.x c.in_ok-dx.dx) last ∙ ap (int_wrapping_add w32 m.last.x) place.2.0)
          (ap (λ q. int_wrapping_add w32 q.y c.in_ok-dx.dy) last ∙ ap (int_wrapping_add w32 m.last.y) place.2.1)
          (to_z-of_z w32 c.in_ok-dx.z fz ∙ place.2.2)
          surface.2 refl refl
          (ap (λ q. (q.scan_angle + c.in_ok-turned.turned) % 256) last)
          refl scan.2,
      same-models _ _ _ _ _ _ _ _ (rw c.last-last.ensures.last at c.in_ok-changes.ensures.next) surface.3 scan.3 place.3,
    )
