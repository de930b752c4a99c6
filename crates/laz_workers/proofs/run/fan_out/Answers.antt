use Rattle.std.proofs.Common.{ℕ, ◌+◌, List, ◌<◌, ◌++◌, length, get_or, sym, subst, arith}
use Rattle.laz_workers.specs.declared.hand.Hand.{Hand}
use Rattle.laz_workers.specs.Run.{IsReady, Worked}
use Rattle.laz_workers.specs.Work.{texts}
use Rattle.laz_workers.proofs.RoomLists.{place_by_place}
use Rattle.laz_workers.proofs.run.fan_out.Goals as goal

pub returns : goal.returns
returns g c =
    let W : Hand g.row.J-Space.Denot → Hand g.row.J-Space.Denot → Type 0 = Worked c.args.claims.now (g.J.Job.answer c.args.job.now) (texts c.args.inputs.now) (g.J.Job.suits c.args.job.now) in
    let busy = c.split_at_mut-busy.result.0.now in
    let idle = c.split_at_mut-busy.result.1.now in
    let busy' = c.work_in_threads.new.hands in
    let idle' = c.work_in_threads-2.new.hands in
    let P : List (Hand g.row.J-Space.Denot) → Type 0 = λ l. (k : ℕ) (d : Hand g.row.J-Space.Denot) → k < length l → W (get_or l k d) (get_or (busy' ++ idle') k d) in
    subst P (sym c.split_at_mut-busy.ensures.value) (place_by_place W busy idle busy' idle' c.work_in_threads.auto.hands c.work_in_threads.ensures c.work_in_threads-2.ensures)

pub work_in_threads-requires-clause-ready : goal.work_in_threads-requires-clause-ready
work_in_threads-requires-clause-ready g c κs within k d lt =
    let Ready : Hand g.row.J-Space.Denot → Type 0 = IsReady c.args.claims.now (g.J.Job.fits c.args.job.now) (texts c.args.inputs.now) (g.J.Job.suits c.args.job.now) in
    let cut = c.split_at_mut-busy.ensures in
    subst Ready (sym (cut.by_index.0 k d (omega (arith, lt, cut.front_len)))) (c.requires.ready k d (omega (arith, lt, cut.front_len, cut.back_len)))

pub work_in_threads-requires-2-clause-ready : goal.work_in_threads-requires-2-clause-ready
work_in_threads-requires-2-clause-ready g c κs within k d lt =
    let Ready : Hand g.row.J-Space.Denot → Type 0 = IsReady c.args.claims.now (g.J.Job.fits c.args.job.now) (texts c.args.inputs.now) (g.J.Job.suits c.args.job.now) in
    let cut = c.split_at_mut-busy.ensures in
    subst Ready (sym (cut.by_index.1 k d)) (c.requires.ready (c.min-threads.result + k) d (omega (arith, lt, cut.back_len)))
