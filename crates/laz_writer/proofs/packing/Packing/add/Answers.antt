use Rattle.std.proofs.lemmas.Result.{IfOk-from_err}
use Rattle.std.proofs.Common.{◌+◌, ◌-◌, ℕ, List, ◌++◌, length, take, drop, ◌∙◌, ap, subst, arith}
use Rattle.std.proofs.lemmas.List.{length-drop, length-take, take_all}
use Rattle.las_outside.specs.Outside.{with_bytes}
use Rattle.las_outside.proofs.Public.{only_writes-trans}
use Rattle.laz_forms.specs.declared.fault.Fault.TheVariants.{Memory}
use Rattle.laz_writer.specs.Writing.{PackedStands, Plan, Stops, full_chunks}
use Rattle.laz_forms.proofs.Public.{if_err}
use Rattle.laz_writer.proofs.Standing.{few_more, next, next_within, stands_within}
use Rattle.laz_writer.proofs.Stopping.{either}
use Rattle.laz_writer.proofs.packing.Packing.add.Goals as goal

pub take_in-requires-clause-short : goal.take_in-requires-clause-short
take_in-requires-clause-short g c =
    let h = c.requires.stands in
    let s = c.loop-at.invariant.stands h.0 h.1 h.2 h.3 h.4 in
    s.short

pub append_batch-requires-clause-few : goal.append_batch-requires-clause-few
append_batch-requires-clause-few g c κs within =
    omega (arith, few_more c.loop-at.self c.take_in.new.self _ c.in_ok-at.ensures.taken.2, ap (λ (x : Plan). x.workers) c.take_in.ensures.plan, c.loop-at.invariant.few)

pub append_batch-requires-clause-stands : goal.append_batch-requires-clause-stands
append_batch-requires-clause-stands g c κs within =
    let h = c.requires.stands in
    let s = c.loop-at.invariant.stands h.0 h.1 h.2 h.3 h.4 in
    let u = next c.args.self.now c.loop-at.self c.take_in.new.self c.loop-at.invariant.plan h.0 _ c.args.name.now h.1 h.2 c.args.records.now c.loop-at.at c.in_ok-at.field-0 s c.in_ok-at.ensures.taken.2 c.loop-at-test.true h.4 in
    (h.0, h.1, h.2 ++ take (c.loop-at.at + c.in_ok-at.field-0) c.args.records.now, u)

pub loop-at-preserved : goal.loop-at-preserved
loop-at-preserved g c =
    let q = c.take_in.new.self in
    let t = c.in_ok-at.ensures.taken in
    let records = c.args.records.now in
    let at = c.loop-at.at in
    record {
      within = omega (arith, t.1, length-take (length records - at) (drop at records), length-drop at records, c.loop-at-test.true);
      few = c.in_ok-append_batch.ensures.few;
      plan = c.append_batch.ensures.plan ∙ (c.take_in.ensures.plan ∙ c.loop-at.invariant.plan);
      writes = only_writes-trans _ _ _ c.loop-at.invariant.writes c.append_batch.ensures.writes;
      stands = λ before front bytes s room.
          let now = c.loop-at.invariant.stands before front bytes s room in
          let u = next c.args.self.now c.loop-at.self q c.loop-at.invariant.plan before _ c.args.name.now front bytes records at c.in_ok-at.field-0 now t.2 c.loop-at-test.true room in
          c.in_ok-append_batch.ensures.stands before front (bytes ++ take (at + c.in_ok-at.field-0) records) u;
    }

pub returns-clause-adds : goal.returns-clause-adds
returns-clause-adds g c before front bytes s room =
    let records = c.args.records.now in
    subst
    (λ (l : List ℕ). PackedStands before (g.F.Files.seen c.loop-at.files) c.args.name.now front c.loop-at.self (bytes ++ l))
    (take_all c.loop-at.at records c.loop-at-test.false) (c.loop-at.invariant.stands before front bytes s room)

pub returns-in_err-at-clause-few : goal.returns-in_err-at-clause-few
returns-in_err-at-clause-few g c = IfOk-from_err c.from_residual.result _ c.from_residual.ensures.0

pub returns-in_err-append_batch-clause-few : goal.returns-in_err-append_batch-clause-few
returns-in_err-append_batch-clause-few g c =
    IfOk-from_err c.from_residual-in_err-append_batch.result _ c.from_residual-in_err-append_batch.ensures.0

pub returns-in_err-at-clause-adds : goal.returns-in_err-at-clause-adds
returns-in_err-at-clause-adds g c before front bytes s room =
    let now = c.loop-at.invariant.stands before front bytes s room in
    let p = stands_within before _ c.args.name.now front c.loop-at.self bytes c.args.records.now c.loop-at.at now in
    either _ _ c.from_residual.result (IfOk-from_err c.from_residual.result _ c.from_residual.ensures.0) (if_err _ c.from_residual.result Memory c.from_residual.ensures.1 (p.0, p.1 ∙ ap (λ (x : Plan). with_bytes before c.args.name.now (take p.0 (front ++ full_chunks x (bytes ++ c.args.records.now)))) c.loop-at.invariant.plan))

pub returns-in_err-append_batch-clause-adds : goal.returns-in_err-append_batch-clause-adds
returns-in_err-append_batch-clause-adds g c before front bytes s room =
    let now = c.loop-at.invariant.stands before front bytes s room in
    let q = c.take_in.new.self in
    let at = c.loop-at.at in
    let n = c.in_ok-at.field-0 in
    let records = c.args.records.now in
    let u = next c.args.self.now c.loop-at.self q c.loop-at.invariant.plan before _ c.args.name.now front bytes records at n now c.in_ok-at.ensures.taken.2 c.loop-at-test.true room in
    let left = c.in_err-append_batch.ensures.stopped before front (bytes ++ take (at + n) records) u in
    let m = next_within c.args.self.now c.loop-at.self q c.loop-at.invariant.plan before _ c.args.name.now front bytes records at n now c.in_ok-at.ensures.taken.2 c.loop-at-test.true room left.0 in
    either _ _ c.from_residual-in_err-append_batch.result (IfOk-from_err c.from_residual-in_err-append_batch.result _ c.from_residual-in_err-append_batch.ensures.0) (if_err _ c.from_residual-in_err-append_batch.result _ c.from_residual-in_err-append_batch.ensures.1
    (m.0, subst (λ (t : List ℕ). Stops c.in_err-append_batch.field-0.0 (with_bytes before c.args.name.now t) (g.F.Files.seen c.append_batch.new.files)) m.1 left.1))
