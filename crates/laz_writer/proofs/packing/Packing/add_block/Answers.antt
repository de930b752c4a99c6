use Rattle.std.proofs.Common.{ℕ, ◌++◌, take, sym, ap, subst, arith}
use Rattle.std.specs.Prelude.{IfErr}
use Rattle.std.proofs.lemmas.List.{append-nil}
use Rattle.std.proofs.lemmas.Result.{IfOk-from_err}
use Rattle.las_outside.specs.Outside.{with_bytes}
use Rattle.laz_forms.specs.declared.fault.Fault.{Fault}
use Rattle.laz_forms.specs.declared.fault.Fault.TheVariants.{Memory}
use Rattle.laz_writer.specs.Writing.{PackedStands, Plan, Stops, full_chunks}
use Rattle.laz_forms.proofs.Public.{if_err}
use Rattle.laz_writer.proofs.Standing.{few_more, stands_within, took_in}
use Rattle.laz_writer.proofs.Stopping.{either}
use Rattle.laz_writer.proofs.packing.Packing.add_block.Goals as goal

pub take_block-requires-clause-some : goal.take_block-requires-clause-some
take_block-requires-clause-some g c = let h = c.requires.stands in omega (arith, h.3.short)

pub append_batch-appended-requires-clause-few : goal.append_batch-appended-requires-clause-few
append_batch-appended-requires-clause-few g c κs within =
    omega (arith, few_more c.args.self.now c.take_block.new.self _ c.in_ok-take_block.ensures.taken, ap (λ (x : Plan). x.workers) c.take_block.ensures.plan, c.requires.few)

pub append_batch-appended-requires-clause-stands : goal.append_batch-appended-requires-clause-stands
append_batch-appended-requires-clause-stands g c κs within =
    let h = c.requires.stands in
    let block = c.args.block.now.items in
    (h.0, h.1, h.2 ++ block, took_in h.0 _ c.args.name.now h.1 c.args.self.now h.2 h.3 c.take_block.new.self block c.in_ok-take_block.ensures.taken h.4)

pub add-requires-clause-few : goal.add-requires-clause-few
add-requires-clause-few g c κs within = c.requires.few

pub returns-in_err-take_block-clause-adds : goal.returns-in_err-take_block-clause-adds
returns-in_err-take_block-clause-adds g c before front bytes s room =
    let p = c.args.self.now in
    let same = subst (PackedStands before (g.F.Files.seen c.args.files.now) c.args.name.now front p) (sym (append-nil bytes)) s in
    let n = stands_within before _ c.args.name.now front p bytes c.args.block.now.items 0 same in
    either _ _ c.from_residual.result (IfOk-from_err c.from_residual.result _ c.from_residual.ensures.0) (if_err _ c.from_residual.result Memory c.from_residual.ensures.1 n)

pub returns-clause-adds : goal.returns-clause-adds
returns-clause-adds g c before front bytes s room =
    let block = c.args.block.now.items in
    let now = g.F.Files.seen c.append_batch-appended.new.files in
    let u = took_in before _ c.args.name.now front c.args.self.now bytes s c.take_block.new.self block c.in_ok-take_block.ensures.taken room in
    either _ _ c.append_batch-appended.result
    (rw c.exchange.ensures
    (c.append_batch-appended.ensures.stands before front (bytes ++ block) (took_in before _ c.args.name.now front c.args.self.now bytes s c.take_block.new.self block c.in_ok-take_block.ensures.taken room)))
    (subst (λ (x : Plan). IfErr c.append_batch-appended.result (λ (fault : Fault). (n : ℕ) × Stops fault (with_bytes before c.args.name.now (take n (front ++ full_chunks x (bytes ++ block)))) now))
    c.take_block.ensures.plan (c.append_batch-appended.ensures.stopped before front (bytes ++ block) u))
