use Rattle.std.proofs.Common.{ℕ, List, ◌++◌, length, ap, subst, arith}
use Rattle.std.proofs.lemmas.Result.{on_ok_weaker, IfErr-weaker}
use Rattle.las_outside.specs.Outside.{with_bytes}
use Rattle.laz_writer.specs.Writing.{PackingSeen, Plan, Stops, all_chunks}
use Rattle.laz_forms.proofs.Public.{on_ok_both}
use Rattle.laz_writer.proofs.Standing.{flushed, kept_blocks, stopped_in}
use Rattle.laz_writer.proofs.packing.Packing.append_batch.Goals as goal

pub append_kept-requires-clause-blocks : goal.append_kept-requires-clause-blocks
append_kept-requires-clause-blocks g c κs within =
    let h = c.requires.stands in
    kept_blocks h.0 _ c.args.name.now h.1 c.args.self.now h.2 h.3

pub append_kept-requires-clause-held : goal.append_kept-requires-clause-held
append_kept-requires-clause-held g c κs within =
    let h = c.requires.stands in
    (h.0, h.1 ++ all_chunks c.args.self.now.plan.format h.3.done, h.3.file)

pub returns-then-is_full-clause-stands : goal.returns-then-is_full-clause-stands
returns-then-is_full-clause-stands g c before front bytes s =
    let p = c.args.self.now in
    on_ok_both c.append_kept.result (flushed before (g.F.Files.seen c.args.files.now) c.args.name.now front p bytes s (g.F.Files.seen c.append_kept.new.files) c.append_kept.new.self)
    (c.append_kept.ensures.added before (front ++ all_chunks p.plan.format s.done) s.file) c.append_kept.ensures.packing

pub returns-then-is_full-clause-stopped : goal.returns-then-is_full-clause-stopped
returns-then-is_full-clause-stopped g c before front bytes s =
    let p = c.args.self.now in
    let now = g.F.Files.seen c.append_kept.new.files in
    IfErr-weaker c.append_kept.result _ _ (λ e left.
    let m = stopped_in before _ c.args.name.now front p bytes s left.0 in
    (m.0, subst (λ (t : List ℕ). Stops e (with_bytes before c.args.name.now t) now) m.1 left.1))
    (c.append_kept.ensures.stopped before (front ++ all_chunks p.plan.format s.done) s.file)

pub returns-then-is_full-clause-few : goal.returns-then-is_full-clause-few
returns-then-is_full-clause-few g c =
    on_ok_weaker c.append_kept.result (λ is. omega (arith, ap (λ (x : PackingSeen). length x.kept) is, ap (λ (x : Plan). x.workers) c.append_kept.ensures.plan, c.requires.hands)) c.append_kept.ensures.packing
