use Rattle.las_outside.proofs.Public.{only_writes-refl}
use Rattle.std.proofs.lemmas.Result.{IfOk-from_err}
use Rattle.std.proofs.Common.{◌≤◌, ◌*◌, ℕ, List, ◌++◌, length, map, take, sym, ◌∙◌, ap, subst}
use Rattle.std.specs.Prelude.{All}
use Rattle.las_outside.specs.Outside.{Outside, with_bytes}
use Rattle.laz_forms.specs.declared.fault.Fault.TheVariants.{Memory}
use Rattle.laz_writer.specs.Writing.{IsBlock, PackingSeen, Stops, all_chunks, chunks}
use Rattle.laz_writer.proofs.Ending.{every_size, every_stopped, every_text, every_within, last_blocks, last_few}
use Rattle.laz_forms.proofs.Public.{if_err}
use Rattle.laz_writer.proofs.packing.Packing.append_rest.Goals as goal

pub append_kept-requires-clause-blocks : goal.append_kept-requires-clause-blocks
append_kept-requires-clause-blocks g c κs within =
    let h = c.requires.stands in
    let P : PackingSeen → Type 0 = λ x. All (IsBlock x.plan) x.kept in
    subst P (sym c.in_ok-keep_rest.ensures.kept) (last_blocks h.0 _ c.args.name.now h.1 c.args.self.now h.2 h.3 h.4)

pub append_kept-requires-clause-few : goal.append_kept-requires-clause-few
append_kept-requires-clause-few g c κs within =
    let h = c.requires.stands in
    let P : PackingSeen → Type 0 = λ x. length x.kept ≤ 2 * x.plan.workers in
    subst P (sym c.in_ok-keep_rest.ensures.kept) (last_few h.0 _ c.args.name.now h.1 c.args.self.now h.2 h.3 c.requires.few)

pub append_kept-requires-clause-held : goal.append_kept-requires-clause-held
append_kept-requires-clause-held g c κs within =
    let h = c.requires.stands in
    (h.0, h.1 ++ all_chunks c.args.self.now.plan.format h.3.done, h.3.file)

pub returns-in_err-keep_rest : goal.returns-in_err-keep_rest
returns-in_err-keep_rest g c =
    record {
      appended = λ before text records stands. IfOk-from_err c.from_residual.result _ c.from_residual.ensures.0;
      lengths = λ before text records stands. IfOk-from_err c.from_residual.result _ c.from_residual.ensures.0;
      stopped =
          λ before front records s. let w = every_within before _ c.args.name.now front c.args.self.now records s in
          if_err _ c.from_residual.result Memory c.from_residual.ensures.1 w;
      plan = c.keep_rest.ensures.plan;
      writes = only_writes-refl (g.F.Files.seen c.args.files.now);
    }

pub returns-in_err-append_kept : goal.returns-in_err-append_kept
returns-in_err-append_kept g c =
    record {
      appended =
          λ before text records stands. IfOk-from_err c.from_residual-in_err-append_kept.result _
          c.from_residual-in_err-append_kept.ensures.0;
      lengths =
          λ before text records stands. IfOk-from_err c.from_residual-in_err-append_kept.result _
          c.from_residual-in_err-append_kept.ensures.0;
      stopped = λ before front records s. let p = c.args.self.now in
          let name = c.args.name.now in
          let text = front ++ all_chunks p.plan.format s.done in
          let left = c.in_err-append_kept.ensures.stopped before text s.file in
          let m = every_stopped before _ name front p records s left.0 in
          let made =
          ap (λ (x : PackingSeen). with_bytes before name (text ++ take left.0 (all_chunks x.plan.format x.kept)))
          c.in_ok-keep_rest.ensures.kept ∙ ap (with_bytes before name) m.1 in
          if_err _ c.from_residual-in_err-append_kept.result _ c.from_residual-in_err-append_kept.ensures.1 (
            m.0,
            subst (λ (o : Outside). Stops c.in_err-append_kept.field-0.0 o (g.F.Files.seen c.append_kept.new.files))
                made left.1,
          );
      plan = c.append_kept.ensures.plan ∙ c.keep_rest.ensures.plan;
      writes = c.append_kept.ensures.writes;
    }

pub returns : goal.returns
returns g c =
    record {
      appended = λ before front records s. let p = c.args.self.now in
          let name = c.args.name.now in
          let text = front ++ all_chunks p.plan.format s.done in
          c.in_ok-append_kept.ensures.added before text s.file
          ∙ ap (λ (x : PackingSeen). with_bytes before name (text ++ all_chunks x.plan.format x.kept))
          c.in_ok-keep_rest.ensures.kept
          ∙ ap (with_bytes before name) (every_text before _ name front p records s);
      lengths = λ before front records s. ap (λ (x : PackingSeen). x.lengths) c.in_ok-append_kept.ensures.packing
          ∙ ap (λ (x : PackingSeen). x.lengths ++ map (λ (t : List ℕ). length t) (chunks x.plan.format x.kept))
          c.in_ok-keep_rest.ensures.kept
          ∙ every_size before _ c.args.name.now front c.args.self.now records s;
      stopped = λ before text records stands. tt;
      plan = c.append_kept.ensures.plan ∙ c.keep_rest.ensures.plan;
      writes = c.append_kept.ensures.writes;
    }
