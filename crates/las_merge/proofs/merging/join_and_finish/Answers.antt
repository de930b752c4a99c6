use Rattle.las_outside.proofs.Public.{calm-trans, later-trans}
use Rattle.std.proofs.lemmas.Result.{IfOk-from_err}
use Rattle.std.proofs.Common.{inl, [], ◌++◌, Option, Err, ap, subst, arith}
use Rattle.las_outside.specs.Outside.{Outside}
use Rattle.laz_file.specs.Copying.{with_reads}
use Rattle.laz_forms.proofs.Public.{if_err}
use Rattle.las_merge.specs.declared.copying.BadInput.{BadInput}
use Rattle.las_merge.specs.Copying.{CopiesUpTo}
use Rattle.las_merge.specs.Opening.{input_names}
use Rattle.las_merge.proofs.Filled.{fails_merging, finish_fails, stop_fails}
use Rattle.las_merge.proofs.merging.join_and_finish.Goals as goal

pub returns-in_err-copy_inputs-clause-ends : goal.returns-in_err-copy_inputs-clause-ends
returns-in_err-copy_inputs-clause-ends g c before out s =
    let old = g.F.Files.seen c.args.files.now in
    let new = g.F.Files.seen c.copy_inputs.new.files in
    if_err _ c.from_residual.result _ c.from_residual.ensures.1
    (fails_merging old (input_names c.args.inputs.items) c.args.writer before out s new c.in_err-copy_inputs.field-0.0
    c.in_err-copy_inputs.ensures.ends)

pub finish-requires-clause-stands : goal.finish-requires-clause-stands
finish-requires-clause-stands g c κs within =
    let s = c.requires.stands in
    let d = c.in_ok-copy_inputs.ensures.copied in
    (with_reads s.0 (g.F.Files.seen c.copy_inputs.new.files), s.1, [] ++ d.0, d.2 s.0 s.1 [] s.2)

pub stop-requires-clause-stands : goal.stop-requires-clause-stands
stop-requires-clause-stands g c κs within =
    let s = c.requires.stands in
    let d = c.in_ok-copy_inputs.ensures.copied in
    (with_reads s.0 (g.F.Files.seen c.copy_inputs.new.files), s.1, [] ++ d.0, d.2 s.0 s.1 [] s.2)

pub returns-in-Ok-clause-finished : goal.returns-in-Ok-clause-finished
returns-in-Ok-clause-finished g c before out s =
    let old = g.F.Files.seen c.args.files.now in
    let mid = g.F.Files.seen c.copy_inputs.new.files in
    let d = c.in_ok-copy_inputs.ensures.copied in
    let all = subst (λ (e : Option BadInput). CopiesUpTo old.held (input_names c.args.inputs.items) d.0 e) c.in-None.is
    d.1 in (
      d.0,
      all,
      ap (λ (o : Outside). o.held) (c.in-Ok.ensures.finished (with_reads before mid) out d.0
          (d.2 before out [] s)),
    )

pub returns-in-Err-clause-ends : goal.returns-in-Err-clause-ends
returns-in-Err-clause-ends g c before out s =
    let old = g.F.Files.seen c.args.files.now in
    let mid = g.F.Files.seen c.copy_inputs.new.files in
    let new = g.F.Files.seen c.finish.new.files in
    let names = input_names c.args.inputs.items in
    let d = c.in_ok-copy_inputs.ensures.copied in
    let all = subst (λ (e : Option BadInput). CopiesUpTo old.held names d.0 e) c.in-None.is d.1 in
    let p = c.in-Err.ensures.stopped (with_reads before mid) out d.0 (d.2 before out [] s) in
    finish_fails old names c.args.writer before out s mid new d.0 c.in_ok-copy_inputs.ensures.calm.writes all
    c.in-Err.fault c.fault_of_output.result c.fault_of_output.ensures.memory c.fault_of_output.ensures.write
    c.in-Err.ensures.fault (λ e. c.in-Err.ensures.write (ap Err e)) p.0 p.1 p.2

pub returns-in-Ok-stop-clause-ends : goal.returns-in-Ok-stop-clause-ends
returns-in-Ok-stop-clause-ends g c before out s =
    let old = g.F.Files.seen c.args.files.now in
    let mid = g.F.Files.seen c.copy_inputs.new.files in
    let d = c.in_ok-copy_inputs.ensures.copied in
    let bad = subst (λ (e : Option BadInput). CopiesUpTo old.held (input_names c.args.inputs.items) d.0 e) c.in-Some.is
    d.1 in
    inl (
      d.0,
      bad,
      ap (λ (o : Outside). o.held) (c.in-Ok-stop.ensures.stopped (with_reads before mid) out d.0
          (d.2 before out [] s)),
    )

pub returns-in-Err-stop-clause-ends : goal.returns-in-Err-stop-clause-ends
returns-in-Err-stop-clause-ends g c before out s =
    let old = g.F.Files.seen c.args.files.now in
    let mid = g.F.Files.seen c.copy_inputs.new.files in
    let new = g.F.Files.seen c.stop.new.files in
    let names = input_names c.args.inputs.items in
    let d = c.in_ok-copy_inputs.ensures.copied in
    let bad = subst (λ (e : Option BadInput). CopiesUpTo old.held names d.0 e) c.in-Some.is d.1 in
    let p = c.in-Err-stop.ensures.broken (with_reads before mid) out d.0 (d.2 before out [] s) in
    stop_fails old names c.args.writer before out s mid new c.in-Some.bad.input d.0 c.in-Some.bad.cause
    c.in_ok-copy_inputs.ensures.calm.writes bad c.in-Err-stop.fault c.fault_of_output-in-Err-stop.result
    c.fault_of_output-in-Err-stop.ensures.memory c.fault_of_output-in-Err-stop.ensures.write
    c.in-Err-stop.ensures.fault (λ e. c.in-Err-stop.ensures.write (ap Err e)) p.0 p.1

pub returns-in_err-copy_inputs-clause-asked : goal.returns-in_err-copy_inputs-clause-asked
returns-in_err-copy_inputs-clause-asked g c asked bound known is = c.copy_inputs.ensures.asked asked bound known is

pub returns-in-Ok-clause-asked : goal.returns-in-Ok-clause-asked
returns-in-Ok-clause-asked g c asked bound known is = omega (
  arith,
  c.copy_inputs.ensures.asked asked bound known is,
  c.finish.ensures.writes.asked,
)

pub returns-in-Err-clause-asked : goal.returns-in-Err-clause-asked
returns-in-Err-clause-asked g c asked bound known is = omega
    (arith, c.copy_inputs.ensures.asked asked bound known is, c.finish.ensures.writes.asked)

pub returns-in-Ok-stop-clause-asked : goal.returns-in-Ok-stop-clause-asked
returns-in-Ok-stop-clause-asked g c asked bound known is = omega
    (arith, c.copy_inputs.ensures.asked asked bound known is, c.stop.ensures.writes.asked)

pub returns-in-Err-stop-clause-asked : goal.returns-in-Err-stop-clause-asked
returns-in-Err-stop-clause-asked g c asked bound known is = omega
    (arith, c.copy_inputs.ensures.asked asked bound known is, c.stop.ensures.writes.asked)

pub returns-in_err-copy_inputs-clause-finished : goal.returns-in_err-copy_inputs-clause-finished
returns-in_err-copy_inputs-clause-finished g c before out s =
    IfOk-from_err c.from_residual.result _ c.from_residual.ensures.0

pub returns-in_err-copy_inputs-clause-calm : goal.returns-in_err-copy_inputs-clause-calm
returns-in_err-copy_inputs-clause-calm g c = IfOk-from_err c.from_residual.result _ c.from_residual.ensures.0

pub returns-in_err-copy_inputs-clause-later : goal.returns-in_err-copy_inputs-clause-later
returns-in_err-copy_inputs-clause-later g c = c.copy_inputs.ensures.later

pub returns-in-Ok-clause-calm : goal.returns-in-Ok-clause-calm
returns-in-Ok-clause-calm g c = calm-trans _ _ _ c.in_ok-copy_inputs.ensures.calm c.in-Ok.ensures.calm

pub returns-in-Ok-clause-later : goal.returns-in-Ok-clause-later
returns-in-Ok-clause-later g c = later-trans _ _ _ c.copy_inputs.ensures.later c.finish.ensures.writes.later

pub returns-in-Err-clause-later : goal.returns-in-Err-clause-later
returns-in-Err-clause-later g c = later-trans _ _ _ c.copy_inputs.ensures.later c.finish.ensures.writes.later

pub returns-in_err-copy_inputs-clause-calm_kept : goal.returns-in_err-copy_inputs-clause-calm_kept
returns-in_err-copy_inputs-clause-calm_kept g c = if_err _ c.from_residual.result _ c.from_residual.ensures.1 c.in_err-copy_inputs.ensures.calm_kept
