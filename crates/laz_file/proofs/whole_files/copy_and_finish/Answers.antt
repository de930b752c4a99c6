use Rattle.std.proofs.Common.{◌++◌, Err, ap, subst}
use Rattle.std.specs.List.{concat}
use Rattle.las_outside.specs.Outside.{Outside}
use Rattle.laz_file.specs.Copying.{EndsAfter, with_reads}
use Rattle.laz_file.proofs.Endings.{ends_part, ends_with, first_finish, first_stop, hold_all}
use Rattle.laz_forms.proofs.Public.{if_err}
use Rattle.laz_file.proofs.Taking.{cause_push}
use Rattle.laz_file.proofs.whole_files.copy_and_finish.Goals as goal

pub returns-in_err-copy_records-clause-ends : goal.returns-in_err-copy_records-clause-ends
returns-in_err-copy_records-clause-ends g c before out bytes s =
    let old = g.F.Files.seen c.args.files.now in
    let new = g.F.Files.seen c.copy_records.new.files in
    let p = c.in_err-copy_records.ensures.part in
    if_err _ c.from_residual.result _ c.from_residual.ensures.1
    (ends_part old new c.args.reader.now c.args.writer p.0 p.1 before out bytes c.in_err-copy_records.field-0.0 c.in_err-copy_records.ensures.cause p.2 p.3 s)

pub finish-requires-clause-stands : goal.finish-requires-clause-stands
finish-requires-clause-stands g c κs within =
    let s = c.requires.stands in
    let d = c.in_ok-copy_records.ensures.copied in
    (with_reads s.0 (g.F.Files.seen c.copy_records.new.files), s.1, s.2 ++ concat d.1, d.4 s.0 s.1 s.2 s.3)

pub stop-requires-clause-stands : goal.stop-requires-clause-stands
stop-requires-clause-stands g c κs within =
    let s = c.requires.stands in
    let d = c.in_ok-copy_records.ensures.copied in
    (with_reads s.0 (g.F.Files.seen c.copy_records.new.files), s.1, s.2 ++ concat d.1, d.4 s.0 s.1 s.2 s.3)

pub returns-in_err-finish-in-None-clause-ends : goal.returns-in_err-finish-in-None-clause-ends
returns-in_err-finish-in-None-clause-ends g c before out bytes s =
    let old = g.F.Files.seen c.args.files.now in
    let mid = g.F.Files.seen c.copy_records.new.files in
    let new = g.F.Files.seen c.finish.new.files in
    let reader = c.args.reader.now in
    let d = c.in_ok-copy_records.ensures.copied in
    let fault = c.in_err-finish-in-None.field-0.0 in
    let all = subst (EndsAfter old.held reader d.0) c.in-None.is d.3 in
    let p = c.in_err-finish-in-None.ensures.stopped (with_reads before mid) out (bytes ++ concat d.1) (d.4 before out bytes s) in
    let cause = cause_push old mid new fault c.in_err-finish-in-None.ensures.fault (λ e. c.in_err-finish-in-None.ensures.write (ap Err e)) c.in_ok-copy_records.ensures.writes_calm in
    if_err _ c.from_residual-in_err-finish-in-None.result _ c.from_residual-in_err-finish-in-None.ensures.1
    (ends_with old.held before.held old new reader out bytes fault c.in_err-finish-in-None.ensures.fault cause (first_finish old new reader d.0 d.1 (with_reads before mid) out bytes fault p.0 d.2 all p.1 p.2))

pub returns-in_err-stop-in-Some-clause-ends : goal.returns-in_err-stop-in-Some-clause-ends
returns-in_err-stop-in-Some-clause-ends g c before out bytes s =
    let old = g.F.Files.seen c.args.files.now in
    let mid = g.F.Files.seen c.copy_records.new.files in
    let new = g.F.Files.seen c.stop.new.files in
    let reader = c.args.reader.now in
    let d = c.in_ok-copy_records.ensures.copied in
    let fault = c.in_err-stop-in-Some.field-0.0 in
    let p = c.in_err-stop-in-Some.ensures.broken (with_reads before mid) out (bytes ++ concat d.1) (d.4 before out bytes s) in
    let cause = cause_push old mid new fault c.in_err-stop-in-Some.ensures.fault (λ e. c.in_err-stop-in-Some.ensures.write (ap Err e)) c.in_ok-copy_records.ensures.writes_calm in
    if_err _ c.from_residual-in_err-stop-in-Some.result _ c.from_residual-in_err-stop-in-Some.ensures.1
    (ends_with old.held before.held old new reader out bytes fault c.in_err-stop-in-Some.ensures.fault cause (first_stop old new reader c.args.writer d.0 d.1 before mid out bytes fault p.0 d.2 s p.1))

pub returns-in_ok-finish-in-None-clause-finished : goal.returns-in_ok-finish-in-None-clause-finished
returns-in_ok-finish-in-None-clause-finished g c before out bytes s =
    let old = g.F.Files.seen c.args.files.now in
    let mid = g.F.Files.seen c.copy_records.new.files in
    let d = c.in_ok-copy_records.ensures.copied in
    let all = subst (EndsAfter old.held c.args.reader.now d.0) c.in-None.is d.3 in
    (d.1, hold_all old.held c.args.reader.now d.0 d.1 d.2 all, ap (λ (o : Outside). o.held) (c.in_ok-finish-in-None.ensures.finished (with_reads before mid) out (bytes ++ concat d.1) (d.4 before out bytes s)))

pub returns-in_ok-stop-in-Some-clause-ends : goal.returns-in_ok-stop-in-Some-clause-ends
returns-in_ok-stop-in-Some-clause-ends g c before out bytes s =
    let old = g.F.Files.seen c.args.files.now in
    let mid = g.F.Files.seen c.copy_records.new.files in
    let d = c.in_ok-copy_records.ensures.copied in
    let end = subst (EndsAfter old.held c.args.reader.now d.0) c.in-Some.is d.3 in
    (d.0, d.1, d.2, end, ap (λ (o : Outside). o.held) (c.in_ok-stop-in-Some.ensures.stopped (with_reads before mid) out (bytes ++ concat d.1) (d.4 before out bytes s)))
