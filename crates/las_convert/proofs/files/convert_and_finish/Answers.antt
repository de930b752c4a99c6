use Rattle.laz_reader.proofs.Public.{then_writes}
use Rattle.las_outside.proofs.Public.{calm-trans}
use Rattle.std.proofs.lemmas.Result.{IfOk-from_err}
use Rattle.std.proofs.Common.{◌++◌, Err, List, map, ap, subst}
use Rattle.std.specs.List.{concat}
use Rattle.las_filter.specs.Kept.{steps_of}
use Rattle.las_info.specs.Tallies.{TapSeen}
use Rattle.las_outside.specs.Outside.{Outside}
use Rattle.laz_forms.proofs.Public.{if_err}
use Rattle.laz_reader.specs.Reading.{ReaderSeen}
use Rattle.laz_writer.specs.Writing.{IsBegun, WriterSeen}
use Rattle.laz_file.specs.Copying.{with_reads}
use Rattle.laz_file.proofs.Public.{cause_push}
use Rattle.las_convert.specs.Adding.{BeforeAll, EndsKeeping, GoesToEnd, Keeping, kept_by}
use Rattle.las_convert.proofs.Endings.{ends_all, ends_with, finished_all, left_finish, left_part, left_stop}
use Rattle.las_convert.proofs.Endings.{refused_here}
use Rattle.las_convert.proofs.files.convert_and_finish.Given.{Over}
use Rattle.las_convert.proofs.files.convert_and_finish.Goals.{In_ok-convert_records}
use Rattle.las_convert.proofs.files.convert_and_finish.Goals as goal

pub returns-in_err-convert_records-clause-ends : goal.returns-in_err-convert_records-clause-ends
returns-in_err-convert_records-clause-ends g c looked is before out bytes s =
    let old = g.F.Files.seen c.args.files.now in
    let new = g.F.Files.seen c.convert_records.new.files in
    let keeping = kept_by c.args.passage.now.sieve.settings looked (steps_of c.args.plan.now) in
    let reader = c.args.reader.now in
    let p = c.in_err-convert_records.ensures.left looked is in
    if_err _ c.from_residual.result _ c.from_residual.ensures.1
    (ends_with old.held before.held old new keeping reader out bytes c.in_err-convert_records.field-0.0
    c.in_err-convert_records.ensures.cause
    (left_part old keeping reader c.args.writer c.requires.room.size p.0 p.1 p.2 before out bytes s new p.3))

-- what stands when the records were converted
module _ (g : Over) (c : In_ok-convert_records g) where
  abbrev old : Outside
  old = g.F.Files.seen c.args.files.now

  abbrev mid : Outside
  mid = g.F.Files.seen c.convert_records.new.files

  abbrev reader : ReaderSeen
  reader = c.args.reader.now

  abbrev filled : WriterSeen
  filled = c.convert_records.new.writer

  abbrev taps : List TapSeen
  taps = map (λ tap. (goal.Tap-dyn g (tap.vtable, tap.value)).tap_seen tap.value) c.args.passage.now.taps.items

  abbrev seen : List TapSeen
  seen = map (λ tap. (goal.Tap-dyn g (tap.vtable, tap.value)).tap_seen tap.value)
      c.convert_records.new.passage.taps.items

  abbrev Before : Type 0
  Before = BeforeAll (steps_of c.args.plan.now) c.args.passage.now.sieve c.args.passage.now.read

  abbrev keeping : Before → Keeping
  keeping a = kept_by c.args.passage.now.sieve.settings a.0 (steps_of c.args.plan.now)

  abbrev went : (a : Before)
      → GoesToEnd (keeping a) old mid reader c.args.writer filled taps seen c.in_ok-convert_records.field-0
  went a = c.in_ok-convert_records.ensures.converted a.0 a.1

  begun : IsBegun mid filled
  begun =
      let s = c.requires.stands in
      let gone = (went c.requires.after).5 in
      (with_reads s.0 mid, s.1, s.2 ++ concat gone.ones, gone.takes s.0 s.1 s.2 s.3)

pub finish-requires-clause-stands : goal.finish-requires-clause-stands
finish-requires-clause-stands g c κs within =
    begun g (goal.at.finish-requires-clause-stands g c).In_ok-convert_records

pub stop-requires-clause-stands : goal.stop-requires-clause-stands
stop-requires-clause-stands g c κs within = begun g (goal.at.stop-requires-clause-stands g c).In_ok-convert_records

pub returns-in_err-finish-in-None-clause-ends : goal.returns-in_err-finish-in-None-clause-ends
returns-in_err-finish-in-None-clause-ends g c looked is before out bytes s =
    let k = (goal.at.returns-in_err-finish-in-None-clause-ends g c).In_ok-convert_records in
    let a : Before g k = (looked, is) in
    let d = went g k a in
    let new = g.F.Files.seen c.finish.new.files in
    let h = c.in_err-finish-in-None.ensures in
    let fault = c.in_err-finish-in-None.field-0.0 in
    let end = subst (EndsKeeping (old g k).held (reader g k) d.0 d.2 d.3) c.in-None.is d.6 in
    let all = ends_all (old g k) (keeping g k a) (reader g k) c.args.writer c.requires.room.size d.0 d.1 d.4 before
    out bytes s (mid g k) (filled g k) (taps g k) (seen g k) d.2 d.3 d.5 end in
    let p = h.stopped (with_reads before (mid g k)) out (bytes ++ concat d.5.ones) (d.5.takes before out bytes s) in
    let cause = cause_push (old g k) (mid g k) new fault h.fault (λ e. h.write (ap Err e))
    c.in_ok-convert_records.ensures.calm.writes in
    if_err _ c.from_residual-in_err-finish-in-None.result _ c.from_residual-in_err-finish-in-None.ensures.1
    (ends_with (old g k).held before.held (old g k) new (keeping g k a) (reader g k) out bytes fault cause
    (left_finish (old g k) (keeping g k a) (reader g k) c.args.writer c.requires.room.size d.0 d.1 d.4 before out bytes
    s (mid g k) (filled g k) (taps g k) (seen g k) d.2 d.3 d.5 new fault p.0 all p.1 p.2))

pub returns-in_err-stop-in-Some-clause-ends : goal.returns-in_err-stop-in-Some-clause-ends
returns-in_err-stop-in-Some-clause-ends g c looked is before out bytes s =
    let k = (goal.at.returns-in_err-stop-in-Some-clause-ends g c).In_ok-convert_records in
    let a : Before g k = (looked, is) in
    let d = went g k a in
    let new = g.F.Files.seen c.stop.new.files in
    let h = c.in_err-stop-in-Some.ensures in
    let fault = c.in_err-stop-in-Some.field-0.0 in
    let p = h.broken (with_reads before (mid g k)) out (bytes ++ concat d.5.ones) (d.5.takes before out bytes s) in
    let cause = cause_push (old g k) (mid g k) new fault h.fault (λ e. h.write (ap Err e))
    c.in_ok-convert_records.ensures.calm.writes in
    if_err _ c.from_residual-in_err-stop-in-Some.result _ c.from_residual-in_err-stop-in-Some.ensures.1
    (ends_with (old g k).held before.held (old g k) new (keeping g k a) (reader g k) out bytes fault cause
    (left_stop (old g k) (keeping g k a) (reader g k) c.args.writer c.requires.room.size d.0 d.1 d.4 before out bytes s
    (mid g k) (filled g k) (taps g k) (seen g k) d.2 d.3 d.5 new fault p.0 p.1))

pub returns-in_ok-finish-in-None-clause-finished : goal.returns-in_ok-finish-in-None-clause-finished
returns-in_ok-finish-in-None-clause-finished g c looked is before out bytes s =
    let k = (goal.at.returns-in_ok-finish-in-None-clause-finished g c).In_ok-convert_records in
    let a : Before g k = (looked, is) in
    let d = went g k a in
    let end = subst (EndsKeeping (old g k).held (reader g k) d.0 d.2 d.3) c.in-None.is d.6 in
    finished_all (old g k) (keeping g k a) (reader g k) c.args.writer c.requires.room.size d.0 d.1 d.4 before out bytes
    s (mid g k) (filled g k) (taps g k) (seen g k) d.2 d.3 d.5 (g.F.Files.seen c.finish.new.files).held end
    (ap (λ (o : Outside). o.held)
    (c.in_ok-finish-in-None.ensures.finished (with_reads before (mid g k)) out (bytes ++ concat d.5.ones)
    (d.5.takes before out bytes s)))

pub returns-in_ok-stop-in-Some-clause-ends : goal.returns-in_ok-stop-in-Some-clause-ends
returns-in_ok-stop-in-Some-clause-ends g c looked is before out bytes s =
    let k = (goal.at.returns-in_ok-stop-in-Some-clause-ends g c).In_ok-convert_records in
    let a : Before g k = (looked, is) in
    let d = went g k a in
    let end = subst (EndsKeeping (old g k).held (reader g k) d.0 d.2 d.3) c.in-Some.is d.6 in
    refused_here (old g k) (keeping g k a) (reader g k) c.args.writer c.requires.room.size d.0 d.1 d.4 before out bytes
    s (mid g k) (filled g k) (taps g k) (seen g k) d.2 d.3 d.5 c.in-Some.cause (g.F.Files.seen c.stop.new.files).held
    end (ap (λ (o : Outside). o.held)
    (c.in_ok-stop-in-Some.ensures.stopped (with_reads before (mid g k)) out (bytes ++ concat d.5.ones)
    (d.5.takes before out bytes s)))

pub returns-in_err-convert_records-clause-finished : goal.returns-in_err-convert_records-clause-finished
returns-in_err-convert_records-clause-finished g c looked is before out bytes s =
    IfOk-from_err c.from_residual.result _ c.from_residual.ensures.0

pub returns-in_err-convert_records-clause-calm : goal.returns-in_err-convert_records-clause-calm
returns-in_err-convert_records-clause-calm g c = IfOk-from_err c.from_residual.result _ c.from_residual.ensures.0

pub returns-in_err-finish-in-None-clause-finished : goal.returns-in_err-finish-in-None-clause-finished
returns-in_err-finish-in-None-clause-finished g c looked is before out bytes s =
    IfOk-from_err c.from_residual-in_err-finish-in-None.result _ c.from_residual-in_err-finish-in-None.ensures.0

pub returns-in_err-finish-in-None-clause-calm : goal.returns-in_err-finish-in-None-clause-calm
returns-in_err-finish-in-None-clause-calm g c =
    IfOk-from_err c.from_residual-in_err-finish-in-None.result _ c.from_residual-in_err-finish-in-None.ensures.0

pub returns-in_err-stop-in-Some-clause-finished : goal.returns-in_err-stop-in-Some-clause-finished
returns-in_err-stop-in-Some-clause-finished g c looked is before out bytes s =
    IfOk-from_err c.from_residual-in_err-stop-in-Some.result _ c.from_residual-in_err-stop-in-Some.ensures.0

pub returns-in_err-stop-in-Some-clause-calm : goal.returns-in_err-stop-in-Some-clause-calm
returns-in_err-stop-in-Some-clause-calm g c =
    IfOk-from_err c.from_residual-in_err-stop-in-Some.result _ c.from_residual-in_err-stop-in-Some.ensures.0

pub returns-in_err-convert_records-clause-frame : goal.returns-in_err-convert_records-clause-frame
returns-in_err-convert_records-clause-frame g c = c.convert_records.ensures.frame

pub returns-in_err-finish-in-None-clause-frame : goal.returns-in_err-finish-in-None-clause-frame
returns-in_err-finish-in-None-clause-frame g c =
    then_writes _ _ _ _ c.convert_records.ensures.frame c.finish.ensures.writes

pub returns-in_ok-finish-in-None-clause-frame : goal.returns-in_ok-finish-in-None-clause-frame
returns-in_ok-finish-in-None-clause-frame g c =
    then_writes _ _ _ _ c.convert_records.ensures.frame c.finish.ensures.writes

pub returns-in_err-stop-in-Some-clause-frame : goal.returns-in_err-stop-in-Some-clause-frame
returns-in_err-stop-in-Some-clause-frame g c = then_writes _ _ _ _ c.convert_records.ensures.frame c.stop.ensures.writes

pub returns-in_ok-stop-in-Some-clause-frame : goal.returns-in_ok-stop-in-Some-clause-frame
returns-in_ok-stop-in-Some-clause-frame g c = then_writes _ _ _ _ c.convert_records.ensures.frame c.stop.ensures.writes

pub returns-in_ok-finish-in-None-clause-calm : goal.returns-in_ok-finish-in-None-clause-calm
returns-in_ok-finish-in-None-clause-calm g c =
    calm-trans _ _ _ c.in_ok-convert_records.ensures.calm c.in_ok-finish-in-None.ensures.calm
