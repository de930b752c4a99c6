use Rattle.std.proofs.Common.{List, ℕ, ◌*◌, refl, sym, ap, subst}
use Rattle.std.proofs.lemmas.Result.{IfOk-weaker}
use Rattle.las_outside.specs.Files.{WhereKnown}
use Rattle.las_outside.specs.Frames.{Reads}
use Rattle.laz_reader.specs.Asking.{bytes_left}
use Rattle.laz_reader.specs.Reading.{ReaderSeen, StandsFor}
use Rattle.laz_forms.proofs.Public.{known_then}
use Rattle.laz_forms.specs.declared.fault.Fault.TheVariants.{Memory}
use Rattle.laz_file.proofs.Public.{ends_err, stands_ready}
use Rattle.las_survey.specs.Surveying.{Surveys}
use Rattle.las_survey.proofs.Batches.{all_shown, bad_shown, ends_surveying, leaves}
use Rattle.las_survey.proofs.surveying.survey.Goals as goal

pub show_records-requires-clause-stands : goal.show_records-requires-clause-stands
show_records-requires-clause-stands g c κs within =
    let old = g.F.Files.seen c.args.files.now in
    let first = c.args.reader.now in
    let ready = c.crew.new.self in
    let kept = c.in_ok-crew.ensures.kept in
    subst (λ (name : List ℕ). WhereKnown old.held name (StandsFor ready)) (sym (ap (λ (r : ReaderSeen). r.name) kept))
    (known_then old.held first.name (StandsFor first) (StandsFor ready) (λ file s. stands_ready first ready (2 * c.hands-hands.result) file kept s) c.requires.stands)

pub returns-clause-surveyed : goal.returns-clause-surveyed
returns-clause-surveyed g c =
    let old = g.F.Files.seen c.args.files.now in
    IfOk-weaker c.show_records.result _ _
    (λ survey h. all_shown old.held c.args.reader.now c.crew.new.self (2 * c.hands-hands.result) h.0 _ _
    c.requires.new.whole c.in_ok-crew.ensures.kept c.requires.stands h.1 h.2) c.show_records.ensures.shown

pub returns-clause-bad : goal.returns-clause-bad
returns-clause-bad g c = λ cause is.
    let old = g.F.Files.seen c.args.files.now in
    let h = c.show_records.ensures.bad cause is in
    bad_shown old.held c.args.reader.now c.crew.new.self (2 * c.hands-hands.result) h.0 h.1 cause c.requires.new.whole c.in_ok-crew.ensures.kept c.requires.stands h.2 h.3

pub returns-in_err-crew-clause-ends : goal.returns-in_err-crew-clause-ends
returns-in_err-crew-clause-ends g c =
    let files = g.F.Files.seen c.args.files.now in
    let first = c.args.reader.now in
    ends_err Surveys first.name files files _ c.from_residual.result Memory c.from_residual.ensures.1
    (leaves first.name (StandsFor first) files files c.requires.stands refl)

pub returns-clause-ends : goal.returns-clause-ends
returns-clause-ends g c =
    let old = g.F.Files.seen c.args.files.now in
    let first = c.args.reader.now in
    let ready = c.crew.new.self in
    let buffers = 2 * c.hands-hands.result in
    let is = c.in_ok-crew.ensures.kept in
    let h = c.show_records.ensures in
    ends_surveying first.name (StandsFor first) old (g.F.Files.seen c.show_records.new.files) c.requires.stands
    h.reads.only.held c.show_records.result
    (IfOk-weaker c.show_records.result _ _
    (λ survey k. known_then old.held first.name _ _ (λ file n. (n.0, n.1))
    (all_shown old.held first ready buffers k.0 _ _ c.requires.new.whole is c.requires.stands k.1 k.2)) h.shown)
    (λ cause e. let k = h.bad cause e in bad_shown old.held first ready buffers k.0 k.1 cause c.requires.new.whole is c.requires.stands k.2 k.3)
    h.cause h.calm

pub returns-clause-reads : goal.returns-clause-reads
returns-clause-reads g c =
    subst (λ (n : ℕ). Reads n (g.F.Files.seen c.args.files.now) (g.F.Files.seen c.show_records.new.files))
    (ap bytes_left c.in_ok-crew.ensures.kept) c.show_records.ensures.reads
