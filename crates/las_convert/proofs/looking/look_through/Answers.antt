use Rattle.las_outside.specs.Frames.{Reads}
use Rattle.laz_reader.specs.Asking.{bytes_left}
use Rattle.laz_forms.specs.declared.fault.Fault.TheVariants.{Memory, Refused, Write}
use Rattle.std.proofs.Common.{◌*◌, ◌+◌, ℕ, List, refl, sym, ap, subst}
use Rattle.std.proofs.lemmas.Result.{on_ok_weaker, IfOk-from_err}
use Rattle.las_filter.specs.Kept.{steps_of}
use Rattle.las_outside.specs.Files.{WhereKnown}
use Rattle.laz_reader.specs.Reading.{ReaderSeen, StandsFor, EndsReading}
use Rattle.laz_forms.proofs.Public.{if_err, known_then}
use Rattle.laz_file.proofs.Public.{stands_ready, err_at}
use Rattle.las_convert.proofs.Looks.{ready_here, refused_here}
use Rattle.las_convert.proofs.Making.{stops_looking, stops_short, is_fault}
use Rattle.las_convert.proofs.looking.look_through.Goals as goal

pub look_records-requires-clause-stands : goal.look_records-requires-clause-stands
look_records-requires-clause-stands g c κs within =
    let old = g.F.Files.seen c.args.files.now in
    let first = c.args.reader in
    let ready = c.crew.new.self in
    let kept = c.in_ok-crew.ensures.kept in
    subst (λ (name : List ℕ). WhereKnown old.held name (StandsFor ready)) (sym (ap (λ (r : ReaderSeen). r.name) kept))
    (known_then old.held first.name (StandsFor first) (StandsFor ready) (λ file s. stands_ready first ready (2 * c.hands-hands.result) file kept s) c.requires.stands)

pub returns-clause-ready : goal.returns-clause-ready
returns-clause-ready g c =
    let old = g.F.Files.seen c.args.files.now in
    on_ok_weaker c.look_records.result
    (λ h. ready_here old.held (steps_of c.args.plan.now) c.args.reader c.crew.new.self (2 * c.hands-hands.result) c.in_ok-crew.ensures.kept c.requires.fresh.unread c.requires.stands h.0 c.look_records.new.sieve h.1 h.2) c.look_records.ensures.looked

pub returns-in_err-crew-clause-stops : goal.returns-in_err-crew-clause-stops
returns-in_err-crew-clause-stops g c =
    let files = g.F.Files.seen c.args.files.now in
    let first = c.args.reader in
    if_err _ c.from_residual.result _ c.from_residual.ensures.1
    (stops_short (steps_of c.args.plan.now) c.args.sieve.now.settings first.range first.name (StandsFor first) files
    files c.requires.stands refl)

pub returns-clause-stops : goal.returns-clause-stops
returns-clause-stops g c =
    let old = g.F.Files.seen c.args.files.now in
    let plan = steps_of c.args.plan.now in
    let settings = c.args.sieve.now.settings in
    let first = c.args.reader in
    let ready = c.crew.new.self in
    let buffers = 2 * c.hands-hands.result in
    let is = c.in_ok-crew.ensures.kept in
    let h = c.look_records.ensures in
    stops_looking plan settings first.range first.name (StandsFor first) old (g.F.Files.seen c.look_records.new.files)
    c.requires.stands h.reads.only.held c.requires.pick c.look_records.result
    (λ cause e. let b = h.bad cause e in refused_here old.held plan first ready buffers is c.requires.fresh.unread c.requires.stands settings b.0 b.1 cause c.requires.pick b.2 b.3)
    (λ cause e. let b = h.bad cause e in (ready.next + b.0, b.3.0))
    h.cause

pub returns-clause-bad : goal.returns-clause-bad
returns-clause-bad g c = λ cause is.
    let h = c.look_records.ensures.bad cause is in
    (c.crew.new.self.next + h.0, h.3.0)

pub returns-in_err-crew-clause-ready : goal.returns-in_err-crew-clause-ready
returns-in_err-crew-clause-ready g c = IfOk-from_err c.from_residual.result _ c.from_residual.ensures.0

pub returns-in_err-crew-clause-calm : goal.returns-in_err-crew-clause-calm
returns-in_err-crew-clause-calm g c = IfOk-from_err c.from_residual.result _ c.from_residual.ensures.0

pub returns-in_err-crew-clause-bad : goal.returns-in_err-crew-clause-bad
returns-in_err-crew-clause-bad g c cause is =
    let e = is_fault c.from_residual.result Memory (Refused cause) c.from_residual.ensures.1 is in
    cc

pub returns-in_err-crew-clause-never : goal.returns-in_err-crew-clause-never
returns-in_err-crew-clause-never g c is =
    let e = is_fault c.from_residual.result Memory Write c.from_residual.ensures.1 is in
    cc

pub returns-clause-never : goal.returns-clause-never
returns-clause-never g c is =
    err_at (EndsReading ⊥ (g.F.Files.seen c.args.files.now) (g.F.Files.seen c.look_records.new.files))
    c.look_records.result
    Write c.look_records.ensures.cause is

pub returns-clause-reads : goal.returns-clause-reads
returns-clause-reads g c =
    subst (λ (n : ℕ). Reads n (g.F.Files.seen c.args.files.now) (g.F.Files.seen c.look_records.new.files))
    (ap bytes_left c.in_ok-crew.ensures.kept) c.look_records.ensures.reads

pub returns-clause-settings : goal.returns-clause-settings
returns-clause-settings g c = c.look_records.ensures.settings

pub returns-clause-calm : goal.returns-clause-calm
returns-clause-calm g c = c.look_records.ensures.calm
