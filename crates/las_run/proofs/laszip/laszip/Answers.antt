use Rattle.std.proofs.Common.{◌≡◌, ◌-◌, ◌^◌, [], ◌∷◌, List, ℕ, Result, subst, sym}
use Rattle.std.proofs.lemmas.Result.{err_from_is_err_and}
use Rattle.las_thin.specs.declared.pick.Pick.TheVariants.{First}
use Rattle.las_words.specs.Asked.{Asked, LaszipOptions, laszip, reads}
use Rattle.laz_reader.specs.Reading.{StandsFor}
use Rattle.laz_forms.specs.Refusing.{IsAcceptedFile}
use Rattle.laz_forms.proofs.Public.{known_then}
use Rattle.las_run.specs.declared.stop.Stop.{Stop}
use Rattle.las_run.specs.Ends.{Ends, EndsCommand, cause_of, quiet, stopped_by}
use Rattle.las_run.specs.Runs.{task_with}
use Rattle.las_run.specs.Tools.{Zips}
use Rattle.las_run.proofs.Asking.{asks_all, asks_opening}
use Rattle.las_run.proofs.Commands.{reads_one}
use Rattle.las_run.proofs.Opening.{ends_making, ends_opening, making_after}
use Rattle.las_run.proofs.laszip.laszip.Goals as goal

pub returns-in_err-reader-clause-ends : goal.returns-in_err-reader-clause-ends
returns-in_err-reader-clause-ends g c =
    let p = err_from_is_err_and c.from_residual.result c.from_residual.ensures.1 in
    let h = c.in_err-reader.ensures in
    let input = c.args.input.now in
    let options : LaszipOptions = record { output = c.args.output.now; chunk = c.args.chunk } in
    let asked : Asked = record { work = reads input (laszip options); workers = c.args.machine.workers } in
    rw (p.1, p.2) (λ taps out. ends_opening (task_with taps asked) input (Zips input options.output options.chunk)
    (reads_one taps input (laszip options) c.args.machine.workers) (g.F.Files.seen c.args.files.now)
    (g.F.Files.seen c.open_input.new.files) out c.in_err-reader.field-0.0 h.stops h.reads.held)

pub returns-clause-ends : goal.returns-clause-ends
returns-clause-ends g c =
    let h = c.in_ok-reader.ensures in
    let r = c.in_ok-reader.reader in
    let old = g.F.Files.seen c.args.files.now in
    let mid = g.F.Files.seen c.open_input.new.files in
    let new = g.F.Files.seen c.zip.new.files in
    let input = c.args.input.now in
    let output = c.args.output.now in
    let chunk = c.args.chunk in
    let options : LaszipOptions = record { output = output; chunk = chunk } in
    let asked : Asked = record { work = reads input (laszip options); workers = c.args.machine.workers } in
    let named : r.name ≡ input = h.fresh.named in
    let accepted = known_then old.held input (StandsFor r) IsAcceptedFile (λ file s. s.accepted) h.stands in
    λ taps out.
    let outcome = stopped_by 0 c.zip.result in
    let made = subst (λ (n : List ℕ). EndsCommand (Zips n output chunk) n (quiet mid new out) outcome) named
    (c.zip.ensures.ends out) in
    let ends = making_after (Zips input output chunk) input new out out old mid h.reads.held h.calm.reads h.reads.writes
    outcome made in
    subst (λ (o : Result (Unit {0}) Stop). Ends (task_with taps asked) (quiet old new out) (cause_of (input ∷ []) o))
    (sym c.stopped.ensures)
    (ends_making (task_with taps asked) input (Zips input output chunk)
    (reads_one taps input (laszip options) c.args.machine.workers) (quiet old new out) accepted outcome ends)

pub returns-in_err-reader-clause-asks : goal.returns-in_err-reader-clause-asks
returns-in_err-reader-clause-asks g c =
    asks_opening c.args.input.now First 0 (2 ^ 32 - 1) (g.F.Files.seen c.args.files.now)
    (g.F.Files.seen c.open_input.new.files) c.in_err-reader.ensures.missing c.in_err-reader.ensures.asked_of

pub returns-clause-asks : goal.returns-clause-asks
returns-clause-asks g c =
    let h = c.in_ok-reader.ensures in
    asks_all c.in_ok-reader.reader c.args.input.now (g.F.Files.seen c.args.files.now)
    (g.F.Files.seen c.open_input.new.files) (g.F.Files.seen c.zip.new.files) h.fresh h.head h.stands h.asked_of
    c.zip.ensures.frame.asked
