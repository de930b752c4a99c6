use Rattle.std.proofs.Common.{◌≡◌, ◌-◌, ◌^◌, List, ℕ, map, subst}
use Rattle.std.proofs.lemmas.Result.{err_from_is_err_and}
use Rattle.las_thin.specs.declared.pick.Pick.TheVariants.{First}
use Rattle.las_words.specs.Asked.{Asked, lasinfo, reads}
use Rattle.las_words.specs.Texts.{texts}
use Rattle.laz_reader.specs.Reading.{StandsFor}
use Rattle.laz_forms.specs.Refusing.{IsAcceptedFile}
use Rattle.laz_forms.proofs.Public.{known_then}
use Rattle.las_run.specs.Ends.{Change, EndsCommand}
use Rattle.las_run.specs.Runs.{task_with}
use Rattle.las_run.specs.Tools.{Reports}
use Rattle.las_run.proofs.Asking.{asks_all, asks_opening}
use Rattle.las_run.proofs.Commands.{reads_one}
use Rattle.las_run.proofs.Opening.{ends_making, ends_opening, making_after}
use Rattle.las_run.proofs.lasinfo.lasinfo.Goals as goal

pub returns-in_err-reader-clause-ends : goal.returns-in_err-reader-clause-ends
returns-in_err-reader-clause-ends g c =
    let p = err_from_is_err_and c.from_residual.result c.from_residual.ensures.1 in
    let h = c.in_err-reader.ensures in
    let taps = map (λ tap. (goal.Tap-dyn g (tap.vtable, tap.value)).tap_seen tap.value) c.args.taps.items in
    let asked : Asked = record {
      work = reads c.args.input.now
          (lasinfo (record { tallies = texts c.args.tallies.now }));
      workers = c.args.machine.workers;
    } in
    rw (p.1, p.2) (ends_opening (task_with taps asked) c.args.input.now
    (Reports taps c.args.input.now (texts c.args.tallies.now))
    (reads_one taps c.args.input.now (lasinfo (record { tallies = texts c.args.tallies.now }))
    c.args.machine.workers) (g.F.Files.seen c.args.files.now) (g.F.Files.seen c.open_input.new.files)
    (g.O.Sink.seen c.args.out.now) c.in_err-reader.field-0.0 h.stops h.reads.held)

pub returns-clause-ends : goal.returns-clause-ends
returns-clause-ends g c =
    let h = c.in_ok-reader.ensures in
    let r = c.in_ok-reader.reader in
    let old = g.F.Files.seen c.args.files.now in
    let mid = g.F.Files.seen c.open_input.new.files in
    let new = g.F.Files.seen c.inform.new.files in
    let out = g.O.Sink.seen c.args.out.now in
    let out_now = g.O.Sink.seen c.inform.new.out in
    let input = c.args.input.now in
    let tallies = texts c.args.tallies.now in
    let taps = map (λ tap. (goal.Tap-dyn g (tap.vtable, tap.value)).tap_seen tap.value) c.args.taps.items in
    let asked : Asked = record {
      work = reads input (lasinfo (record { tallies = tallies }));
      workers = c.args.machine.workers;
    } in
    let named : r.name ≡ input = h.fresh.named in
    let change : Change = record { files = old; files_now = new; out = out; out_now = out_now } in
    let made = subst (λ (n : List ℕ). EndsCommand (Reports taps n tallies) n
    (record { files = mid; files_now = new; out = out; out_now = out_now }) c.inform.result) named
    c.inform.ensures.ends in
    let ends = making_after (Reports taps input tallies) input new out out_now old mid h.reads.held h.calm.reads
    h.reads.writes c.inform.result made in
    let accepted = known_then old.held input (StandsFor r) IsAcceptedFile (λ file s. s.accepted) h.stands in
    ends_making (task_with taps asked) input (Reports taps input (texts c.args.tallies.now))
    (reads_one taps input (lasinfo (record { tallies = texts c.args.tallies.now })) c.args.machine.workers) change
    accepted c.inform.result ends

pub returns-in_err-reader-clause-asks : goal.returns-in_err-reader-clause-asks
returns-in_err-reader-clause-asks g c =
    asks_opening c.args.input.now First 0 (2 ^ 32 - 1) (g.F.Files.seen c.args.files.now)
    (g.F.Files.seen c.open_input.new.files) c.in_err-reader.ensures.missing c.in_err-reader.ensures.asked_of

pub returns-clause-asks : goal.returns-clause-asks
returns-clause-asks g c =
    let h = c.in_ok-reader.ensures in
    asks_all c.in_ok-reader.reader c.args.input.now (g.F.Files.seen c.args.files.now)
    (g.F.Files.seen c.open_input.new.files) (g.F.Files.seen c.inform.new.files) h.fresh h.head h.stands h.asked_of
    c.inform.ensures.reads.asked
