use Rattle.std.proofs.Common.{◌+◌, List, ℕ, map, subst}
use Rattle.std.proofs.lemmas.Result.{err_from_is_err_and}
use Rattle.las_filter.specs.Kept.{steps_of}
use Rattle.las_info.specs.Tallies.{TapSeen}
use Rattle.laz_reader.specs.Asking.{asked_in, asked_to_open}
use Rattle.laz_forms.specs.Ranges.{parts_of}
use Rattle.las_run.specs.Asking.{in_first_reading}
use Rattle.las_run.specs.Ends.{Change, EndsCommand}
use Rattle.las_run.specs.Tools.{ConvertsTaken, range_in}
use Rattle.las_run.proofs.Asking.{asks_selected, asks_stopped}
use Rattle.las_run.proofs.Opening.{making_after}
use Rattle.las_run.proofs.las2las.select.Goals as goal

pub returns-in_err-reader-clause-ends : goal.returns-in_err-reader-clause-ends
returns-in_err-reader-clause-ends g c =
    let p = err_from_is_err_and c.from_residual.result c.from_residual.ensures.1 in
    let chosen : List TapSeen = map (λ tap. (goal.Tap-dyn g (tap.vtable, tap.value)).tap_seen tap.value)
    c.args.chosen.items in
    rw (p.1, p.2) (c.in_err-reader.ensures.stops chosen c.args.request.now.output.now (g.O.Sink.seen c.args.out.now))

pub returns-in_err-reader-clause-asked : goal.returns-in_err-reader-clause-asked
returns-in_err-reader-clause-asked g c =
    let places = c.args.request.now.conversion in
    asks_stopped c.args.request.now.input.now places.start places.stop places.pick (g.F.Files.seen c.args.files.now)
    (g.F.Files.seen c.prepare.new.files) c.in_err-reader.ensures.asked

pub returns-clause-ends : goal.returns-clause-ends
returns-clause-ends g c =
    let h = c.in_ok-reader.ensures in
    let places = c.args.request.now.conversion in
    let input = c.args.request.now.input.now in
    let output = c.args.request.now.output.now in
    let plan = steps_of c.args.request.now.plan.now in
    let chosen : List TapSeen = map (λ tap. (goal.Tap-dyn g (tap.vtable, tap.value)).tap_seen tap.value)
    c.args.chosen.items in
    let old = g.F.Files.seen c.args.files.now in
    let mid = g.F.Files.seen c.prepare.new.files in
    let new = g.F.Files.seen c.write_kept.new.files in
    let out = g.O.Sink.seen c.args.out.now in
    let out_now = g.O.Sink.seen c.write_kept.new.out in
    let outcome = c.write_kept.result in
    let change : Change = record { files = mid; files_now = new; out = out; out_now = out_now } in
    making_after (ConvertsTaken places chosen input output plan) input new out out_now old mid h.reads.held
    h.calm.reads h.reads.writes outcome
    (subst (λ (n : List ℕ). EndsCommand (ConvertsTaken places chosen n output plan) n change outcome) h.fresh.named
    c.write_kept.ensures.ends)

pub returns-clause-asked : goal.returns-clause-asked
returns-clause-asked g c =
    let h = c.in_ok-reader.ensures in
    let now = c.in_ok-reader.reader in
    let places = c.args.request.now.conversion in
    asks_selected now c.args.request.now.input.now places.start places.stop places.pick
    (g.F.Files.seen c.args.files.now) h.stands h.fresh.unread h.range
    (g.F.Files.seen c.prepare.new.files) (g.F.Files.seen c.write_kept.new.files)
    (λ file pieces. in_first_reading places.pick
    (asked_to_open file + asked_in file (parts_of file (range_in places.start places.stop file) pieces))) h.asked
    c.write_kept.ensures.frame.asked
