use Rattle.std.proofs.Common.{◌≤◌, ◌^◌, ◌+◌, List, ℕ, Option, map, refl, subst}
use Rattle.std.specs.Prelude.{string_bytes}
use Rattle.std.proofs.lemmas.Result.{err_from_is_err_and}
use Rattle.las_info.specs.Tallies.{TapSeen, count_at}
use Rattle.las_words.specs.Asked.{Asked, las2las, reads}
use Rattle.las_words.specs.Texts.{texts}
use Rattle.las_filter.specs.Kept.{steps_of}
use Rattle.las_outside.specs.Files.{FileMap, WhereKnown}
use Rattle.laz_reader.specs.Asking.{AsksAtMost, asked_in, asked_to_open}
use Rattle.laz_forms.specs.Pieces.{ArePieces, Piece}
use Rattle.laz_forms.specs.Ranges.{parts_of}
use Rattle.laz_reader.specs.Reading.{StandsFor}
use Rattle.laz_forms.specs.Refusing.{IsAcceptedFile}
use Rattle.laz_forms.proofs.Public.{known_then}
use Rattle.las_run.specs.Asking.{in_first_reading}
use Rattle.las_run.specs.Ends.{Change, EndsCommand, quiet}
use Rattle.las_run.specs.Runs.{task_with}
use Rattle.las_run.specs.Tools.{Converts, ConvertsIn, chunk_if, las2las_options, range_in, sieve_in}
use Rattle.las_run.proofs.Asking.{asks_both, asks_nothing, asks_opening}
use Rattle.las_run.proofs.Commands.{reads_one}
use Rattle.las_run.proofs.Endings.{left_before}
use Rattle.las_run.proofs.Opening.{ends_making, ends_opening, making_after}
use Rattle.las_run.proofs.Reporting.{chosen, distinct, holds_of_chosen, there}
use Rattle.las_run.proofs.las2las.las2las.Goals as goal

pub choose-requires-clause-there : goal.choose-requires-clause-there
choose-requires-clause-there g c =
    there (λ tap. (goal.Tap-dyn g (tap.vtable, tap.value)).tap_seen tap.value) string_bytes c.args.tallies.now
    c.args.taps.items c.requires.chosen.there

pub choose-requires-clause-distinct : goal.choose-requires-clause-distinct
choose-requires-clause-distinct g c = distinct string_bytes c.args.tallies.now c.requires.chosen.distinct

pub select-requires-clause-room : goal.select-requires-clause-room
select-requires-clause-room g c κs within =
    holds_of_chosen (λ tap. (goal.Tap-dyn g (tap.vtable, tap.value)).tap_seen tap.value) string_bytes
    (λ tap. (bin : ℕ) → count_at ((goal.Tap-dyn g (tap.vtable, tap.value)).tap_seen tap.value).tally bin ≤ 2 ^ 63)
    c.args.taps.items c.args.tallies.now c.in-Ok.chosen.items c.requires.room c.in-Ok.ensures

pub returns-in_err-reader-clause-ends : goal.returns-in_err-reader-clause-ends
returns-in_err-reader-clause-ends g c =
    let p = err_from_is_err_and c.from_residual.result c.from_residual.ensures.1 in
    let h = c.in_err-reader.ensures in
    let input = c.args.request.now.input.now in
    let taps : List TapSeen = map (λ tap. (goal.Tap-dyn g (tap.vtable, tap.value)).tap_seen tap.value)
    c.args.taps.items in
    let options = las2las_options c.args.request.now.output.now (steps_of c.args.request.now.plan.now)
    c.args.request.now.conversion (texts c.args.tallies.now) in
    let asked : Asked = record { work = reads input (las2las options); workers = c.args.machine.workers } in
    rw (p.1, p.2) (ends_opening (task_with taps asked) input (Converts taps input options)
    (reads_one taps input (las2las options) c.args.machine.workers) (g.F.Files.seen c.args.files.now)
    (g.F.Files.seen c.open_input.new.files) (g.O.Sink.seen c.args.out.now) c.in_err-reader.field-0.0 h.stops
    h.reads.held)

pub returns-in-Err-clause-ends : goal.returns-in-Err-clause-ends
returns-in-Err-clause-ends g c =
    let taps : List TapSeen = map (λ tap. (goal.Tap-dyn g (tap.vtable, tap.value)).tap_seen tap.value)
    c.args.taps.items in
    let options = las2las_options c.args.request.now.output.now (steps_of c.args.request.now.plan.now)
    c.args.request.now.conversion (texts c.args.tallies.now) in
    let asked : Asked = record {
      work = reads c.args.request.now.input.now (las2las options);
      workers = c.args.machine.workers;
    } in
    let files = g.F.Files.seen c.args.files.now in
    (left_before (task_with taps asked) (quiet files files (g.O.Sink.seen c.args.out.now)) refl, refl)

pub returns-clause-ends : goal.returns-clause-ends
returns-clause-ends g c =
    let h = c.in_ok-reader.ensures in
    let r = c.in_ok-reader.reader in
    let old = g.F.Files.seen c.args.files.now in
    let mid = g.F.Files.seen c.open_input.new.files in
    let new = g.F.Files.seen c.select.new.files in
    let out = g.O.Sink.seen c.args.out.now in
    let out_now = g.O.Sink.seen c.select.new.out in
    let input = c.args.request.now.input.now in
    let taps : List TapSeen = map (λ tap. (goal.Tap-dyn g (tap.vtable, tap.value)).tap_seen tap.value)
    c.args.taps.items in
    let tallies = texts c.args.tallies.now in
    let packing = c.args.request.now.conversion.packing in
    let conversion = c.args.request.now.conversion in
    let plan = steps_of c.args.request.now.plan.now in
    let options = las2las_options c.args.request.now.output.now plan conversion tallies in
    let asked : Asked = record { work = reads input (las2las options); workers = c.args.machine.workers } in
    let change : Change = record { files = old; files_now = new; out = out; out_now = out_now } in
    let before : Change = record { files = mid; files_now = new; out = out; out_now = out_now } in
    let outcome = c.select.result in
    let chosen_are = chosen (λ tap. (goal.Tap-dyn g (tap.vtable, tap.value)).tap_seen tap.value) string_bytes
    c.args.taps.items c.args.tallies.now c.in-Ok.chosen.items c.in-Ok.ensures in
    let made = subst (λ (ts : List TapSeen). EndsCommand
    (ConvertsIn (chunk_if packing.packed packing.chunk) (range_in conversion.start conversion.stop) ts input
    c.args.request.now.output.now plan (sieve_in conversion)) input before outcome) chosen_are
    c.select.ensures.ends in
    let ends = making_after (Converts taps input options) input new out out_now old mid h.reads.held h.calm.reads
    h.reads.writes outcome made in
    let accepted = known_then old.held input (StandsFor r) IsAcceptedFile (λ file s. s.accepted) h.stands in
    ends_making (task_with taps asked) input (Converts taps input options)
    (reads_one taps input (las2las options) c.args.machine.workers) change accepted outcome ends

pub returns-in_err-reader-clause-asks : goal.returns-in_err-reader-clause-asks
returns-in_err-reader-clause-asks g c =
    let places = c.args.request.now.conversion in
    asks_opening c.args.request.now.input.now places.pick places.start places.stop (g.F.Files.seen c.args.files.now)
    (g.F.Files.seen c.open_input.new.files) c.in_err-reader.ensures.missing c.in_err-reader.ensures.asked_of

pub returns-in-Err-clause-asks : goal.returns-in-Err-clause-asks
returns-in-Err-clause-asks g c =
    let places = c.args.request.now.conversion in
    asks_nothing c.args.request.now.input.now places.pick places.start places.stop (g.F.Files.seen c.args.files.now)
    (g.F.Files.seen c.args.files.now) refl

pub returns-clause-asks : goal.returns-clause-asks
returns-clause-asks g c =
    let h = c.in_ok-reader.ensures in
    let r = c.in_ok-reader.reader in
    let old = g.F.Files.seen c.args.files.now in
    let mid = g.F.Files.seen c.open_input.new.files in
    let new = g.F.Files.seen c.select.new.files in
    let input = c.args.request.now.input.now in
    let conversion = c.args.request.now.conversion in
    let bytes : (file : List ℕ) → List Piece → ℕ =
    λ file pieces. asked_in file (parts_of file (range_in conversion.start conversion.stop file) pieces) in
    let Rest : List ℕ → Type 0 = λ file. (pieces : List Piece) → ArePieces file pieces
    → AsksAtMost (in_first_reading conversion.pick (asked_to_open file + bytes file pieces) + bytes file pieces) mid
    new in
    let rest = subst (λ (f : Option FileMap). WhereKnown f input Rest) h.reads.held c.select.ensures.asked in
    asks_both r input conversion.pick conversion.start conversion.stop old mid new h.stands h.asked_of rest
