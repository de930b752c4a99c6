use Rattle.std.proofs.Common.{◌≡◌, ◌^◌, ◌≤◌, ℕ, List, length, Option, None, Result, Err, map, refl, subst, sym, ap, ◌∙◌}
use Rattle.std.specs.Prelude.{string_bytes}
use Rattle.std.specs.List.{concat, flat_map}
use Rattle.std.specs.Option.{option_map}
use Rattle.las_outside.specs.Files.{WhereKnown}
use Rattle.laz_file.specs.Copying.{AreOnlyRecords}
use Rattle.laz_file.specs.Endings.{EndsMaking}
use Rattle.laz_file.proofs.Public.{left_before}
use Rattle.laz_forms.specs.declared.fault.Fault.{Fault}
use Rattle.laz_reader.specs.Reading.{StandsFor}
use Rattle.las_survey.specs.Surveying.{Surveys}
use Rattle.laz_forms.specs.Outputs.{records_after}
use Rattle.las_run.specs.declared.stop.Stop.{Stop}
use Rattle.las_run.specs.Tools.{Reports}
use Rattle.las_header.specs.Fields.{head_of}
use Rattle.las_info.specs.Report.{report_text, tally_text}
use Rattle.las_info.specs.Surveys.{IsShown, SurveySeen}
use Rattle.las_info.specs.Tallies.{TapSeen, count_at}
use Rattle.las_words.specs.Texts.{texts}
use Rattle.las_run.specs.Ends.{Change, EndsCommand}
use Rattle.las_run.proofs.Reporting.{chosen, distinct, ends_reporting, holds_of_chosen, lines_seen, some_text}
use Rattle.las_run.proofs.Reporting.{survey_text, there, told}
use Rattle.las_run.proofs.Making.{chunk_late, ends_stopped, leaves}
use Rattle.las_run.proofs.lasinfo.inform.Goals as goal

pub choose-requires-clause-there : goal.choose-requires-clause-there
choose-requires-clause-there g c =
    there (λ tap. (goal.Tap-dyn g (tap.vtable, tap.value)).tap_seen tap.value) string_bytes c.args.tallies.now c.args.taps.items c.requires.chosen.there

pub choose-requires-clause-distinct : goal.choose-requires-clause-distinct
choose-requires-clause-distinct g c =
    distinct string_bytes c.args.tallies.now c.requires.chosen.distinct

pub survey-requires-clause-room : goal.survey-requires-clause-room
survey-requires-clause-room g c κs within =
    holds_of_chosen (λ tap. (goal.Tap-dyn g (tap.vtable, tap.value)).tap_seen tap.value) string_bytes
    (λ tap. (bin : ℕ) → count_at ((goal.Tap-dyn g (tap.vtable, tap.value)).tap_seen tap.value).tally bin ≤ 2 ^ 63)
    c.args.taps.items c.args.tallies.now c.in-Ok.chosen.items c.requires.room c.in-Ok.ensures

pub returns-in-Ok-survey-clause-ends : goal.returns-in-Ok-survey-clause-ends
returns-in-Ok-survey-clause-ends g c =
    let h = c.in-Ok-survey.ensures in
    let reader = c.args.reader in
    let items = c.in-Ok-survey.survey.taps.items in
    let taps : List TapSeen = map (λ tap. (goal.Tap-dyn g (tap.vtable, tap.value)).tap_seen tap.value) c.args.taps.items in
    let tallies = texts c.args.tallies.now in
    let survey : SurveySeen = record {
      summary = c.in-Ok-survey.survey.summary;
      taps = map (λ tap. (goal.Tap-dyn g (tap.vtable, tap.value)).tap_seen tap.value) items;
    } in
    let change : Change = record {
      files = g.F.Files.seen c.args.files.now;
      files_now = g.F.Files.seen c.survey.new.files;
      out = g.O.Sink.seen c.args.out.now;
      out_now = g.O.Sink.seen c.report.new.out;
    } in
    let lines = flat_map (λ tap. tally_text ((goal.Tap-dyn g (tap.vtable, tap.value)).tap_seen tap.value).name ((goal.Tap-dyn g (tap.vtable, tap.value)).tap_seen tap.value).tally) items in
    let chunks = c.chunks_of-chunks.result in
    let head : c.head.result.now.bytes ≡ reader.head.bytes = ap (λ h. h.bytes) (c.head.ensures ∙ h.head) in
    let text = report_text c.head.result.now.bytes chunks survey.summary lines in
    let is : text ≡ survey_text taps tallies reader reader.head.bytes reader.chunk (length reader.pieces) survey =
    ap (λ (b : List ℕ). report_text b chunks survey.summary lines) head
    ∙ ap (λ (n : Option (ℕ × ℕ)). report_text reader.head.bytes n survey.summary lines) c.chunks_of-chunks.ensures
    ∙ ap (report_text reader.head.bytes (option_map {U = ℕ × ℕ} (λ (n : ℕ). (n, length reader.pieces)) reader.chunk) survey.summary)
    (lines_seen (λ tap. (goal.Tap-dyn g (tap.vtable, tap.value)).tap_seen tap.value) items) in
    let surveyed = subst (λ (ts : List TapSeen). WhereKnown change.files.held reader.name (λ file. (blocks : List (List ℕ)) × AreOnlyRecords file blocks None
    × IsShown ts (records_after (head_of file) (concat blocks)) survey))
    (chosen (λ tap. (goal.Tap-dyn g (tap.vtable, tap.value)).tap_seen tap.value) string_bytes c.args.taps.items c.args.tallies.now c.in-Ok.chosen.items c.in-Ok.ensures)
    h.surveyed in
    subst (EndsCommand (Reports taps reader.name tallies) reader.name change) (sym c.put.ensures)
    (ends_reporting taps tallies reader change c.requires.stands h.reads.only.held survey text c.report.result surveyed is (some_text c.head.result.now.bytes chunks survey.summary lines)
    h.ends.1 c.report.ensures.put c.report.ensures.failed c.report.ensures.memory)

pub returns-clause-ends : goal.returns-clause-ends
returns-clause-ends g c =
    let h = c.survey.ensures in
    let reader = c.args.reader in
    let taps : List TapSeen = map (λ tap. (goal.Tap-dyn g (tap.vtable, tap.value)).tap_seen tap.value) c.args.taps.items in
    let tallies = texts c.args.tallies.now in
    let change : Change = record {
      files = g.F.Files.seen c.args.files.now;
      files_now = g.F.Files.seen c.survey.new.files;
      out = g.O.Sink.seen c.args.out.now;
      out_now = g.O.Sink.seen c.args.out.now;
    } in
    let fault = c.in-Err-survey.fault in
    let ends = subst (λ (r : Result _ Fault). EndsMaking Surveys reader.name change.files change.files_now r)
    c.in-Err-survey.is h.ends in
    subst (λ (s : Stop). EndsCommand (Reports taps reader.name tallies) reader.name change (Err s)) (sym c.stop.ensures)
    (ends_stopped (told taps reader.name tallies) change (Unit {0}) fault (λ cause. refl) refl
    (λ cause is. let b = h.bad cause (c.in-Err-survey.is ∙ ap Err is) in chunk_late cause (b.0, b.1)) ends)

pub returns-in-Err-clause-ends : goal.returns-in-Err-clause-ends
returns-in-Err-clause-ends g c =
    let taps : List TapSeen = map (λ tap. (goal.Tap-dyn g (tap.vtable, tap.value)).tap_seen tap.value) c.args.taps.items in
    let change : Change = record {
      files = g.F.Files.seen c.args.files.now;
      files_now = g.F.Files.seen c.args.files.now;
      out = g.O.Sink.seen c.args.out.now;
      out_now = g.O.Sink.seen c.args.out.now;
    } in
    let reader = c.args.reader in (
      leaves (told taps reader.name (texts c.args.tallies.now)) change
          (left_before Surveys reader.name change.files change.files (StandsFor reader) c.requires.stands refl),
      refl,
    )
