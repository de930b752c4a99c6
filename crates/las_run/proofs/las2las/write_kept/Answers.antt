use Rattle.std.proofs.Common.{◌≡◌, List, ℕ, Option, None, Ok, Err, map, refl, sym, ◌∙◌, ap, subst}
use Rattle.std.specs.List.{flat_map}
use Rattle.las_convert.specs.Converting.{Converts, GivesOnly, wanted_of}
use Rattle.las_filter.specs.Kept.{steps_of}
use Rattle.las_header.specs.Fields.{head_of}
use Rattle.las_info.specs.Report.{tally_text}
use Rattle.las_info.specs.Tallies.{TapSeen, shown_all}
use Rattle.las_outside.specs.Files.{WhereKnown}
use Rattle.las_thin.specs.Sieving.{Settings, Sieving}
use Rattle.laz_file.specs.Endings.{EndsMaking}
use Rattle.laz_forms.specs.Outputs.{records_after}
use Rattle.las_run.specs.declared.stop.Stop.{Stop}
use Rattle.las_outside.specs.Frames.{IsCalm}
use Rattle.las_run.specs.Calm.{IsNoFailure}
use Rattle.las_run.specs.Ends.{Change, EndsCommand}
use Rattle.las_run.specs.Tools.{ConvertsTaken, chunk_for, range_in, sieve_in}
use Rattle.las_run.proofs.Calm.{stop_kept}
use Rattle.las_run.proofs.Converting.{ends_stopping, ends_tallying, known_as, made_sought, not_put, some_lines}
use Rattle.las_run.proofs.Converting.{sought_range, text_told}
use Rattle.las_run.proofs.Making.{record_late}
use Rattle.las_run.proofs.las2las.write_kept.Goals as goal

pub returns-in-Ok-clause-ends : goal.returns-in-Ok-clause-ends
returns-in-Ok-clause-ends g c =
    let h = c.in-Ok.ensures in
    let reader = c.args.reader in
    let name = reader.name in
    let places = c.args.request.now.conversion in
    let output = c.args.request.now.output.now in
    let plan = steps_of c.args.request.now.plan.now in
    let size = chunk_for places in
    let settings = sieve_in places in
    let chosen : List TapSeen = map (λ tap. (goal.Tap-dyn g (tap.vtable, tap.value)).tap_seen tap.value)
    c.args.chosen.items in
    let old = g.F.Files.seen c.args.files.now in
    let new = g.F.Files.seen c.convert.new.files in
    let change : Change = record {
      files = old;
      files_now = new;
      out = g.O.Sink.seen c.args.out.now;
      out_now = g.O.Sink.seen c.tally_text.new.out;
    } in
    let t = c.tally_text.ensures in
    let told = c.taps.result.now in
    let taps = c.new-passage.result.taps.items in
    let now = c.convert.new.passage.taps.items in
    let own = c.new-passage.result.sieve.settings in
    let chunk = c.chunk_of-chunk.result in
    let text = flat_map (λ tap. tally_text ((goal.Tap-dyn g (tap.vtable, tap.value)).tap_seen tap.value).name
    ((goal.Tap-dyn g (tap.vtable, tap.value)).tap_seen tap.value).tally) told in
    let sieved : own ≡ settings = ap (λ (s : Sieving). s.settings) c.new-passage.ensures.sieve ∙ c.requires.settings in
    let Made : Settings → Option ℕ → Type 0 = λ s k.
    EndsMaking {T = Unit {0}} (Converts (wanted_of plan s reader.range) output k) name old new (Ok tt) in
    let Tallied : Settings → Type 0 = λ s. WhereKnown old.held name (λ file. (records : List ℕ)
    × GivesOnly (wanted_of plan s reader.range) file records None
    × (map (λ tap. (goal.Tap-dyn g (tap.vtable, tap.value)).tap_seen tap.value) now
    ≡ map (λ tap. shown_all ((goal.Tap-dyn g (tap.vtable, tap.value)).tap_seen tap.value)
    (records_after (head_of file) records)) taps)) in
    let made = made_sought reader places.start places.stop plan settings output size old new (Ok tt) c.requires.range
    c.requires.stands (known_as Made own settings chunk size sieved c.chunk_of-chunk.ensures.chunk h.ends) in
    let tallied = text_told (λ tap. (goal.Tap-dyn g (tap.vtable, tap.value)).tap_seen tap.value)
    (range_in places.start places.stop) reader.range name plan old.held reader settings taps c.args.chosen.items now
    told c.new-passage.ensures.taps c.taps.ensures c.requires.stands
    (λ file s. sought_range reader places.start places.stop file c.requires.range s)
    (subst Tallied sieved h.tallied) in
    subst (EndsCommand (ConvertsTaken places chosen name output plan) name change) (sym c.put.ensures)
    (ends_tallying size (range_in places.start places.stop) chosen name output plan settings change text
    c.tally_text.result made tallied t.put t.failed
    (λ failed. some_lines (λ tap. (goal.Tap-dyn g (tap.vtable, tap.value)).tap_seen tap.value) told
    (λ none. not_put c.tally_text.result (t.none none).0 failed)) t.memory)

pub returns-clause-ends : goal.returns-clause-ends
returns-clause-ends g c =
    let h = c.in-Err.ensures in
    let reader = c.args.reader in
    let name = reader.name in
    let places = c.args.request.now.conversion in
    let output = c.args.request.now.output.now in
    let plan = steps_of c.args.request.now.plan.now in
    let size = chunk_for places in
    let settings = sieve_in places in
    let chosen : List TapSeen = map (λ tap. (goal.Tap-dyn g (tap.vtable, tap.value)).tap_seen tap.value)
    c.args.chosen.items in
    let old = g.F.Files.seen c.args.files.now in
    let new = g.F.Files.seen c.convert.new.files in
    let change : Change = record {
      files = old;
      files_now = new;
      out = g.O.Sink.seen c.args.out.now;
      out_now = g.O.Sink.seen c.args.out.now;
    } in
    let own = c.new-passage.result.sieve.settings in
    let sieved : own ≡ settings = ap (λ (s : Sieving). s.settings) c.new-passage.ensures.sieve ∙ c.requires.settings in
    let fault = c.in-Err.fault in
    let Made : Settings → Option ℕ → Type 0 = λ s k.
    EndsMaking {T = Unit {0}} (Converts (wanted_of plan s reader.range) output k) name old new (Err fault) in
    subst (λ (s : Stop). EndsCommand (ConvertsTaken places chosen name output plan) name change (Err s))
    (sym c.stop.ensures)
    (ends_stopping size (range_in places.start places.stop) chosen name output plan settings change fault refl
    (λ cause is. record_late cause (h.bad cause (ap Err is)))
    (made_sought reader places.start places.stop plan settings output size old new (Err fault) c.requires.range
    c.requires.stands (known_as Made own settings c.chunk_of-chunk.result size sieved c.chunk_of-chunk.ensures.chunk
    h.ends)))

pub returns-clause-calm_stopped : goal.returns-clause-calm_stopped
returns-clause-calm_stopped g c = λ kept.
    stop_kept 0 c.in-Err.fault (IsCalm (g.F.Files.seen c.args.files.now) (g.F.Files.seen c.convert.new.files))
    (λ cause is. c.in-Err.ensures.calm_refused cause (ap Err is)) (subst IsNoFailure c.stop.ensures kept)
