use Rattle.std.proofs.Common.{List, ℕ, Err, refl, ap, subst, sym}
use Rattle.las_convert.specs.Converting.{IsReady, StopsLooking, wanted_of}
use Rattle.las_filter.specs.Kept.{steps_of}
use Rattle.las_outside.specs.Files.{WhereKnown}
use Rattle.las_thin.specs.Sieving.{Settings}
use Rattle.laz_reader.specs.Reading.{StandsFor}
use Rattle.las_run.specs.declared.stop.Stop.{Stop}
use Rattle.las_run.specs.Ends.{EndsCommand, quiet, stop_by}
use Rattle.las_run.specs.Tools.{ConvertsTaken, chunk_for, range_in, sieve_in}
use Rattle.las_run.proofs.Asking.{asks_again, asks_looking}
use Rattle.las_run.proofs.Converting.{ends_stopping, made_sought, ready_if, stops_if}
use Rattle.las_run.proofs.Making.{chunk_late}
use Rattle.las_run.proofs.las2las.prepare.Goals as goal

pub returns-in-Ok-clause-ready : goal.returns-in-Ok-clause-ready
returns-in-Ok-clause-ready g c =
    let h = c.in-Ok.ensures in
    let again = c.open_again.ensures in
    let reader = c.args.reader in
    let places = c.args.request.now.conversion in
    let plan = steps_of c.args.request.now.plan.now in
    let held = (g.F.Files.seen c.args.files.now).held in
    let sieving = c.look_through.new.sieve in
    let ready = subst (λ (n : List ℕ). IsReady held n plan reader.range sieving) c.requires.fresh.named h.ready in
    ready_if reader places.start places.stop c.args.request.now.input.now plan sieving held
    (g.F.Files.seen c.look_through.new.files).held c.open_again.result
    h.reads.only.held c.requires.range c.requires.stands ready again.range again.stands

pub returns-in-Ok-clause-stops : goal.returns-in-Ok-clause-stops
returns-in-Ok-clause-stops g c =
    let h = c.in-Ok.ensures in
    let input = c.args.request.now.input.now in
    let plan = steps_of c.args.request.now.plan.now in
    stops_if (λ chosen output. ConvertsTaken c.args.request.now.conversion chosen input output plan) input
    (g.F.Files.seen c.args.files.now) (g.F.Files.seen c.look_through.new.files)
    (g.F.Files.seen c.open_again.new.files) c.args.reader c.open_again.result c.requires.stands h.reads.only.held
    h.calm.reads h.reads.only.writes c.open_again.ensures.reads.held c.open_again.ensures.stops

pub returns-in-Ok-clause-asked : goal.returns-in-Ok-clause-asked
returns-in-Ok-clause-asked g c =
    let h = c.in-Ok.ensures in
    let places = c.args.request.now.conversion in
    asks_again c.args.reader c.args.request.now.input.now places.start places.stop places.pick
    (g.F.Files.seen c.args.files.now) c.requires.stands c.requires.fresh.unread c.requires.range
    (g.F.Files.seen c.look_through.new.files) (g.F.Files.seen c.open_again.new.files) c.in_default.not-First
    h.reads.only.held h.reads.asked c.open_again.ensures.asked_of

pub returns-in-Err-clause-stops : goal.returns-in-Err-clause-stops
returns-in-Err-clause-stops g c = λ chosen output out.
    let h = c.in-Err.ensures in
    let reader = c.args.reader in
    let places = c.args.request.now.conversion in
    let plan = steps_of c.args.request.now.plan.now in
    let settings = sieve_in places in
    let size = chunk_for places in
    let old = g.F.Files.seen c.args.files.now in
    let new = g.F.Files.seen c.look_through.new.files in
    let fault = c.in-Err.fault in
    let stops = subst (λ (s : Settings). StopsLooking (wanted_of plan s reader.range) reader.name old new fault)
    c.requires.settings h.stops in
    let stands = subst (λ (n : List ℕ). WhereKnown old.held n (StandsFor reader)) (sym c.requires.fresh.named)
    c.requires.stands in
    let ends = ends_stopping size (range_in places.start places.stop) chosen reader.name output plan settings
    (quiet old new out) fault refl (λ cause is. chunk_late cause (h.bad cause (ap Err is)))
    (made_sought reader places.start places.stop plan settings output size old new (Err fault) c.requires.range
    stands (stops output size)) in
    subst (λ (s : Stop). EndsCommand (ConvertsTaken places chosen c.args.request.now.input.now output plan)
    c.args.request.now.input.now (quiet old new out) (Err s)) (sym c.stop.ensures)
    (subst (λ (n : List ℕ). EndsCommand (ConvertsTaken places chosen n output plan) n (quiet old new out)
    (Err (stop_by 0 fault))) c.requires.fresh.named ends)

pub returns-in-Err-clause-asked : goal.returns-in-Err-clause-asked
returns-in-Err-clause-asked g c =
    let places = c.args.request.now.conversion in
    asks_looking c.args.reader c.args.request.now.input.now places.start places.stop places.pick
    (g.F.Files.seen c.args.files.now) c.requires.stands c.requires.fresh.unread c.requires.range
    (g.F.Files.seen c.look_through.new.files) c.in_default.not-First c.in-Err.ensures.reads.asked
