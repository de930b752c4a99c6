use Rattle.std.proofs.Common.{◌≡◌, ℕ, Bool, false, List, [], length, map, ap}
use Rattle.std.specs.List.{concat}
use Rattle.std.proofs.lemmas.Result.{on_err_weaker, IfOk-weaker}
use Rattle.las_filter.specs.Kept.{steps_of}
use Rattle.las_info.specs.Tallies.{TapSeen}
use Rattle.laz_file.specs.Copying.{EndsAfter, HoldFirst, LeavesPart, Takes}
use Rattle.las_convert.specs.Adding.{EndsKeeping, Goes, kept_by}
use Rattle.las_convert.proofs.Going.{even_read}
use Rattle.las_convert.proofs.Unchanged.{goes_unchanged, keeps_unchanged, leaves_unchanged}
use Rattle.las_convert.proofs.copying.convert_records.Goals as goal
use Rattle.las_header.specs.Plain.{cut_all}

pub returns-then-changes_nothing-clause-converted : goal.returns-then-changes_nothing-clause-converted
returns-then-changes_nothing-clause-converted g c looked is =
    let plan = steps_of c.args.plan.now in
    let old = g.F.Files.seen c.args.files.now in
    let new = g.F.Files.seen c.copy_records.new.files in
    let first = c.args.reader.now in
    let w = c.args.writer.now in
    let v = c.copy_records.new.writer in
    let passage = c.args.passage.now in
    let same = c.changes_nothing.ensures c.if-changes_nothing.true in
    let keeping = kept_by passage.sieve.settings looked plan in
    let all = keeps_unchanged plan passage.sieve.settings looked passage.taps.items same in
    let taps : List TapSeen = map (λ tap. (goal.Tap-dyn g (tap.vtable, tap.value)).tap_seen tap.value)
    passage.taps.items in
    let none : taps ≡ [] = ap (map (λ tap. (goal.Tap-dyn g (tap.vtable, tap.value)).tap_seen tap.value)) same.no_tap in
    IfOk-weaker c.copy_records.result (λ end. (n : ℕ) × (blocks : List (List ℕ)) × HoldFirst old.held first n blocks × EndsAfter old.held first n end
    × Takes old new w v (concat blocks)) (λ end. (n : ℕ) × (blocks : List (List ℕ)) × (count : ℕ) × (refused : Bool) × HoldFirst old.held first n blocks
    × Goes keeping [] w.size (concat blocks) old new w v taps taps count refused
    × EndsKeeping old.held first n count refused end)
    (λ end d. (
      d.0,
      d.1,
      length (cut_all w.size (concat d.1)),
      false,
      d.2,
      goes_unchanged keeping all w.size (concat d.1) (even_read old.held first w d.0 d.1 c.requires.room d.2) old new w
          v taps none d.4,
      d.3,
    ))
    c.copy_records.ensures.copied

pub returns-then-changes_nothing-clause-left : goal.returns-then-changes_nothing-clause-left
returns-then-changes_nothing-clause-left g c looked is =
    let plan = steps_of c.args.plan.now in
    let old = g.F.Files.seen c.args.files.now in
    let new = g.F.Files.seen c.copy_records.new.files in
    let first = c.args.reader.now in
    let w = c.args.writer.now in
    let passage = c.args.passage.now in
    let same = c.changes_nothing.ensures c.if-changes_nothing.true in
    let keeping = kept_by passage.sieve.settings looked plan in
    let all = keeps_unchanged plan passage.sieve.settings looked passage.taps.items same in
    on_err_weaker c.copy_records.result
    (λ (p : (n : ℕ) × (blocks : List (List ℕ)) × HoldFirst old.held first n blocks
    × LeavesPart old new w (concat blocks)). (
      p.0,
      p.1,
      p.2,
      leaves_unchanged keeping all w.size (concat p.1) (even_read old.held first w p.0 p.1 c.requires.room p.2) old new
          w p.3,
    ))
    c.copy_records.ensures.part

pub returns-then-changes_nothing-clause-open : goal.returns-then-changes_nothing-clause-open
returns-then-changes_nothing-clause-open g c = c.copy_records.ensures.open

pub returns-then-changes_nothing-clause-cause : goal.returns-then-changes_nothing-clause-cause
returns-then-changes_nothing-clause-cause g c = c.copy_records.ensures.cause

pub returns-then-changes_nothing-clause-frame : goal.returns-then-changes_nothing-clause-frame
returns-then-changes_nothing-clause-frame g c =
    record { asked = c.copy_records.ensures.asked; later = c.copy_records.ensures.later }

pub returns-clause-converted : goal.returns-clause-converted
returns-clause-converted g c = c.convert_blocks.ensures.converted

pub returns-clause-left : goal.returns-clause-left
returns-clause-left g c = c.convert_blocks.ensures.left

pub returns-clause-open : goal.returns-clause-open
returns-clause-open g c = c.convert_blocks.ensures.open

pub returns-clause-cause : goal.returns-clause-cause
returns-clause-cause g c = c.convert_blocks.ensures.cause

pub returns-clause-calm : goal.returns-clause-calm
returns-clause-calm g c = c.convert_blocks.ensures.calm

pub returns-clause-frame : goal.returns-clause-frame
returns-clause-frame g c = c.convert_blocks.ensures.frame
