use Rattle.std.proofs.Common.{◌+◌, ◌*◌, ℕ, List, Option, Some, sym, ◌∙◌, ap, subst, arith}
use Rattle.las_outside.specs.Files.{WhereKnown}
use Rattle.laz_reader.specs.Asking.{AsksAtMost, asked_to_open}
use Rattle.laz_file.specs.Copying.{with_reads}
use Rattle.laz_reader.specs.Reading.{StandsFor}
use Rattle.las_merge.specs.Asking.{IsAskedToRead}
use Rattle.laz_forms.proofs.Public.{known_then}
use Rattle.laz_file.proofs.Public.{stands_read}
use Rattle.las_merge.specs.Copying.{BeginsWith, CopiesTo, IsFaultOf}
use Rattle.las_merge.proofs.Asked.{asked_again}
use Rattle.las_merge.proofs.Again.{back, fault_by, fault_since, leaves_after, new_again, none_begun, room_for}
use Rattle.las_merge.proofs.Again.{takes_after, there}
use Rattle.las_merge.proofs.copying.copy_next.Given.{Over}
use Rattle.las_merge.proofs.copying.copy_next.Goals.{After-copy_input}
use Rattle.las_merge.proofs.copying.copy_next.Goals as goal

pub returns-in-Err-clause-left : goal.returns-in-Err-clause-left
returns-in-Err-clause-left g c =
    none_begun (g.F.Files.seen c.args.files.now) (g.F.Files.seen c.open_again.new.files) c.args.input.now
    c.args.writer.now c.requires.opened.stands c.open_again.ensures.reads.held

pub copy_input-requires-clause-fresh : goal.copy_input-requires-clause-fresh
copy_input-requires-clause-fresh g c κs within = new_again c.args.input.now.name c.in-Ok.reader
    c.in-Ok.ensures.again.fresh

pub copy_input-requires-clause-reads : goal.copy_input-requires-clause-reads
copy_input-requires-clause-reads g c κs within =
    let reader = c.in-Ok.reader in
    there (λ h n. WhereKnown h n (StandsFor reader)) (g.F.Files.seen c.args.files.now).held
    (g.F.Files.seen c.open_again.new.files).held c.args.input.now.name reader.name c.open_again.ensures.reads.held
    c.in-Ok.ensures.again.fresh.named c.in-Ok.ensures.again.stands

pub copy_input-requires-clause-names : goal.copy_input-requires-clause-names
copy_input-requires-clause-names g c κs within e = c.requires.names (sym c.in-Ok.ensures.again.fresh.named ∙ e)

pub copy_input-requires-clause-room : goal.copy_input-requires-clause-room
copy_input-requires-clause-room g c κs within =
    room_for (g.F.Files.seen c.args.files.now).held c.args.input.now c.in-Ok.reader c.args.writer.now
    c.in-Ok.ensures.again c.requires.room

pub copy_input-requires-clause-stands : goal.copy_input-requires-clause-stands
copy_input-requires-clause-stands g c κs within =
    let old = g.F.Files.seen c.args.files.now in
    let mid = g.F.Files.seen c.open_again.new.files in
    let s = c.requires.stands in (
      with_reads s.0 mid,
      s.1,
      s.2,
      stands_read s.0 old mid c.args.writer.now s.1 s.2 c.open_again.ensures.reads.held
          c.open_again.ensures.reads.writes s.3,
    )

pub returns-in-Ok-copy_input-clause-copied : goal.returns-in-Ok-copy_input-clause-copied
returns-in-Ok-copy_input-clause-copied g c =
    let old = g.F.Files.seen c.args.files.now in
    let mid = g.F.Files.seen c.open_again.new.files in
    let new = g.F.Files.seen c.copy_input.new.files in
    let name = c.args.input.now.name in
    let reader = c.in-Ok.reader in
    let w = c.args.writer.now in
    let d = c.in-Ok-copy_input.ensures.copied in (
      d.0,
      back (λ h n. CopiesTo h n d.0 c.in-Ok-copy_input.end) old.held mid.held name reader.name
          c.open_again.ensures.reads.held c.in-Ok.ensures.again.fresh.named d.1,
      takes_after old mid new w c.copy_input.new.writer d.0 c.open_again.ensures.reads.held
          c.open_again.ensures.reads.writes d.2,
      λ none. d.3 none ∙ ap (λ (n : ℕ). w.size * n) c.in-Ok.ensures.again.records,
    )

pub returns-in-Err-copy_input-clause-left : goal.returns-in-Err-copy_input-clause-left
returns-in-Err-copy_input-clause-left g c =
    let old = g.F.Files.seen c.args.files.now in
    let mid = g.F.Files.seen c.open_again.new.files in
    let new = g.F.Files.seen c.copy_input.new.files in
    let d = c.in-Err-copy_input.ensures.left in (
      d.0,
      back (λ h n. WhereKnown h n (λ file. BeginsWith file d.0)) old.held mid.held c.args.input.now.name
          c.in-Ok.reader.name c.open_again.ensures.reads.held c.in-Ok.ensures.again.fresh.named d.1,
      leaves_after old mid new c.args.writer.now d.0 c.open_again.ensures.reads.held c.open_again.ensures.reads.writes
          d.2,
    )

pub returns-in-Err-copy_input-clause-cause : goal.returns-in-Err-copy_input-clause-cause
returns-in-Err-copy_input-clause-cause g c =
    let old = g.F.Files.seen c.args.files.now in
    let mid = g.F.Files.seen c.open_again.new.files in
    let new = g.F.Files.seen c.copy_input.new.files in
    subst (IsFaultOf old new c.args.number) (sym c.fault_of.ensures)
    (fault_since old mid new c.args.number _ c.open_again.ensures.reads.later.known c.in-Ok.ensures.calm.reads
    c.open_again.ensures.reads.writes (fault_by mid new c.args.number c.in-Err-copy_input.fault
    c.in-Err-copy_input.ensures.cause))

pub returns-in-Err-clause-asked : goal.returns-in-Err-clause-asked
returns-in-Err-clause-asked g c asked bound =
    let old = g.F.Files.seen c.args.files.now in
    let mid = g.F.Files.seen c.open_again.new.files in
    known_then old.held c.args.input.now.name (λ file. AsksAtMost (asked_to_open file) old mid)
    (λ file. AsksAtMost (asked (Some file)) old mid) (λ file most. omega (arith, most, bound.to_open file))
    c.open_again.ensures.asked

-- what opening and reading it asked for
module _ (g : Over) (c : After-copy_input g) (asked : Option (List ℕ) → ℕ) (bound : IsAskedToRead asked) where
  asked_in_all : WhereKnown (g.F.Files.seen c.args.files.now).held c.args.input.now.name
      (λ file. AsksAtMost (asked (Some file)) (g.F.Files.seen c.args.files.now)
      (g.F.Files.seen c.copy_input.new.files))
  asked_in_all = asked_again (g.F.Files.seen c.args.files.now).held c.args.input.now.name c.in-Ok.reader
      (g.F.Files.seen c.args.files.now) (g.F.Files.seen c.open_again.new.files)
      (g.F.Files.seen c.copy_input.new.files) asked bound c.in-Ok.ensures.again.fresh.whole c.in-Ok.ensures.again.stands
      c.open_again.ensures.asked c.copy_input.ensures.frame.asked

pub returns-in-Ok-copy_input-clause-asked : goal.returns-in-Ok-copy_input-clause-asked
returns-in-Ok-copy_input-clause-asked g c = asked_in_all g (goal.at.returns-in-Ok-copy_input-clause-asked g c).After-copy_input

pub returns-in-Err-copy_input-clause-asked : goal.returns-in-Err-copy_input-clause-asked
returns-in-Err-copy_input-clause-asked g c = asked_in_all g (goal.at.returns-in-Err-copy_input-clause-asked g c).After-copy_input
