use Rattle.std.proofs.Common.{◌≡◌, ◌+◌, ℕ, List, [], ◌∷◌, ◌++◌, Err, Option, Some, sym, ◌∙◌, ap, subst, arith}
use Rattle.std.specs.List.{concat}
use Rattle.las_outside.specs.Outside.{Outside}
use Rattle.las_outside.proofs.Public.{calm-refl, calm-trans, later-refl, later-trans, on_err}
use Rattle.laz_forms.proofs.Public.{if_err, on_ok}
use Rattle.laz_reader.specs.Asking.{bytes_left}
use Rattle.laz_reader.specs.Reading.{ReaderSeen}
use Rattle.laz_reader.specs.Turns.{ComesTo, HasComeTo, HoldFirst, file_at}
use Rattle.laz_reader.proofs.Public.{come_first, concat_last, lent_turn, next_may, none_come}
use Rattle.laz_writer.specs.Writing.{WriterSeen}
use Rattle.laz_file.specs.Copying.{HasTaken, LeavesPart}
use Rattle.laz_file.proofs.Copies.{calm_ok, end_err, end_ok}
use Rattle.laz_file.proofs.Taking.{cause_since, part_stands}
use Rattle.laz_file.proofs.Writers.{read_between, room_for_all, taken_apart, taken_none}
use Rattle.laz_file.proofs.copying.copy_records.Given.{Over}
use Rattle.laz_file.proofs.copying.copy_records.Goals.{At-turns, After-next_block, In-Ok, In-Some}
use Rattle.laz_file.proofs.copying.copy_records.Goals as goal

-- what stands when a turn begins
module _ (g : Over) (c : At-turns g) where
  abbrev old : Outside
  old = g.F.Files.seen c.args.files.now

  abbrev now : Outside
  now = g.F.Files.seen c.turns.files

  abbrev first : ReaderSeen
  first = c.args.reader.now

  abbrev writer : WriterSeen
  writer = c.args.writer.now

  abbrev place : ℕ
  place = c.turns.invariant.taken.0

  abbrev blocks : List (List ℕ)
  blocks = c.turns.invariant.taken.1

  come : HasComeTo old.held first c.turns.reader c.turns.crew c.turns.turn place blocks
  come = c.turns.invariant.taken.2

  has : HasTaken writer c.turns.writer old now (concat blocks)
  has = c.turns.invariant.taken.3

  there : file_at now.held first.name ≡ file_at old.held first.name
  there = taken_apart writer c.turns.writer old now (concat blocks) has first.name c.requires.names

  hold : HoldFirst old.held first place blocks
  hold = come_first old.held first c.turns.reader c.turns.crew c.turns.turn place blocks come

-- what stands when the next block was asked for
module _ (g : Over) (c : After-next_block g) where
  abbrev turn_asked : At-turns g
  turn_asked = (goal.at.After-next_block g c).At-turns

  abbrev mid : Outside
  mid = g.F.Files.seen c.next_block.new.files

  taken : HasTaken (writer g turn_asked) c.turns.writer (old g turn_asked) mid (concat (blocks g turn_asked))
  taken =
      let t = turn_asked in
      read_between (writer g t) c.turns.writer (old g t) (now g t) (concat (blocks g t)) (has g t) mid
      c.next_block.ensures.reads.only

-- what stands when it was read, or there is none
module _ (g : Over) (c : In-Ok g) where
  abbrev turn_read : At-turns g
  turn_read = (goal.at.In-Ok g c).At-turns

  abbrev IsNext : Option ℕ → Type 0
  IsNext = ComesTo (old g turn_read).held (first g turn_read) c.next_block.new.self c.next_block.new.crew
      c.next_block.new.turn (place g turn_read) (blocks g turn_read)

  next : IsNext c.in-Ok.next
  next =
      let t = turn_read in
      c.in-Ok.ensures.next (old g t).held (first g t) (place g t) (blocks g t) (come g t) (there g t)

-- what stands when it came
module _ (g : Over) (c : In-Some g) where
  abbrev read_come : In-Ok g
  read_come = (goal.at.In-Some g c).In-Ok

  comes : IsNext g read_come (Some c.in-Some.number)
  comes = subst (IsNext g read_come) c.in-Some.is (next g read_come)

pub turns-init : goal.turns-init
turns-init g c =
    let old = g.F.Files.seen c.args.files.now in
    record {
      taken = (
        0,
        [],
        none_come old.held c.args.reader.now c.args.crew.now c.first-turn.result c.first-turn.ensures.next
            c.first-turn.ensures.count c.requires.open c.requires.crew c.requires.reads,
        taken_none c.args.writer.now old c.requires.room.sound c.requires.stands,
      );
      calm = calm-refl _;
      later = later-refl _;
      asked = omega arith;
    }

pub next_block-requires-clause-come : goal.next_block-requires-clause-come
next_block-requires-clause-come g c κs within =
    let t = (goal.at.next_block-requires-clause-come g c).At-turns in
    ((old g t).held, first g t, place g t, blocks g t, come g t, there g t)

-- ---- the reader ends with a fault

pub returns-in-Err-clause-copied : goal.returns-in-Err-clause-copied
returns-in-Err-clause-copied g c =
    let t = (goal.at.returns-in-Err-clause-copied g c).At-turns in
    let k = (goal.at.returns-in-Err-clause-copied g c).After-next_block in
    end_ok c.in-Err.fault c.into_end.result _ c.into_end.ensures
    (λ cause is. (
      place g t,
      blocks g t,
      hold g t,
      c.in-Err.ensures.bad (old g t).held (first g t) (place g t) (blocks g t) (come g t) (there g t) cause (ap Err is),
      (taken g k).takes,
    ))

pub returns-in-Err-clause-part : goal.returns-in-Err-clause-part
returns-in-Err-clause-part g c =
    let t = (goal.at.returns-in-Err-clause-part g c).At-turns in
    on_err c.into_end.result (
      place g t,
      blocks g t,
      hold g t,
      part_stands (old g t) (now g t) (g.F.Files.seen c.next_block.new.files) (writer g t) c.turns.writer
          (concat (blocks g t)) c.next_block.ensures.reads.only.held (has g t).takes,
    )

pub returns-in-Err-clause-most : goal.returns-in-Err-clause-most
returns-in-Err-clause-most g c = c.turns.invariant.taken.3.most

pub returns-in-Err-clause-open : goal.returns-in-Err-clause-open
returns-in-Err-clause-open g c = on_ok c.into_end.result c.turns.invariant.taken.3.sound

pub returns-in-Err-clause-cause : goal.returns-in-Err-clause-cause
returns-in-Err-clause-cause g c =
    end_err c.in-Err.fault c.into_end.result (g.F.Files.seen c.args.files.now) (g.F.Files.seen c.turns.files)
    (g.F.Files.seen c.next_block.new.files) c.into_end.ensures c.in-Err.ensures.ends c.turns.invariant.calm.reads

pub returns-in-Err-clause-reads_calm : goal.returns-in-Err-clause-reads_calm
returns-in-Err-clause-reads_calm g c =
    calm_ok c.in-Err.fault c.into_end.result (g.F.Files.seen c.args.files.now) (g.F.Files.seen c.turns.files)
    (g.F.Files.seen c.next_block.new.files) c.into_end.ensures c.in-Err.ensures.ends c.turns.invariant.calm.reads

pub returns-in-Err-clause-writes_calm : goal.returns-in-Err-clause-writes_calm
returns-in-Err-clause-writes_calm g c =
    on_ok c.into_end.result (c.next_block.ensures.reads.only.writes ∙ c.turns.invariant.calm.writes)

pub returns-in-Err-clause-asked : goal.returns-in-Err-clause-asked
returns-in-Err-clause-asked g c = omega (arith, c.turns.invariant.asked, c.next_block.ensures.reads.asked)

pub returns-in-Err-clause-later : goal.returns-in-Err-clause-later
returns-in-Err-clause-later g c = later-trans _ _ _ c.turns.invariant.later c.next_block.ensures.reads.only.later

-- ---- the reader has no more

pub returns-in-None-clause-copied : goal.returns-in-None-clause-copied
returns-in-None-clause-copied g c =
    let t = (goal.at.returns-in-None-clause-copied g c).At-turns in
    let k = (goal.at.returns-in-None-clause-copied g c).After-next_block in
    let r = (goal.at.returns-in-None-clause-copied g c).In-Ok in
    (place g t, blocks g t, hold g t, subst (IsNext g r) c.in-None.is (next g r), (taken g k).takes)

pub returns-in-None-clause-most : goal.returns-in-None-clause-most
returns-in-None-clause-most g c = c.turns.invariant.taken.3.most

pub returns-in-None-clause-open : goal.returns-in-None-clause-open
returns-in-None-clause-open g c = c.turns.invariant.taken.3.sound

pub returns-in-None-clause-reads_calm : goal.returns-in-None-clause-reads_calm
returns-in-None-clause-reads_calm g c = c.in-Ok.ensures.calm.reads ∙ c.turns.invariant.calm.reads

pub returns-in-None-clause-writes_calm : goal.returns-in-None-clause-writes_calm
returns-in-None-clause-writes_calm g c = c.in-Ok.ensures.calm.writes ∙ c.turns.invariant.calm.writes

pub returns-in-None-clause-asked : goal.returns-in-None-clause-asked
returns-in-None-clause-asked g c = omega (arith, c.turns.invariant.asked, c.in-Ok.ensures.asked)

pub returns-in-None-clause-later : goal.returns-in-None-clause-later
returns-in-None-clause-later g c = later-trans _ _ _ c.turns.invariant.later c.next_block.ensures.reads.only.later

-- ---- a block more

pub push_lent-requires-clause-fits : goal.push_lent-requires-clause-fits
push_lent-requires-clause-fits g c κs within =
    let t = (goal.at.push_lent-requires-clause-fits g c).At-turns in
    let k = (goal.at.push_lent-requires-clause-fits g c).After-next_block in
    let x = comes g (goal.at.push_lent-requires-clause-fits g c).In-Some in
    let may = next_may (old g t).held (first g t) c.turns.reader c.next_block.new.self c.turns.crew
    c.next_block.new.crew c.turns.turn c.next_block.new.turn (place g t) _ (blocks g t) (come g t) x in (
      writer g t,
      old g t,
      concat (blocks g t),
      x.0,
      taken g k,
      x.1,
      room_for_all (first g t) (writer g t) c.requires.room (concat (blocks g t)) x.0 may,
    )

pub returns-in_err-push_lent-in-Some-clause-part : goal.returns-in_err-push_lent-in-Some-clause-part
returns-in_err-push_lent-in-Some-clause-part g c =
    let t = (goal.at.returns-in_err-push_lent-in-Some-clause-part g c).At-turns in
    let k = (goal.at.returns-in_err-push_lent-in-Some-clause-part g c).After-next_block in
    let x = comes g (goal.at.returns-in_err-push_lent-in-Some-clause-part g c).In-Some in
    let part = c.in_err-push_lent-in-Some.ensures.part (writer g t) (old g t) (concat (blocks g t)) x.0 (taken g k) x.1 in
    on_err c.from_residual.result (
      place g t + 1,
      blocks g t ++ x.0 ∷ [],
      come_first (old g t).held (first g t) c.next_block.new.self c.next_block.new.crew c.next_block.new.turn
          (place g t + 1) (blocks g t ++ x.0 ∷ []) x.2,
      subst (LeavesPart (old g t) (g.F.Files.seen c.push_lent.new.files) (writer g t))
          (sym (concat_last (blocks g t) x.0)) part,
    )

pub returns-in_err-push_lent-in-Some-clause-most : goal.returns-in_err-push_lent-in-Some-clause-most
returns-in_err-push_lent-in-Some-clause-most g c = c.push_lent.ensures.most ∙ c.turns.invariant.taken.3.most

pub returns-in_err-push_lent-in-Some-clause-cause : goal.returns-in_err-push_lent-in-Some-clause-cause
returns-in_err-push_lent-in-Some-clause-cause g c =
    let calm = c.turns.invariant.calm in
    let read = c.in-Ok.ensures.calm in
    if_err _ c.from_residual.result _ c.from_residual.ensures.1
    (cause_since (g.F.Files.seen c.args.files.now) (g.F.Files.seen c.next_block.new.files)
    (g.F.Files.seen c.push_lent.new.files) c.in_err-push_lent-in-Some.field-0.0 (read.reads ∙ calm.reads)
    (read.writes ∙ calm.writes) c.in_err-push_lent-in-Some.ensures.cause)

pub returns-in_err-push_lent-in-Some-clause-asked : goal.returns-in_err-push_lent-in-Some-clause-asked
returns-in_err-push_lent-in-Some-clause-asked g c =
    omega (arith, c.turns.invariant.asked, c.in-Ok.ensures.asked, c.push_lent.ensures.writes.asked)

pub returns-in_err-push_lent-in-Some-clause-later : goal.returns-in_err-push_lent-in-Some-clause-later
returns-in_err-push_lent-in-Some-clause-later g c =
    later-trans _ _ _ c.turns.invariant.later
    (later-trans _ _ _ c.next_block.ensures.reads.only.later c.push_lent.ensures.writes.later)

pub turns-preserved : goal.turns-preserved
turns-preserved g c =
    let t = (goal.at.turns-preserved g c).At-turns in
    let k = (goal.at.turns-preserved g c).After-next_block in
    let x = comes g (goal.at.turns-preserved g c).In-Some in
    let new = g.F.Files.seen c.push_lent.new.files in
    let is = c.push_lent.ensures.reader in
    record {
      taken = (
        place g t + 1,
        blocks g t ++ x.0 ∷ [],
        lent_turn (old g t).held (first g t) c.next_block.new.self c.push_lent.new.reader c.next_block.new.crew
            c.next_block.new.turn (place g t + 1) (blocks g t ++ x.0 ∷ []) x.2 is c.push_lent.ensures.packed x.3,
        subst (HasTaken (writer g t) c.push_lent.new.writer (old g t) new) (sym (concat_last (blocks g t) x.0))
            (c.in_ok-push_lent-in-Some.ensures.takes (writer g t) (old g t) (concat (blocks g t)) x.0 (taken g k) x.1),
      );
      calm = calm-trans _ _ _ c.turns.invariant.calm
          (calm-trans _ _ _ c.in-Ok.ensures.calm c.in_ok-push_lent-in-Some.ensures.calm);
      later = later-trans _ _ _ c.turns.invariant.later
          (later-trans _ _ _ c.next_block.ensures.reads.only.later c.push_lent.ensures.writes.later);
      asked = omega (
        arith,
        c.turns.invariant.asked,
        c.in-Ok.ensures.asked,
        c.push_lent.ensures.writes.asked,
        ap bytes_left is,
      );
    }
