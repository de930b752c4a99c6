use Rattle.std.proofs.Common.{◌≡◌, ◌%◌, ◌+◌, ◌<◌, ◌≤◌, ◌/◌, ◌^◌, true, false, ℕ, Bool, List, [], ◌∷◌, ◌++◌, length}
use Rattle.std.proofs.Common.{map, refl, Err, Option, Some, sym, ◌∙◌, ap, subst, length-append, arith}
use Rattle.std.specs.List.{concat}
use Rattle.std.proofs.lemmas.Result.{on_ok_weaker, IfOk-from_err}
use Rattle.las_header.specs.Fields.{record_length_of}
use Rattle.las_header.specs.Heads.{HeadView}
use Rattle.las_header.specs.Plain.{cut_all}
use Rattle.las_filter.specs.Kept.{Steps, steps_of}
use Rattle.las_info.specs.Tallies.{TapSeen}
use Rattle.las_thin.specs.Sieving.{Settings}
use Rattle.las_outside.specs.Outside.{Outside}
use Rattle.las_outside.proofs.Public.{calm-refl, calm-trans, later-refl, later-trans, on_err}
use Rattle.laz_forms.proofs.Public.{record_least, if_err}
use Rattle.laz_reader.specs.Reading.{ReaderSeen}
use Rattle.laz_reader.specs.Turns.{ComesTo, HasComeTo, HoldFirst, MayCome, file_at}
use Rattle.laz_reader.proofs.Public.{come_first, concat_last, next_may, none_come}
use Rattle.laz_writer.specs.Writing.{WriterSeen}
use Rattle.laz_file.specs.Copying.{HasRoomFor, HasTaken}
use Rattle.laz_file.proofs.Public.{begun_now, calm_ok, cause_since, end_err, end_ok, few_come, read_between}
use Rattle.laz_file.proofs.Public.{records_come, room_for_all, room_now, same_size, taken_apart}
use Rattle.las_convert.specs.Adding.{BeforeAll, Goes, HaveCounted, IsAfter, Keeping, LeavesKept, kept_by}
use Rattle.las_convert.proofs.Going.{after_none, count_is, even_read, few_kept, few_left, goes_counted}
use Rattle.las_convert.proofs.Going.{goes_none, goes_read, goes_then, leaves_now, leaves_then}
use Rattle.las_convert.proofs.copying.convert_blocks.Given.{Over}
use Rattle.las_convert.proofs.copying.convert_blocks.Goals.{At-turns, In-Ok, In-Some, After-block-block}
use Rattle.las_convert.proofs.copying.convert_blocks.Goals.{In_ok-taken}
use Rattle.las_convert.proofs.copying.convert_blocks.Goals as goal

pub turns-init : goal.turns-init
turns-init g c =
    let plan = steps_of c.args.plan.now in
    let old = g.F.Files.seen c.args.files.now in
    let w = c.args.writer.now in
    let s = c.requires.stands in
    let some : 0 < w.size = omega (arith, s.3.size, record_least s.1.head s.3.head) in
    let taps : List TapSeen = map (λ tap. (goal.Tap-dyn g (tap.vtable, tap.value)).tap_seen tap.value)
    c.args.passage.now.taps.items in
    record {
      sound = c.requires.room.sound;
      most = refl;
      settings = refl;
      counted = subst (λ (k : ℕ). HaveCounted k taps) c.requires.after.1.read_is c.requires.counted;
      converted = λ looked is. (
        0,
        [],
        none_come old.held c.args.reader.now c.args.crew.now c.first-turn.result c.first-turn.ensures.next
            c.first-turn.ensures.count c.requires.open c.requires.crew c.requires.reads,
        goes_none (kept_by c.args.passage.now.sieve.settings looked plan) [] w.size some old w taps,
        after_none plan looked [] c.args.passage.now.sieve c.args.passage.now.read w.size some is,
      );
      calm = calm-refl _;
      later = later-refl _;
      asked = omega arith;
    }

-- what stands when a turn begins
module _ (g : Over) (c : At-turns g) where
  abbrev plan : Steps
  plan = steps_of c.args.plan.now

  abbrev old : Outside
  old = g.F.Files.seen c.args.files.now

  abbrev now : Outside
  now = g.F.Files.seen c.turns.files

  abbrev first : ReaderSeen
  first = c.args.reader.now

  abbrev writer : WriterSeen
  writer = c.args.writer.now

  abbrev taps : List TapSeen
  taps = map (λ tap. (goal.Tap-dyn g (tap.vtable, tap.value)).tap_seen tap.value) c.args.passage.now.taps.items

  abbrev seen : List TapSeen
  seen = map (λ tap. (goal.Tap-dyn g (tap.vtable, tap.value)).tap_seen tap.value) c.turns.passage.taps.items

  some : 0 < writer.size
  some = let s = c.requires.stands in omega (arith, s.3.size, record_least s.1.head s.3.head)

  abbrev Before : Type 0
  Before = BeforeAll plan c.args.passage.now.sieve c.args.passage.now.read

  -- after what a sieve can have looked at
  module _ (a : Before) where
    abbrev keeping : Keeping
    keeping = kept_by c.args.passage.now.sieve.settings a.0 plan

    abbrev IsGone : (records : List ℕ) → Outside → WriterSeen → List TapSeen → (count : ℕ) → Bool → Type 0
    IsGone records new u shown count refused =
        Goes keeping [] writer.size records old new writer u taps shown count refused

    abbrev place : ℕ
    place = (c.turns.invariant.converted a.0 a.1).0

    abbrev blocks : List (List ℕ)
    blocks = (c.turns.invariant.converted a.0 a.1).1

    come : HasComeTo old.held first c.turns.reader c.turns.crew c.turns.turn place blocks
    come = (c.turns.invariant.converted a.0 a.1).2

    abbrev gone : IsGone (concat blocks) now c.turns.writer seen c.turns.kept false
    gone = (c.turns.invariant.converted a.0 a.1).3

    after : IsAfter plan a.0 (cut_all writer.size (concat blocks)) c.turns.passage.sieve c.turns.passage.read
    after = (c.turns.invariant.converted a.0 a.1).4

    has : HasTaken writer c.turns.writer old now (concat gone.ones)
    has = record {
      begun = c.requires.stands;
      sound = c.turns.invariant.sound;
      most = c.turns.invariant.most;
      takes = gone.takes;
    }

    there : file_at now.held first.name ≡ file_at old.held first.name
    there = taken_apart writer c.turns.writer old now (concat gone.ones) has first.name c.requires.names

    hold : HoldFirst old.held first place blocks
    hold = come_first old.held first c.turns.reader c.turns.crew c.turns.turn place blocks come

    -- what has gone, when only reads came after it
    gone_read : (later : Outside) → later.held ≡ now.held → later.write_faults ≡ now.write_faults
        → IsGone (concat blocks) later c.turns.writer seen c.turns.kept false
    gone_read later held writes =
        goes_read keeping [] writer.size some (concat blocks) old now later writer c.turns.writer c.turns.kept false held
        writes gone

-- what stands when the next block was read, or there is none
module _ (g : Over) (c : In-Ok g) where
  abbrev turn_read : At-turns g
  turn_read = (goal.at.In-Ok g c).At-turns

  abbrev IsNext : Before g turn_read → Option ℕ → Type 0
  IsNext a = ComesTo (old g turn_read).held (first g turn_read) c.next_block.new.self c.next_block.new.crew
      c.next_block.new.turn (place g turn_read a) (blocks g turn_read a)

  next : (a : Before g turn_read) → IsNext a c.in-Ok.next
  next a =
      let t = turn_read in
      c.in-Ok.ensures.next (old g t).held (first g t) (place g t a) (blocks g t a) (come g t a) (there g t a)

-- what stands when it came
module _ (g : Over) (c : In-Some g) where
  abbrev read_come : In-Ok g
  read_come = (goal.at.In-Some g c).In-Ok

  comes : (a : Before g (turn_read g read_come)) → IsNext g read_come a (Some c.in-Some.number)
  comes a = subst (IsNext g read_come a) c.in-Some.is (next g read_come a)

-- what stands when it was lent
module _ (g : Over) (c : After-block-block g) where
  abbrev turn_lent : At-turns g
  turn_lent = (goal.at.After-block-block g c).At-turns

  abbrev some_lent : In-Some g
  some_lent = (goal.at.After-block-block g c).In-Some

  abbrev block : List ℕ
  block = c.block-block.result.now

  abbrev mid : Outside
  mid = g.F.Files.seen c.next_block.new.files

  same : c.from-size.result ≡ c.args.writer.now.size
  same = c.from-size.ensures ∙ c.record_length.ensures.field
      ∙ ap (λ (h : HeadView). record_length_of h.bytes) c.head.ensures ∙ sym c.requires.room.size

  module _ (a : Before g turn_lent) where
    abbrev past : List (List ℕ)
    past = cut_all c.args.writer.now.size (concat (blocks g turn_lent a))

    lent : (comes g some_lent a).0 ≡ block
    lent = let x = comes g some_lent a in sym (c.block-block.ensures x.1.0 x.1.1 x.1.2 ∙ x.1.3)

    may : MayCome (first g turn_lent) (concat (blocks g turn_lent a)) block
    may =
        let t = turn_lent in
        subst (MayCome (first g t) (concat (blocks g t a))) lent
        (next_may (old g t).held (first g t) c.turns.reader c.next_block.new.self c.turns.crew c.next_block.new.crew
        c.turns.turn c.next_block.new.turn (place g t a) _ (blocks g t a) (come g t a) (comes g some_lent a))

    came : HasComeTo (old g turn_lent).held (first g turn_lent) c.next_block.new.self c.next_block.new.crew
        c.next_block.new.turn (place g turn_lent a + 1) (blocks g turn_lent a ++ block ∷ [])
    came =
        let t = turn_lent in
        subst
        (λ (b : List ℕ). HasComeTo (old g t).held (first g t) c.next_block.new.self c.next_block.new.crew
        c.next_block.new.turn (place g t a + 1) (blocks g t a ++ b ∷ [])) lent (comes g some_lent a).2

    hold_more : HoldFirst (old g turn_lent).held (first g turn_lent) (place g turn_lent a + 1)
        (blocks g turn_lent a ++ block ∷ [])
    hold_more =
        let t = turn_lent in
        come_first (old g t).held (first g t) c.next_block.new.self c.next_block.new.crew c.next_block.new.turn
        (place g t a + 1) (blocks g t a ++ block ∷ []) came

    even : length (concat (blocks g turn_lent a)) % c.args.writer.now.size ≡ 0
    even = subst (λ (k : ℕ). length (concat (blocks g turn_lent a)) % k ≡ 0) (sym c.requires.room.size) may.before

    read : IsGone g turn_lent a (concat (blocks g turn_lent a)) mid c.turns.writer (seen g turn_lent) c.turns.kept
        false
    read = let only = c.next_block.ensures.reads.only in gone_read g turn_lent a mid only.held only.writes

-- what stands when it was taken
module _ (g : Over) (c : In_ok-taken g) where
  abbrev turn_taken : At-turns g
  turn_taken = (goal.at.In_ok-taken g c).At-turns

  abbrev lent_taken : After-block-block g
  lent_taken = (goal.at.In_ok-taken g c).After-block-block

  abbrev new : Outside
  new = g.F.Files.seen c.push_kept.new.files

  abbrev shown : List TapSeen
  shown = map (λ tap. (goal.Tap-dyn g (tap.vtable, tap.value)).tap_seen tap.value) c.push_kept.new.passage.taps.items

  abbrev IsAllGone : Before g turn_taken → (refused : Bool) → Type 0
  IsAllGone a refused =
      IsGone g turn_taken a (concat (blocks g turn_taken a ++ block g lent_taken ∷ [])) new c.push_kept.new.writer shown
      (c.turns.kept + c.in_ok-taken.taken.kept) refused

  all_gone : (a : Before g turn_taken) → IsAllGone a c.in_ok-taken.taken.refused
  all_gone a =
      let t = turn_taken in
      let b = lent_taken in
      let u = c.push_kept.new.writer in
      let k = c.in_ok-taken.taken.kept in
      let r = c.in_ok-taken.taken.refused in
      let one = subst
      (λ (s : Settings). Goes (kept_by s a.0 (plan g t)) (past g b a) c.from-size.result (block g b) (mid g b) new
      c.turns.writer u (seen g t) shown k r) c.turns.invariant.settings
      (c.in_ok-taken.ensures.goes a.0 (past g b a) (after g t a)) in
      let here = subst
      (λ (size : ℕ). Goes (keeping g t a) (past g b a) size (block g b) (mid g b) new c.turns.writer u (seen g t)
      shown k r) (same g b) one in
      subst (λ (bytes : List ℕ). IsGone g t a bytes new u shown (c.turns.kept + k) r)
      (sym (concat_last (blocks g t a) (block g b)))
      (goes_then (keeping g t a) [] (writer g t).size (some g t) (concat (blocks g t a)) (block g b) (old g t)
      (mid g b) new (writer g t) c.turns.writer u c.turns.kept k r (even g b a) (read g b a) here)

pub next_block-requires-clause-come : goal.next_block-requires-clause-come
next_block-requires-clause-come g c κs within =
    let t = (goal.at.next_block-requires-clause-come g c).At-turns in
    let a = c.requires.after in
    ((old g t).held, first g t, place g t a, blocks g t a, come g t a, there g t a)

pub returns-in-Err-clause-converted : goal.returns-in-Err-clause-converted
returns-in-Err-clause-converted g c looked is =
    let t = (goal.at.returns-in-Err-clause-converted g c).At-turns in
    let a : Before g t = (looked, is) in
    let only = c.next_block.ensures.reads.only in
    end_ok c.in-Err.fault c.into_end.result _ c.into_end.ensures
    (λ cause eq. (
      place g t a,
      blocks g t a,
      c.turns.kept,
      false,
      hold g t a,
      gone_read g t a (g.F.Files.seen c.next_block.new.files) only.held only.writes,
      c.in-Err.ensures.bad (old g t).held (first g t) (place g t a) (blocks g t a) (come g t a) (there g t a) cause
          (ap Err eq),
    ))

pub returns-in-Err-clause-left : goal.returns-in-Err-clause-left
returns-in-Err-clause-left g c looked is =
    let t = (goal.at.returns-in-Err-clause-left g c).At-turns in
    let a : Before g t = (looked, is) in
    on_err c.into_end.result (
      place g t a,
      blocks g t a,
      hold g t a,
      leaves_now (keeping g t a) [] (writer g t).size (some g t) (concat (blocks g t a)) (old g t) (now g t)
          (g.F.Files.seen c.next_block.new.files) (writer g t) c.turns.writer c.turns.kept
          (even_read (old g t).held (first g t) (writer g t) (place g t a) (blocks g t a) c.requires.room
          (hold g t a)) c.next_block.ensures.reads.only.held (gone g t a),
    )

pub returns-in-Err-clause-cause : goal.returns-in-Err-clause-cause
returns-in-Err-clause-cause g c =
    end_err c.in-Err.fault c.into_end.result (g.F.Files.seen c.args.files.now) (g.F.Files.seen c.turns.files)
    (g.F.Files.seen c.next_block.new.files) c.into_end.ensures c.in-Err.ensures.ends c.turns.invariant.calm.reads

pub returns-in-Err-clause-calm : goal.returns-in-Err-clause-calm
returns-in-Err-clause-calm g c =
    on_ok_weaker c.into_end.result
    (λ reads. record { reads = reads; writes = c.next_block.ensures.reads.only.writes ∙ c.turns.invariant.calm.writes })
    (calm_ok c.in-Err.fault c.into_end.result (g.F.Files.seen c.args.files.now) (g.F.Files.seen c.turns.files)
    (g.F.Files.seen c.next_block.new.files) c.into_end.ensures c.in-Err.ensures.ends c.turns.invariant.calm.reads)

pub returns-in_default-clause-converted : goal.returns-in_default-clause-converted
returns-in_default-clause-converted g c looked is =
    let t = (goal.at.returns-in_default-clause-converted g c).At-turns in
    let r = (goal.at.returns-in_default-clause-converted g c).In-Ok in
    let a : Before g t = (looked, is) in
    let only = c.next_block.ensures.reads.only in (
      place g t a,
      blocks g t a,
      c.turns.kept,
      false,
      hold g t a,
      gone_read g t a (g.F.Files.seen c.next_block.new.files) only.held only.writes,
      subst (IsNext g r a) c.in_default.is (next g r a),
    )

-- ---- a block more

pub block-block-requires : goal.block-block-requires
block-block-requires g c =
    let x = comes g (goal.at.block-block-requires g c).In-Some c.requires.after in
    (x.1.0, x.1.1, x.1.2)

pub push_kept-requires-clause-whole : goal.push_kept-requires-clause-whole
push_kept-requires-clause-whole g c κs within =
    let b = (goal.at.push_kept-requires-clause-whole g c).After-block-block in
    subst (λ (k : ℕ). length c.block-block.result.now % k ≡ 0)
    (sym (same g b ∙ c.requires.room.size)) (may g b c.requires.after).whole

pub push_kept-requires-clause-few : goal.push_kept-requires-clause-few
push_kept-requires-clause-few g c κs within =
    let b = (goal.at.push_kept-requires-clause-few g c).After-block-block in
    let t = (goal.at.push_kept-requires-clause-few g c).At-turns in
    let a = c.requires.after in
    let few = few_come (first g t) (writer g t).size (concat (blocks g t a)) c.block-block.result.now (some g t)
    c.requires.room.size (may g b a)
    (few_left (first g t) (writer g t) (some g t) c.requires.room c.requires.stands.3.few) in
    subst (λ (k : ℕ). c.turns.passage.read + length c.block-block.result.now / k < 2 ^ 32) (sym (same g b))
    (omega (arith, few, (after g t a).read_is))

pub push_kept-requires-clause-after : goal.push_kept-requires-clause-after
push_kept-requires-clause-after g c κs within =
    let t = (goal.at.push_kept-requires-clause-after g c).At-turns in
    let a = c.requires.after in
    (a.0, cut_all c.args.writer.now.size (concat (blocks g t a)), after g t a)

pub push_kept-requires-clause-same : goal.push_kept-requires-clause-same
push_kept-requires-clause-same g c κs within =
    let b = (goal.at.push_kept-requires-clause-same g c).After-block-block in
    let t = (goal.at.push_kept-requires-clause-same g c).At-turns in
    let a = c.requires.after in
    same_size (writer g t) c.turns.writer (old g t) (now g t) (concat (gone g t a).ones) (has g t a) ∙ sym (same g b)

pub push_kept-requires-clause-room : goal.push_kept-requires-clause-room
push_kept-requires-clause-room g c κs within =
    let b = (goal.at.push_kept-requires-clause-room g c).After-block-block in
    let t = (goal.at.push_kept-requires-clause-room g c).At-turns in
    let a = c.requires.after in
    let room = room_for_all (first g t) (writer g t) c.requires.room (concat (blocks g t a)) c.block-block.result.now
    (may g b a) in
    let fits : HasRoomFor (writer g t) (concat (gone g t a).ones) c.block-block.result.now = record {
      whole = room.whole;
      room = omega (arith, room.room, (gone g t a).less);
    } in
    room_now (writer g t) c.turns.writer (old g t) (now g t) (concat (gone g t a).ones) (has g t a)
    c.block-block.result.now fits

pub push_kept-requires-clause-stands : goal.push_kept-requires-clause-stands
push_kept-requires-clause-stands g c κs within =
    let t = (goal.at.push_kept-requires-clause-stands g c).At-turns in
    let a = c.requires.after in
    let mid = g.F.Files.seen c.next_block.new.files in
    begun_now (writer g t) c.turns.writer (old g t) mid (concat (gone g t a).ones)
    (read_between (writer g t) c.turns.writer (old g t) (now g t) (concat (gone g t a).ones) (has g t a) mid
    c.next_block.ensures.reads.only)

pub returns-in_err-taken-clause-left : goal.returns-in_err-taken-clause-left
returns-in_err-taken-clause-left g c looked is =
    let b = (goal.at.returns-in_err-taken-clause-left g c).After-block-block in
    let t = (goal.at.returns-in_err-taken-clause-left g c).At-turns in
    let a : Before g t = (looked, is) in
    let new = g.F.Files.seen c.push_kept.new.files in
    let one = subst
    (λ (s : Settings). LeavesKept (kept_by s looked (plan g t)) (past g b a) c.from-size.result (block g b)
    (mid g b) new c.turns.writer) c.turns.invariant.settings
    (c.in_err-taken.ensures.left looked (past g b a) (after g t a)) in
    let part = subst
    (λ (size : ℕ). LeavesKept (keeping g t a) (past g b a) size (block g b) (mid g b) new c.turns.writer)
    (same g b) one in
    on_err c.from_residual.result (
      place g t a + 1,
      blocks g t a ++ block g b ∷ [],
      hold_more g b a,
      subst (λ (bytes : List ℕ). LeavesKept (keeping g t a) [] (writer g t).size bytes (old g t) new (writer g t))
          (sym (concat_last (blocks g t a) (block g b)))
          (leaves_then (keeping g t a) [] (writer g t).size (some g t) (concat (blocks g t a)) (block g b) (old g t)
          (mid g b) new (writer g t) c.turns.writer c.turns.kept (even g b a) (read g b a) part),
    )

pub returns-in_err-taken-clause-cause : goal.returns-in_err-taken-clause-cause
returns-in_err-taken-clause-cause g c =
    let calm = calm-trans _ _ _ c.turns.invariant.calm c.in-Ok.ensures.calm in
    if_err _ c.from_residual.result _ c.from_residual.ensures.1
    (cause_since (g.F.Files.seen c.args.files.now) (g.F.Files.seen c.next_block.new.files)
    (g.F.Files.seen c.push_kept.new.files) c.in_err-taken.field-0.0 calm.reads calm.writes
    c.in_err-taken.ensures.cause)

pub overflow_add-kept : goal.overflow_add-kept
overflow_add-kept g c =
    let k = (goal.at.overflow_add-kept g c).In_ok-taken in
    let t = (goal.at.overflow_add-kept g c).At-turns in
    let a = c.requires.after in
    let s = c.requires.stands in
    let taken = c.in_ok-taken.taken in
    omega (
      arith,
      few_kept (keeping g t a) [] (writer g t).size
          (concat (blocks g t a ++ c.block-block.result.now ∷ [])) (old g t) (new g k) (writer g t) c.push_kept.new.writer
          (c.turns.kept + taken.kept) taken.refused s.0 s.1 s.2 (some g t) refl s.3 (all_gone g k a),
    )

pub returns-then-taken-clause-converted : goal.returns-then-taken-clause-converted
returns-then-taken-clause-converted g c looked is =
    let k = (goal.at.returns-then-taken-clause-converted g c).In_ok-taken in
    let b = (goal.at.returns-then-taken-clause-converted g c).After-block-block in
    let t = (goal.at.returns-then-taken-clause-converted g c).At-turns in
    let a : Before g t = (looked, is) in (
      place g t a + 1,
      blocks g t a ++ block g b ∷ [],
      c.turns.kept + c.in_ok-taken.taken.kept,
      true,
      hold_more g b a,
      subst (IsAllGone g k a) c.if-taken.true (all_gone g k a),
      refl,
    )

pub turns-preserved : goal.turns-preserved
turns-preserved g c =
    let k = (goal.at.turns-preserved g c).In_ok-taken in
    let b = (goal.at.turns-preserved g c).After-block-block in
    let t = (goal.at.turns-preserved g c).At-turns in
    let before = c.requires.after in
    let size = c.from-size.result in
    let goes = c.in_ok-taken.ensures.goes before.0 (past g b before) (after g t before) in
    let last = c.in_ok-taken.ensures.after before.0 (past g b before) (after g t before) c.if-taken.false in
    let reached : c.turns.passage.read + length (block g b) / size ≤ c.push_kept.new.passage.read =
    omega (
      arith,
      last.read_is,
      (after g t before).read_is,
      length-append (past g b before) (cut_all size (block g b)),
      count_is size (block g b),
    ) in
    record {
      sound = c.in_ok-taken.ensures.open;
      most = c.push_kept.ensures.most ∙ c.turns.invariant.most;
      settings = c.push_kept.ensures.settings ∙ c.turns.invariant.settings;
      counted = goes_counted (kept_by c.turns.passage.sieve.settings before.0 (plan g t)) (past g b before) size
          (block g b) (mid g b) (new g k) c.turns.writer c.push_kept.new.writer
          c.in_ok-taken.taken.kept c.in_ok-taken.taken.refused c.turns.passage.read c.push_kept.new.passage.read
          (subst (λ (z : ℕ). 0 < z) (sym (same g b)) (some g t)) reached goes c.turns.invariant.counted;
      converted = λ looked is.
          let a : Before g t = (looked, is) in
          let more = records_come (first g t) (writer g t).size (blocks g t a) (block g b) (some g t)
          c.requires.room.size (may g b a) in (
            place g t a + 1,
            blocks g t a ++ block g b ∷ [],
            came g b a,
            subst (IsAllGone g k a) c.if-taken.false (all_gone g k a),
            subst
                (λ (rs : List (List ℕ)). IsAfter (plan g t) looked rs c.push_kept.new.passage.sieve
                c.push_kept.new.passage.read) (sym more)
                (subst
                (λ (size : ℕ). IsAfter (plan g t) looked (past g b a ++ cut_all size (block g b))
                c.push_kept.new.passage.sieve c.push_kept.new.passage.read) (same g b)
                (c.in_ok-taken.ensures.after looked (past g b a) (after g t a) c.if-taken.false)),
          );
      calm = calm-trans _ _ _ c.turns.invariant.calm
          (calm-trans _ _ _ c.in-Ok.ensures.calm c.in_ok-taken.ensures.calm);
      later = later-trans _ _ _ c.turns.invariant.later
          (later-trans _ _ _ c.next_block.ensures.reads.only.later c.push_kept.ensures.writes.later);
      asked = omega (arith, c.turns.invariant.asked, c.in-Ok.ensures.asked, c.push_kept.ensures.writes.asked);
    }

pub returns-in_err-taken-clause-converted : goal.returns-in_err-taken-clause-converted
returns-in_err-taken-clause-converted g c looked is = IfOk-from_err c.from_residual.result _ c.from_residual.ensures.0

pub returns-in_err-taken-clause-open : goal.returns-in_err-taken-clause-open
returns-in_err-taken-clause-open g c = IfOk-from_err c.from_residual.result _ c.from_residual.ensures.0

pub returns-in_err-taken-clause-calm : goal.returns-in_err-taken-clause-calm
returns-in_err-taken-clause-calm g c = IfOk-from_err c.from_residual.result _ c.from_residual.ensures.0

pub returns-in_err-taken-clause-frame : goal.returns-in_err-taken-clause-frame
returns-in_err-taken-clause-frame g c = record {
  asked = omega (arith, c.turns.invariant.asked, c.in-Ok.ensures.asked, c.push_kept.ensures.writes.asked);
  later = later-trans _ _ _ c.turns.invariant.later
      (later-trans _ _ _ c.next_block.ensures.reads.only.later c.push_kept.ensures.writes.later);
}

pub returns-then-taken-clause-frame : goal.returns-then-taken-clause-frame
returns-then-taken-clause-frame g c = record {
  asked = omega (arith, c.turns.invariant.asked, c.in-Ok.ensures.asked, c.push_kept.ensures.writes.asked);
  later = later-trans _ _ _ c.turns.invariant.later
      (later-trans _ _ _ c.next_block.ensures.reads.only.later c.push_kept.ensures.writes.later);
}

pub returns-then-taken-clause-calm : goal.returns-then-taken-clause-calm
returns-then-taken-clause-calm g c =
    calm-trans _ _ _ c.turns.invariant.calm (calm-trans _ _ _ c.in-Ok.ensures.calm c.in_ok-taken.ensures.calm)

pub returns-then-taken-clause-open : goal.returns-then-taken-clause-open
returns-then-taken-clause-open g c = c.in_ok-taken.ensures.open

pub returns-in_default-clause-calm : goal.returns-in_default-clause-calm
returns-in_default-clause-calm g c = calm-trans _ _ _ c.turns.invariant.calm c.in-Ok.ensures.calm

pub returns-in_default-clause-open : goal.returns-in_default-clause-open
returns-in_default-clause-open g c = c.turns.invariant.sound
