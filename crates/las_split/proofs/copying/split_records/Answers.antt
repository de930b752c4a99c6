use Rattle.std.proofs.lemmas.Result.{IfOk-from_err}
use Rattle.std.proofs.Common.{◌≡◌, ◌/◌, ◌%◌, ◌+◌, ◌<◌, ◌≤◌, ◌^◌, Bool, true, false, ℕ, List, Option, Some, [], ◌∷◌, ◌++◌, length, refl, Err, Ok, sym, ◌∙◌, ap, subst, length-append, arith}
use Rattle.std.specs.Prelude.{unwrap_or}
use Rattle.std.specs.List.{concat}
use Rattle.las_header.specs.Fields.{is_packed, record_length_of}
use Rattle.las_header.specs.Vlrs.{laszip_vlrs_of}
use Rattle.las_header.specs.Heads.{HeadView}
use Rattle.las_header.specs.declared.refusal.Refusal.{Refusal}
use Rattle.las_header.specs.Plain.{cut_all}
use Rattle.las_header.proofs.Public.{cut_length}
use Rattle.las_outside.specs.Files.{FileMap}
use Rattle.las_outside.proofs.Public.{calm-refl, calm-trans, later-refl, later-trans, on_err}
use Rattle.laz_forms.proofs.Public.{if_err}
use Rattle.laz_reader.specs.Reading.{ReaderSeen}
use Rattle.laz_reader.specs.Turns.{ComesTo, HoldFirst, MayCome, file_at}
use Rattle.laz_reader.proofs.Public.{come_first, next_may, none_come}
use Rattle.laz_writer.specs.Writing.{WriterSeen}
use Rattle.laz_file.proofs.Public.{calm_ok, end_err, end_ok, cause_since}
use Rattle.las_split.specs.Sorting.{EndsSplitting, PartsHaveRoom, InParts, LeavesBlock, TakesBlock, SplitTask, split_task}
use Rattle.las_split.proofs.BatchesTaken.{cut_come, head_some, left_whole, none_yet, parts_apart, parts_held, parts_none, room_come}
use Rattle.las_split.proofs.Blocks.{left_then, next_fits, takes_then}
use Rattle.las_split.proofs.SomeRecords.{never_write}
use Rattle.las_split.proofs.copying.split_records.Given.{Over}
use Rattle.las_split.proofs.copying.split_records.Goals.{After-next_block, After-block-block}
use Rattle.las_split.proofs.copying.split_records.Goals as goal

pub turns-init : goal.turns-init
turns-init g c =
    let old = g.F.Files.seen c.args.files.now in
    let first = c.args.reader.now in
    let s = record_length_of first.head.bytes in
    let task = split_task c.args.names.now (unwrap_or c.args.plain.now first.head) c.args.rule.now in
    let some : 0 < s = head_some first.head.bytes c.requires.head in
    record {
      taken = (
        0,
        [],
        none_come old.held first c.args.crew.now c.first-turn.result c.first-turn.ensures.next c.first-turn.ensures.count c.requires.open c.requires.crew c.requires.reads,
        parts_none task old.held c.new-parts.result.numbers c.new-parts.result.writers.items s some c.new-parts.ensures.numbers c.new-parts.ensures.writers,
        none_yet s some,
      );
      calm = calm-refl _;
      later = later-refl _;
      asked = omega arith;
    }

pub next_block-requires-clause-come : goal.next_block-requires-clause-come
next_block-requires-clause-come g c κs within =
    let old = (g.F.Files.seen c.args.files.now).held in
    let first = c.args.reader.now in
    let done = c.turns.invariant.taken in
    let x = cut_all (record_length_of first.head.bytes) (concat done.1) in
    let same = parts_apart (split_task c.args.names.now (unwrap_or c.args.plain.now first.head) c.args.rule.now) old
    (g.F.Files.seen c.turns.files).held c.turns.parts.numbers c.turns.parts.writers.items x x done.3 first.name
    c.requires.names in
    (old, first, done.0, done.1, done.2, same)

-- what stands when a block was asked for
module _ (g : Over) (c : After-next_block g) where
  abbrev old : Option FileMap
  old = (g.F.Files.seen c.args.files.now).held

  abbrev mid : Option FileMap
  mid = (g.F.Files.seen c.next_block.new.files).held

  abbrev task : SplitTask
  task = split_task c.args.names.now (unwrap_or c.args.plain.now c.args.reader.now.head) c.args.rule.now

  abbrev taken : List (List ℕ)
  taken = cut_all (record_length_of c.args.reader.now.head.bytes) (concat c.turns.invariant.taken.1)

  same : file_at (g.F.Files.seen c.turns.files).held c.args.reader.now.name ≡ file_at old c.args.reader.now.name
  same =
      parts_apart task old (g.F.Files.seen c.turns.files).held c.turns.parts.numbers c.turns.parts.writers.items
      taken taken c.turns.invariant.taken.3 c.args.reader.now.name c.requires.names

  here : InParts task old mid c.turns.parts.numbers c.turns.parts.writers.items taken taken
  here =
      parts_held task old (g.F.Files.seen c.turns.files).held mid c.turns.parts.numbers c.turns.parts.writers.items
      taken taken c.next_block.ensures.reads.only.held c.turns.invariant.taken.3

  hold : HoldFirst old c.args.reader.now c.turns.invariant.taken.0 c.turns.invariant.taken.1
  hold =
      let done = c.turns.invariant.taken in
      come_first old c.args.reader.now c.turns.reader c.turns.crew c.turns.turn done.0 done.1 done.2

pub returns-in-Err-clause-takes : goal.returns-in-Err-clause-takes
returns-in-Err-clause-takes g c =
    let k = (goal.at.returns-in-Err-clause-takes g c).After-next_block in
    let first = c.args.reader.now in
    let done = c.turns.invariant.taken in
    end_ok c.in-Err.fault (Ok c.in_ok-end-in-Err.end)
    (λ (e : Option Refusal). (n : ℕ) × (blocks : List (List ℕ)) × (all : Bool) × HoldFirst (old g k) first n blocks
    × TakesBlock (task g k) (old g k) (mid g k) c.turns.parts.numbers c.turns.parts.writers.items []
    (cut_all (record_length_of first.head.bytes) (concat blocks)) all × EndsSplitting (old g k) first n all e)
    c.in_ok-end-in-Err.ensures
    (λ cause e. (
      done.0,
      done.1,
      true,
      hold g k,
      here g k,
      c.in-Err.ensures.bad (old g k) first done.0 done.1 done.2 (same g k) cause (ap Err e),
    ))

pub returns-in_err-end-in-Err-clause-left : goal.returns-in_err-end-in-Err-clause-left
returns-in_err-end-in-Err-clause-left g c =
    let k = (goal.at.returns-in_err-end-in-Err-clause-left g c).After-next_block in
    let done = c.turns.invariant.taken in
    on_err c.from_residual.result (
      done.0,
      done.1,
      hold g k,
      left_whole (task g k) (old g k) (mid g k) c.turns.parts.numbers c.turns.parts.writers.items (taken g k)
          (here g k),
    )

pub returns-in_err-end-in-Err-clause-cause : goal.returns-in_err-end-in-Err-clause-cause
returns-in_err-end-in-Err-clause-cause g c =
    if_err _ c.from_residual.result _ c.from_residual.ensures.1
    (end_err c.in-Err.fault (Err c.in_err-end-in-Err.field-0.0) (g.F.Files.seen c.args.files.now) (g.F.Files.seen c.turns.files) (g.F.Files.seen c.next_block.new.files) c.in_err-end-in-Err.ensures c.in-Err.ensures.ends c.turns.invariant.calm.reads)

pub returns-in-Err-clause-calm : goal.returns-in-Err-clause-calm
returns-in-Err-clause-calm g c = record {
  reads = calm_ok c.in-Err.fault (Ok c.in_ok-end-in-Err.end) (g.F.Files.seen c.args.files.now) (g.F.Files.seen c.turns.files) (g.F.Files.seen c.next_block.new.files) c.in_ok-end-in-Err.ensures c.in-Err.ensures.ends c.turns.invariant.calm.reads;
  writes = c.next_block.ensures.reads.only.writes ∙ c.turns.invariant.calm.writes;
}

pub returns-in_err-end-in-Err-clause-some : goal.returns-in_err-end-in-Err-clause-some
returns-in_err-end-in-Err-clause-some g c =
    if_err _ c.from_residual.result _ c.from_residual.ensures.1
    (never_write c.in-Err.fault (Err c.in_err-end-in-Err.field-0.0) _ (g.F.Files.seen c.turns.files) (g.F.Files.seen c.next_block.new.files) c.in_err-end-in-Err.ensures c.in-Err.ensures.ends)

pub returns-in_default-clause-takes : goal.returns-in_default-clause-takes
returns-in_default-clause-takes g c =
    let k = (goal.at.returns-in_default-clause-takes g c).After-next_block in
    let first = c.args.reader.now in
    let done = c.turns.invariant.taken in
    let n = c.next_block.new in (
      done.0,
      done.1,
      true,
      hold g k,
      here g k,
      subst (ComesTo (old g k) first n.self n.crew n.turn done.0 done.1) c.in_default.is
          (c.in-Ok.ensures.next (old g k) first done.0 done.1 done.2 (same g k)),
    )

-- ---- a block more

pub block-block-requires : goal.block-block-requires
block-block-requires g c =
    let k = (goal.at.block-block-requires g c).After-next_block in
    let first = c.args.reader.now in
    let done = c.turns.invariant.taken in
    let n = c.next_block.new in
    let come = subst (ComesTo (old g k) first n.self n.crew n.turn done.0 done.1) c.in-Some.is
    (c.in-Ok.ensures.next (old g k) first done.0 done.1 done.2 (same g k)) in
    (come.1.0, come.1.1, come.1.2)

-- what stands when the block is there
module _ (g : Over) (c : After-block-block g) where
  abbrev was : Option FileMap
  was = (g.F.Files.seen c.args.files.now).held

  abbrev first : ReaderSeen
  first = c.args.reader.now

  abbrev size : ℕ
  size = record_length_of first.head.bytes

  abbrev used : HeadView
  used = unwrap_or c.args.plain.now first.head

  abbrev with_head : HeadView → SplitTask
  with_head h = split_task c.args.names.now h c.args.rule.now

  abbrev before : List (List ℕ)
  before = cut_all size (concat c.turns.invariant.taken.1)

  come : ComesTo was first c.next_block.new.self c.next_block.new.crew c.next_block.new.turn c.turns.invariant.taken.0
      c.turns.invariant.taken.1 (Some c.in-Some.number)
  come =
      let done = c.turns.invariant.taken in
      let n = c.next_block.new in
      let apart = parts_apart (with_head used) was (g.F.Files.seen c.turns.files).held c.turns.parts.numbers
      c.turns.parts.writers.items before before done.3 first.name c.requires.names in
      subst (ComesTo was first n.self n.crew n.turn done.0 done.1) c.in-Some.is
      (c.in-Ok.ensures.next was first done.0 done.1 done.2 apart)

  abbrev blocks : List (List ℕ)
  blocks = c.turns.invariant.taken.1 ++ come.0 ∷ []

  heads : c.plain_of-head.result.now ≡ used
  heads = c.plain_of-head.ensures ∙ ap (unwrap_or c.args.plain.now) come.2.read.head

  wide : c.from-size.result ≡ size
  wide =
      c.from-size.ensures ∙ c.record_length.ensures.field
      ∙ ap (λ (h : HeadView). record_length_of h.bytes) c.head.ensures

  is : c.block-block.result.now ≡ come.0
  is = c.block-block.ensures come.1.0 come.1.1 come.1.2 ∙ come.1.3

  -- the head, the size and the block that the code has are those of the reader
  module _ (P : HeadView → ℕ → List ℕ → Type 0) where
    to_known : P c.plain_of-head.result.now c.from-size.result c.block-block.result.now → P used size come.0
    to_known p =
        subst (P used size) is (subst (λ (k : ℕ). P used k c.block-block.result.now) wide
        (subst (λ (h : HeadView). P h c.from-size.result c.block-block.result.now) heads p))

    from_known : P used size come.0 → P c.plain_of-head.result.now c.from-size.result c.block-block.result.now
    from_known p =
        subst (λ (h : HeadView). P h c.from-size.result c.block-block.result.now) (sym heads)
        (subst (λ (k : ℕ). P used k c.block-block.result.now) (sym wide) (subst (P used size) (sym is) p))

  may : MayCome first (concat c.turns.invariant.taken.1) come.0
  may =
      let done = c.turns.invariant.taken in
      let n = c.next_block.new in
      next_may was first c.turns.reader n.self c.turns.crew n.crew c.turns.turn n.turn done.0 c.in-Some.number done.1
      done.2 come

  room : PartsHaveRoom (with_head used) size c.turns.index (length come.0)
  room =
      room_come first c.turns.invariant.taken.1 come.0 c.requires.head may (with_head used) used c.turns.index refl
      c.requires.plain c.requires.all c.turns.invariant.taken.4

  joined : cut_all size (concat blocks) ≡ before ++ cut_all size come.0
  joined = cut_come first c.turns.invariant.taken.1 come.0 c.requires.head may

  every : length (cut_all size (concat blocks)) ≡ length before + length (cut_all size come.0)
  every = ap (λ (l : List (List ℕ)). length l) joined ∙ length-append before (cut_all size come.0)

  all_hold : HoldFirst was first (c.turns.invariant.taken.0 + 1) blocks
  all_hold =
      let n = c.next_block.new in
      come_first was first n.self n.crew n.turn (c.turns.invariant.taken.0 + 1) blocks come.2

  parts : InParts (with_head c.plain_of-head.result.now) was (g.F.Files.seen c.next_block.new.files).held
      c.turns.parts.numbers c.turns.parts.writers.items before before
  parts =
      let mid = (g.F.Files.seen c.next_block.new.files).held in
      let ns = c.turns.parts.numbers in
      let ws = c.turns.parts.writers.items in
      from_known (λ h s b. InParts (with_head h) was mid ns ws before before)
      (parts_held (with_head used) was (g.F.Files.seen c.turns.files).held mid ns ws before before
      c.next_block.ensures.reads.only.held c.turns.invariant.taken.3)

  all_left : (now : Option FileMap)
      → LeavesBlock (with_head c.plain_of-head.result.now) was now before
      (cut_all c.from-size.result c.block-block.result.now)
      → LeavesBlock (with_head used) was now [] (cut_all size (concat blocks))
  all_left now left =
      subst (LeavesBlock (with_head used) was now []) (sym joined)
      (left_then (with_head used) was now [] before (cut_all size come.0)
      (to_known (λ h s b. LeavesBlock (with_head h) was now before (cut_all s b)) left))

  all_taken : (now : Option FileMap) (ns : List ℕ) (ws : List WriterSeen) (answer all : Bool) → answer ≡ all
      → TakesBlock (with_head c.plain_of-head.result.now) was now ns ws before
      (cut_all c.from-size.result c.block-block.result.now) answer
      → TakesBlock (with_head used) was now ns ws [] (cut_all size (concat blocks)) all
  all_taken now ns ws answer all goes takes =
      let one = to_known (λ h k b. TakesBlock (with_head h) was now ns ws before (cut_all k b) answer) takes in
      let two = subst (TakesBlock (with_head used) was now ns ws before (cut_all size come.0)) goes one in
      subst (λ (z : List (List ℕ)). TakesBlock (with_head used) was now ns ws [] z all) (sym joined)
      (takes_then (with_head used) was now ns ws [] before (cut_all size come.0) all two)

pub invariant_of-splitter : goal.invariant_of-splitter
invariant_of-splitter g c =
    let k = (goal.at.invariant_of-splitter g c).After-block-block in
    record {
      plain = ap (λ (h : HeadView). is_packed h.bytes) (heads g k) ∙ c.requires.plain.plain_is;
      none = ap (λ (h : HeadView). laszip_vlrs_of h.bytes) (heads g k) ∙ c.requires.plain.none;
    }

pub split_block-requires-clause-room : goal.split_block-requires-clause-room
split_block-requires-clause-room g c κs lives =
    let k = (goal.at.split_block-requires-clause-room g c).After-block-block in
    from_known g k (λ h s b. PartsHaveRoom (with_head g k h) s c.turns.index (length b)) (room g k)

pub split_block-requires-clause-whole : goal.split_block-requires-clause-whole
split_block-requires-clause-whole g c κs lives =
    let k = (goal.at.split_block-requires-clause-whole g c).After-block-block in
    from_known g k (λ h s b. length b % s ≡ 0) (may g k).whole

pub split_block-requires-clause-parts : goal.split_block-requires-clause-parts
split_block-requires-clause-parts g c κs lives =
    let k = (goal.at.split_block-requires-clause-parts g c).After-block-block in
    (was g k, before g k, parts g k, c.turns.invariant.taken.4)

pub returns-in_err-split_block-clause-left : goal.returns-in_err-split_block-clause-left
returns-in_err-split_block-clause-left g c =
    let k = (goal.at.returns-in_err-split_block-clause-left g c).After-block-block in
    let done = c.turns.invariant.taken in
    on_err c.from_residual-in_err-split_block.result (
      done.0 + 1,
      blocks g k,
      all_hold g k,
      all_left g k (g.F.Files.seen c.split_block.new.files).held
          (c.in_err-split_block.ensures.left (was g k) (before g k) (parts g k) done.4),
    )

pub returns-in_err-split_block-clause-cause : goal.returns-in_err-split_block-clause-cause
returns-in_err-split_block-clause-cause g c =
    let calm = calm-trans _ _ _ c.turns.invariant.calm c.in-Ok.ensures.calm in
    if_err _ c.from_residual-in_err-split_block.result _ c.from_residual-in_err-split_block.ensures.1
    (cause_since (g.F.Files.seen c.args.files.now) (g.F.Files.seen c.next_block.new.files) (g.F.Files.seen c.split_block.new.files) c.in_err-split_block.field-0.0 calm.reads calm.writes c.in_err-split_block.ensures.cause)

pub returns-in_err-split_block-clause-some : goal.returns-in_err-split_block-clause-some
returns-in_err-split_block-clause-some g c =
    let k = (goal.at.returns-in_err-split_block-clause-some g c).After-block-block in
    let done = c.turns.invariant.taken in
    if_err _ c.from_residual-in_err-split_block.result _ c.from_residual-in_err-split_block.ensures.1
    (λ write.
    let there = to_known g k (λ h s b. 1 ≤ length (before g k) + length (cut_all s b))
    (c.in_err-split_block.ensures.some (was g k) (before g k) (parts g k) done.4 write) in
    (done.0 + 1, blocks g k, all_hold g k, omega (arith, there, every g k)))

pub returns-then-not-branch-clause-takes : goal.returns-then-not-branch-clause-takes
returns-then-not-branch-clause-takes g c =
    let k = (goal.at.returns-then-not-branch-clause-takes g c).After-block-block in
    let done = c.turns.invariant.taken in
    let n = c.split_block.new in (
      done.0 + 1,
      blocks g k,
      false,
      all_hold g k,
      all_taken g k (g.F.Files.seen n.files).held n.parts.numbers n.parts.writers.items c.in_ok-split_block.field-0
          false c.if-not-branch.true (c.in_ok-split_block.ensures.takes (was g k) (before g k) (parts g k) done.4),
      refl,
    )

pub overflow_add-index : goal.overflow_add-index
overflow_add-index g c =
    let k = (goal.at.overflow_add-index g c).After-block-block in
    let fits = from_known g k (λ h s b. c.turns.index + length b / s < 2 ^ 32)
    (next_fits (with_head g k (used g k)) (size g k) c.turns.index (come g k).0 (room g k)) in
    omega (arith, fits)

pub turns-preserved : goal.turns-preserved
turns-preserved g c =
    let k = (goal.at.turns-preserved g c).After-block-block in
    let done = c.turns.invariant.taken in
    let n = c.split_block.new in
    let s = size g k in
    let block = (come g k).0 in
    let count = to_known g k (λ h s b. length c.block-block.result.now / c.from-size.result ≡ length b / s) refl in
    let place : c.turns.index + length c.block-block.result.now / c.from-size.result
    ≡ length (cut_all s (concat (blocks g k)))
    = omega (arith, done.4, every g k, count, cut_length s (length block / s) block) in
    record {
      taken = (
        done.0 + 1,
        blocks g k,
        (come g k).2,
        all_taken g k (g.F.Files.seen n.files).held n.parts.numbers n.parts.writers.items c.in_ok-split_block.field-0
            true c.if-not-branch.false
            (c.in_ok-split_block.ensures.takes (was g k) (before g k) (parts g k) done.4),
        place,
      );
      calm = calm-trans _ _ _ c.turns.invariant.calm
          (calm-trans _ _ _ c.in-Ok.ensures.calm c.in_ok-split_block.ensures.calm);
      later = later-trans _ _ _ c.turns.invariant.later
          (later-trans _ _ _ c.next_block.ensures.reads.only.later c.split_block.ensures.writes.later);
      asked = omega (arith, c.turns.invariant.asked, c.in-Ok.ensures.asked, c.split_block.ensures.writes.asked);
    }

pub returns-in_err-end-in-Err-clause-takes : goal.returns-in_err-end-in-Err-clause-takes
returns-in_err-end-in-Err-clause-takes g c = IfOk-from_err c.from_residual.result _ c.from_residual.ensures.0

pub returns-in_err-end-in-Err-clause-calm : goal.returns-in_err-end-in-Err-clause-calm
returns-in_err-end-in-Err-clause-calm g c = IfOk-from_err c.from_residual.result _ c.from_residual.ensures.0

pub returns-in_err-split_block-clause-takes : goal.returns-in_err-split_block-clause-takes
returns-in_err-split_block-clause-takes g c =
    IfOk-from_err c.from_residual-in_err-split_block.result _ c.from_residual-in_err-split_block.ensures.0

pub returns-in_err-split_block-clause-calm : goal.returns-in_err-split_block-clause-calm
returns-in_err-split_block-clause-calm g c =
    IfOk-from_err c.from_residual-in_err-split_block.result _ c.from_residual-in_err-split_block.ensures.0
