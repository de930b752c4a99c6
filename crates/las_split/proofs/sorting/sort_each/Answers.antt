use Rattle.laz_file.proofs.Public.{cause_since}
use Rattle.std.proofs.lemmas.Result.{IfOk-from_err}
use Rattle.std.proofs.Common.{◌≡◌, ℕ, ◌*◌, ◌<◌, ◌≤◌, ◌/◌, ◌++◌, true, false, length, take, drop, sym, ap, subst, arith}
use Rattle.las_outside.proofs.Public.{calm-refl, calm-trans, only_writes-refl, only_writes-trans, on_err}
use Rattle.laz_forms.proofs.Public.{if_err, rest_next}
use Rattle.laz_forms.specs.declared.fault.Fault.TheVariants.{Write}
use Rattle.las_split.specs.Sorting.{SortsPoint, task_in}
use Rattle.las_split.specs.Steps.{SortsMore}
use Rattle.las_split.proofs.Runs.{each_all, each_left, each_less, each_more, each_none, each_place}
use Rattle.las_split.proofs.SortingPoints.{index_fits}
use Rattle.las_split.proofs.sorting.sort_each.Goals as goal
use Rattle.las_header.specs.Plain.{cut_all}
use Rattle.las_header.proofs.Public.{cut_length}

pub loop-turn-init : goal.loop-turn-init
loop-turn-init g c = record {
  rest = (let none : c.args.splitter.now.size * 0 ≡ 0 = omega arith in ap (λ (k : ℕ). drop k c.args.group.now) (sym none));
  sorts = λ was records block s at. each_none (task_in c.args.splitter.now) was (g.F.Files.seen c.args.files.now).held c.args.parts.now records block (cut_all c.args.splitter.now.size c.args.group.now) s;
  calm = calm-refl _;
  writes = only_writes-refl _;
}

pub overflow_add-place : goal.overflow_add-place
overflow_add-place g c =
    let more : c.loop-turn.turn < length c.args.group.now / c.args.splitter.now.size = omega (arith, c.loop-turn-test.true) in
    omega (arith, index_fits (task_in c.args.splitter.now) c.args.splitter.now.size c.args.index c.loop-turn.turn c.args.group.now c.requires.room c.requires.whole more)

pub sort_point-requires-clause-index : goal.sort_point-requires-clause-index
sort_point-requires-clause-index g c =
    let more : c.loop-turn.turn < length c.args.group.now / c.args.splitter.now.size = omega (arith, c.loop-turn-test.true) in
    omega (arith, index_fits (task_in c.args.splitter.now) c.args.splitter.now.size c.args.index c.loop-turn.turn c.args.group.now c.requires.room c.requires.whole more)

pub sort_point-requires-clause-parts : goal.sort_point-requires-clause-parts
sort_point-requires-clause-parts g c =
    let q = c.requires.parts in
    let more : c.loop-turn.turn < length c.args.group.now / c.args.splitter.now.size = omega (arith, c.loop-turn-test.true) in
    let s = c.loop-turn.invariant.sorts q.0 q.1 q.2 q.3 q.4 in
    (q.0, q.1, q.2 ++ take c.loop-turn.turn (cut_all c.args.splitter.now.size c.args.group.now), s, each_place c.args.splitter.now.size c.loop-turn.turn c.args.index c.args.group.now q.1 q.2 more q.4)

pub returns-in_err-sort_point-clause-left : goal.returns-in_err-sort_point-clause-left
returns-in_err-sort_point-clause-left g c was records block i at =
    let task = task_in c.args.splitter.now in
    let more : c.loop-turn.turn < length c.args.group.now / c.args.splitter.now.size = omega (arith, c.loop-turn-test.true) in
    let s = c.loop-turn.invariant.sorts was records block i at in
    let here = each_place c.args.splitter.now.size c.loop-turn.turn c.args.index c.args.group.now records block more at in
    on_err c.from_residual.result
    (each_left task was records block c.args.splitter.now.size c.loop-turn.turn c.args.group.now c.split_at.result.0.now c.loop-turn.rest.now more c.loop-turn.invariant.rest c.split_at.ensures.front (g.F.Files.seen c.sort_point.new.files).held
    (c.in_err-sort_point.ensures.left was records (block ++ take c.loop-turn.turn (cut_all c.args.splitter.now.size c.args.group.now)) s here))

pub returns-then-not-branch-clause-sorts : goal.returns-then-not-branch-clause-sorts
returns-then-not-branch-clause-sorts g c was records block i at =
    let task = task_in c.args.splitter.now in
    let more : c.loop-turn.turn < length c.args.group.now / c.args.splitter.now.size = omega (arith, c.loop-turn-test.true) in
    let s = c.loop-turn.invariant.sorts was records block i at in
    let here = each_place c.args.splitter.now.size c.loop-turn.turn c.args.index c.args.group.now records block more at in
    let new = c.sort_point.new in
    let now = (g.F.Files.seen new.files).held in
    let before = block ++ take c.loop-turn.turn (cut_all c.args.splitter.now.size c.args.group.now) in
    let stops : c.in_ok-sort_point.field-0 ≡ false = c.if-not-branch.true in
    let e = subst (SortsPoint task was now new.parts.numbers new.parts.writers.items new.parts.gathered records before c.split_at.result.0.now) stops (c.in_ok-sort_point.ensures.sorts was records before s here) in
    each_less task was records block c.args.splitter.now.size c.loop-turn.turn c.args.group.now c.split_at.result.0.now c.loop-turn.rest.now more c.loop-turn.invariant.rest c.split_at.ensures.front now new.parts e

pub loop-turn-preserved : goal.loop-turn-preserved
loop-turn-preserved g c =
    let old = g.F.Files.seen c.args.files.now in
    let mid = g.F.Files.seen c.loop-turn.files in
    let new = g.F.Files.seen c.sort_point.new.files in
    record {
      rest = rest_next c.args.splitter.now.size c.loop-turn.turn c.args.group.now c.loop-turn.rest.now c.split_at.result.1.now c.loop-turn.invariant.rest c.split_at.ensures.back;
      sorts = λ was records block i at.
          let task = task_in c.args.splitter.now in
          let more : c.loop-turn.turn < length c.args.group.now / c.args.splitter.now.size = omega (arith, c.loop-turn-test.true) in
          let s = c.loop-turn.invariant.sorts was records block i at in
          let here = each_place c.args.splitter.now.size c.loop-turn.turn c.args.index c.args.group.now records block more at in
          let after = c.sort_point.new in
          let before = block ++ take c.loop-turn.turn (cut_all c.args.splitter.now.size c.args.group.now) in
          let goes : c.in_ok-sort_point.field-0 ≡ true = c.if-not-branch.false in
          let e = subst (SortsPoint task was new.held after.parts.numbers after.parts.writers.items after.parts.gathered records before c.split_at.result.0.now) goes (c.in_ok-sort_point.ensures.sorts was records before s here) in
          each_more task was records block c.args.splitter.now.size c.loop-turn.turn c.args.group.now c.split_at.result.0.now c.loop-turn.rest.now more c.loop-turn.invariant.rest c.split_at.ensures.front new.held after.parts e;
      calm = calm-trans _ _ _ c.loop-turn.invariant.calm c.in_ok-sort_point.ensures.calm;
      writes = only_writes-trans _ _ _ c.loop-turn.invariant.writes c.sort_point.ensures.writes;
    }

pub returns-clause-sorts : goal.returns-clause-sorts
returns-clause-sorts g c was records block i at =
    let task = task_in c.args.splitter.now in
    let now = (g.F.Files.seen c.loop-turn.files).held in
    let t = c.loop-turn.turn in
    let count = length c.args.group.now / c.args.splitter.now.size in
    let end : count ≤ t = omega (arith, c.loop-turn-test.false) in
    let within : t ≤ count = omega (arith, c.loop-turn.auto.turn-end) in
    let same : t ≡ count = omega (arith, end, within) in
    subst (SortsMore task was now c.loop-turn.parts records block (cut_all c.args.splitter.now.size c.args.group.now)) same
    (each_all task was now c.loop-turn.parts records block c.args.splitter.now.size t c.args.group.now end within (c.loop-turn.invariant.sorts was records block i at))

pub returns-in_err-sort_point-clause-some : goal.returns-in_err-sort_point-clause-some
returns-in_err-sort_point-clause-some g c =
    let size = c.args.splitter.now.size in
    let bytes = c.args.group.now in
    let there : 1 ≤ length (cut_all size bytes) = omega (arith, c.loop-turn-test.true, cut_length size (length bytes / size) bytes) in
    if_err (λ fault. fault ≡ Write → 1 ≤ length (cut_all size bytes)) c.from_residual.result _ c.from_residual.ensures.1 (λ is. there)

pub returns-in_err-sort_point-clause-sorts : goal.returns-in_err-sort_point-clause-sorts
returns-in_err-sort_point-clause-sorts g c was records block i at =
    IfOk-from_err c.from_residual.result _ c.from_residual.ensures.0

pub returns-in_err-sort_point-clause-cause : goal.returns-in_err-sort_point-clause-cause
returns-in_err-sort_point-clause-cause g c =
    if_err _ c.from_residual.result _ c.from_residual.ensures.1
    (cause_since (g.F.Files.seen c.args.files.now) (g.F.Files.seen c.loop-turn.files)
    (g.F.Files.seen c.sort_point.new.files) c.in_err-sort_point.field-0.0 c.loop-turn.invariant.calm.reads
    c.loop-turn.invariant.calm.writes c.in_err-sort_point.ensures.cause)

pub returns-in_err-sort_point-clause-calm : goal.returns-in_err-sort_point-clause-calm
returns-in_err-sort_point-clause-calm g c = IfOk-from_err c.from_residual.result _ c.from_residual.ensures.0

pub returns-in_err-sort_point-clause-writes : goal.returns-in_err-sort_point-clause-writes
returns-in_err-sort_point-clause-writes g c =
    only_writes-trans _ _ _ c.loop-turn.invariant.writes c.sort_point.ensures.writes

pub returns-then-not-branch-clause-calm : goal.returns-then-not-branch-clause-calm
returns-then-not-branch-clause-calm g c = calm-trans _ _ _ c.loop-turn.invariant.calm c.in_ok-sort_point.ensures.calm

pub returns-then-not-branch-clause-writes : goal.returns-then-not-branch-clause-writes
returns-then-not-branch-clause-writes g c =
    only_writes-trans _ _ _ c.loop-turn.invariant.writes c.sort_point.ensures.writes

pub returns-clause-calm : goal.returns-clause-calm
returns-clause-calm g c = c.loop-turn.invariant.calm

pub returns-clause-writes : goal.returns-clause-writes
returns-clause-writes g c = c.loop-turn.invariant.writes
