use Rattle.laz_file.proofs.Public.{cause_since}
use Rattle.laz_forms.proofs.Public.{if_err}
use Rattle.std.proofs.lemmas.Result.{IfOk-from_err}
use Rattle.std.proofs.Common.{◌≤◌, ℕ, List, length, refl, sym, ◌∙◌, ap, subst, arith}
use Rattle.las_outside.proofs.Public.{calm-refl, calm-trans, only_writes-refl, only_writes-trans, on_err}
use Rattle.las_split.specs.Sorting.{AreGathered}
use Rattle.las_header.specs.Fields.{record_length_of}
use Rattle.las_header.proofs.Public.{length_whole}
use Rattle.las_split.proofs.PushedParts.{pushed_first, pushed_last}
use Rattle.las_split.proofs.pushing.push_parts.Goals as goal

pub loop-place-init : goal.loop-place-init
loop-place-init g c = record {
  numbers = refl;
  gathered = refl;
  pushed = λ task was records block i s. pushed_first task was (g.F.Files.seen c.args.files.now).held c.args.parts.now.numbers c.args.parts.now.writers.items records block i;
  calm = calm-refl _;
  writes = only_writes-refl _;
}

pub push_place-requires-clause-place : goal.push_place-requires-clause-place
push_place-requires-clause-place g c κs lives =
    let q = c.requires.parts in
    let first = pushed_first q.0 q.1 (g.F.Files.seen c.args.files.now).held c.args.parts.now.numbers c.args.parts.now.writers.items q.2 q.3 q.4.0 in
    omega (arith, c.loop-place-test.true, c.len-place-end.ensures, first.same, ap (λ (t : List ℕ). length t) c.loop-place.invariant.numbers)

pub push_place-requires-clause-parts : goal.push_place-requires-clause-parts
push_place-requires-clause-parts g c κs lives =
    let q = c.requires.parts in
    let p = c.loop-place.invariant.pushed q.0 q.1 q.2 q.3 q.4.0 q.4.1 in
    let s = subst (λ (ns : List ℕ). AreGathered q.0 ns c.args.parts.now.gathered q.2 q.3) (sym c.loop-place.invariant.numbers) q.4.1 in
    (q.0, q.1, q.2, q.3, p, subst (λ (ts : List (List ℕ)). AreGathered q.0 c.loop-place.parts.numbers ts q.2 q.3) (sym c.loop-place.invariant.gathered) s, q.5)

pub loop-place-preserved : goal.loop-place-preserved
loop-place-preserved g c = record {
  numbers = c.push_place.ensures.numbers ∙ c.loop-place.invariant.numbers;
  gathered = c.push_place.ensures.gathered ∙ c.loop-place.invariant.gathered;
  pushed = λ task was records block i s.
      let gathered = subst (λ (ns : List ℕ). AreGathered task ns c.args.parts.now.gathered records block) (sym c.loop-place.invariant.numbers) s in
      c.in_ok-push_place.ensures.pushed task was records block (c.loop-place.invariant.pushed task was records block i s) (subst (λ (ts : List (List ℕ)). AreGathered task c.loop-place.parts.numbers ts records block) (sym c.loop-place.invariant.gathered) gathered);
  calm = calm-trans _ _ _ c.loop-place.invariant.calm c.in_ok-push_place.ensures.calm;
  writes = only_writes-trans _ _ _ c.loop-place.invariant.writes c.push_place.ensures.writes;
}

pub returns-in_err-push_place-clause-left : goal.returns-in_err-push_place-clause-left
returns-in_err-push_place-clause-left g c task was records block both fit =
    let i = both.0 in
    let s = both.1 in
    let gathered = subst (λ (ns : List ℕ). AreGathered task ns c.args.parts.now.gathered records block) (sym c.loop-place.invariant.numbers) s in
    on_err c.from_residual.result (c.in_err-push_place.ensures.left task was records block (c.loop-place.invariant.pushed task was records block i s) (subst (λ (ts : List (List ℕ)). AreGathered task c.loop-place.parts.numbers ts records block) (sym c.loop-place.invariant.gathered) gathered))

pub returns-clause-pushed : goal.returns-clause-pushed
returns-clause-pushed g c task was records block both fit =
    let i = both.0 in
    let s = both.1 in
    let p = c.loop-place.invariant.pushed task was records block i s in
    let first = pushed_first task was (g.F.Files.seen c.args.files.now).held c.args.parts.now.numbers c.args.parts.now.writers.items records block i in
    let end : length c.loop-place.parts.numbers ≤ c.loop-place.place = omega (arith, c.loop-place-test.false, c.len-place-end.ensures, first.same, ap (λ (t : List ℕ). length t) c.loop-place.invariant.numbers) in
    pushed_last task was (g.F.Files.seen c.loop-place.files).held c.loop-place.parts.numbers c.loop-place.parts.writers.items records block c.loop-place.place end (length_whole (record_length_of task.head) block fit.whole) p

pub returns-in_err-push_place-clause-pushed : goal.returns-in_err-push_place-clause-pushed
returns-in_err-push_place-clause-pushed g c task was records block both fit =
    IfOk-from_err c.from_residual.result _ c.from_residual.ensures.0

pub returns-in_err-push_place-clause-cause : goal.returns-in_err-push_place-clause-cause
returns-in_err-push_place-clause-cause g c =
    if_err _ c.from_residual.result _ c.from_residual.ensures.1
    (cause_since (g.F.Files.seen c.args.files.now) (g.F.Files.seen c.loop-place.files)
    (g.F.Files.seen c.push_place.new.files) c.in_err-push_place.field-0.0 c.loop-place.invariant.calm.reads
    c.loop-place.invariant.calm.writes c.in_err-push_place.ensures.cause)

pub returns-in_err-push_place-clause-calm : goal.returns-in_err-push_place-clause-calm
returns-in_err-push_place-clause-calm g c = IfOk-from_err c.from_residual.result _ c.from_residual.ensures.0

pub returns-in_err-push_place-clause-writes : goal.returns-in_err-push_place-clause-writes
returns-in_err-push_place-clause-writes g c =
    only_writes-trans _ _ _ c.loop-place.invariant.writes c.push_place.ensures.writes

pub returns-in_err-push_place-clause-some : goal.returns-in_err-push_place-clause-some
returns-in_err-push_place-clause-some g c =
    let some : 1 ≤ length c.args.parts.now.writers.items =
    omega (arith, c.loop-place-test.true, c.len-place-end.ensures) in
    if_err _ c.from_residual.result _ c.from_residual.ensures.1 (λ is. some)

pub returns-clause-calm : goal.returns-clause-calm
returns-clause-calm g c = c.loop-place.invariant.calm

pub returns-clause-writes : goal.returns-clause-writes
returns-clause-writes g c = c.loop-place.invariant.writes
