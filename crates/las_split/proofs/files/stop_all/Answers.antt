use Rattle.std.proofs.Common.{◌≡◌, ℕ, List, Option, get_or, length, ◌≤◌, take, sym, ◌∙◌, ap, arith}
use Rattle.las_outside.specs.Files.{FileMap}
use Rattle.las_outside.specs.Outside.{Outside, with_bytes}
use Rattle.laz_forms.specs.Outputs.{stopped}
use Rattle.laz_forms.specs.declared.fault.Fault.TheVariants.{Write}
use Rattle.las_outside.proofs.Public.{calm-refl, calm-trans, only_writes-refl, only_writes-trans, on_err}
use Rattle.laz_forms.proofs.Public.{if_err}
use Rattle.laz_file.proofs.Public.{held_after}
use Rattle.las_split.specs.Files.{with_files}
use Rattle.las_split.specs.Parts.{numbers_of_parts}
use Rattle.las_split.specs.Sorting.{SplitTask, bytes_at, output_at}
use Rattle.las_split.specs.Steps.{AreIn}
use Rattle.las_split.proofs.EndingEach.{IsNext, all_ended, next_part, none_ended}
use Rattle.las_split.proofs.EndingParts.{EndedSo, ended_prefixes, ended_more}
use Rattle.las_split.proofs.Leaving.{stopped_texts}
use Rattle.las_split.proofs.files.stop_all.Given.{Over}
use Rattle.las_split.proofs.files.stop_all.Goals.{In-Some}
use Rattle.las_split.proofs.files.stop_all.Goals as goal

-- what a part holds then
abbrev done : SplitTask → List (List ℕ) → ℕ → List ℕ
done task records n = stopped (output_at task n) (bytes_at task records n)

pub loop-writer-init : goal.loop-writer-init
loop-writer-init g c = record {
  ended = λ task was records i.
      none_ended task (done task records) was c.args.parts.numbers c.args.parts.writers.items records
      (g.F.Files.seen c.args.files.now).held _ c.reverse.new.self c.args.parts.writers.len i (omega arith)
      c.as_mut_slice.ensures.value c.reverse.ensures.len c.reverse.ensures.after;
  calm = calm-refl _;
  writes = only_writes-refl _;
}

-- the next part
module _ (g : Over) (c : In-Some g) (task : SplitTask) (was : Option FileMap) (records : List (List ℕ))
    (i : AreIn task was (g.F.Files.seen c.args.files.now).held c.args.parts records records) where
  abbrev now : Outside
  now = g.F.Files.seen c.loop-writer.files

  ended : EndedSo task (done task records) was now.held c.args.parts.numbers c.args.parts.writers.items
      c.loop-writer.rest.items records
  ended = c.loop-writer.invariant.ended task was records i

  abbrev number : ℕ
  number = get_or c.args.parts.numbers ended.place 0

  next : IsNext task records number now c.in-Some.writer
  next =
      next_part _ (done task records) _ _ _ _ now _ c.pop.new.self.items c.in-Some.writer ended c.in-Some.ensures.items

pub stop-requires-clause-open : goal.stop-requires-clause-open
stop-requires-clause-open g c κs lives =
    let q = c.requires.parts in
    (next g (goal.at.stop-requires-clause-open g c).In-Some q.0 q.1 q.2 q.3).sound

pub stop-requires-clause-stands : goal.stop-requires-clause-stands
stop-requires-clause-stands g c κs lives =
    let q = c.requires.parts in
    let k = (goal.at.stop-requires-clause-stands g c).In-Some in
    let n = number g k q.0 q.1 q.2 q.3 in
    (now g k q.0 q.1 q.2 q.3, output_at q.0 n, bytes_at q.0 q.2 n, (next g k q.0 q.1 q.2 q.3).stands)

pub loop-writer-preserved : goal.loop-writer-preserved
loop-writer-preserved g c = record {
  ended = λ task was records i.
      let k = (goal.at.loop-writer-preserved g c).In-Some in
      let now = g.F.Files.seen c.loop-writer.files in
      let n = number g k task was records i in
      let to = ap (λ (o : Outside). o.held)
      (c.in_ok-stop.ensures.stopped now (output_at task n) (bytes_at task records n)
      (next g k task was records i).stands) in
      ended_more _ (done task records) _ _ _ _ _ _ c.pop.new.self.items c.in-Some.writer (ended g k task was records i)
      c.in-Some.ensures.items (g.F.Files.seen c.stop.new.files).held to;
  calm = calm-trans _ _ _ c.loop-writer.invariant.calm c.in_ok-stop.ensures.calm;
  writes = only_writes-trans _ _ _ c.loop-writer.invariant.writes c.stop.ensures.writes;
}

pub returns-in_err-stop-clause-left : goal.returns-in_err-stop-clause-left
returns-in_err-stop-clause-left g c task was records i =
    let k = (goal.at.returns-in_err-stop-clause-left g c).In-Some in
    let now = g.F.Files.seen c.loop-writer.files in
    let new = g.F.Files.seen c.stop.new.files in
    let n = number g k task was records i in
    let p = c.in_err-stop.ensures.broken now (output_at task n) (bytes_at task records n)
    (next g k task was records i).stands in
    let text = take p.0 (done task records n) in
    let to = held_after c.in_err-stop.field-0.0 (with_bytes now (output_at task n).name text) new p.1 in
    on_err c.from_residual.result
    (ended_prefixes task was _ _ _ records _ c.pop.new.self.items c.in-Some.writer (ended g k task was records i)
    c.in-Some.ensures.items new.held p.0 to)

pub returns-clause-stopped : goal.returns-clause-stopped
returns-clause-stopped g c task was records i =
    all_ended task (done task records) was _ _ records _ _ c.pop.new.self.items
    (c.loop-writer.invariant.ended task was records i) c.in_default.ensures.items
    (omega (arith, c.in_default.ensures.cases))
    ∙ ap (with_files was) (sym (stopped_texts task records (numbers_of_parts task.rule records)))

pub returns-in_err-stop-clause-some : goal.returns-in_err-stop-clause-some
returns-in_err-stop-clause-some g c task was records i =
    if_err (λ fault. fault ≡ Write → 1 ≤ length records) c.from_residual.result _ c.from_residual.ensures.1
    (λ is. (next g (goal.at.returns-in_err-stop-clause-some g c).In-Some task was records i).some)
