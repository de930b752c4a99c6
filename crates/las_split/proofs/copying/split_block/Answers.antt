use Rattle.laz_file.proofs.Public.{cause_since}
use Rattle.std.proofs.lemmas.Result.{IfOk-from_err}
use Rattle.std.proofs.Common.{◌≡◌, ◌+◌, ◌≤◌, ℕ, List, Option, length, take, arith}
use Rattle.las_outside.specs.Files.{FileMap}
use Rattle.laz_forms.specs.declared.fault.Fault.TheVariants.{Write}
use Rattle.laz_forms.proofs.Public.{if_err}
use Rattle.las_split.specs.Sorting.{FitAfter, SortsBlock, SplitTask, task_in}
use Rattle.las_split.specs.Steps.{AreIn}
use Rattle.las_split.proofs.Blocks.{fit_here, left_first, takes_all, takes_some}
use Rattle.las_split.proofs.SomeRecords.{some_pushed}
use Rattle.las_split.proofs.copying.split_block.Given.{Over}
use Rattle.las_split.proofs.copying.split_block.Goals.{In_ok-taken}
use Rattle.las_split.proofs.copying.split_block.Goals as goal
use Rattle.las_outside.proofs.Public.{on_err, only_writes-trans, calm-trans}
use Rattle.las_header.specs.Plain.{cut_all}

-- what stands when the block was sorted
module _ (g : Over) (c : In_ok-taken g) (was : Option FileMap) (records : List (List ℕ))
    (i : AreIn (task_in c.args.splitter.now) was (g.F.Files.seen c.args.files.now).held c.args.parts.now
    records records)
    (at : c.args.index ≡ length records) where
  abbrev task : SplitTask
  task = task_in c.args.splitter.now

  abbrev now : Option FileMap
  now = (g.F.Files.seen c.sort_block.new.files).held

  abbrev cut : List (List ℕ)
  cut = cut_all c.args.splitter.now.size c.args.block.now

  sorts : SortsBlock task was now c.sort_block.new.parts.numbers c.sort_block.new.parts.writers.items
      c.sort_block.new.parts.gathered records cut c.in_ok-taken.taken
  sorts = c.in_ok-taken.ensures.sorts was records i at

  fit : FitAfter task records (take c.in_ok-taken.taken cut)
  fit = fit_here _ _ _ _ _ _ records c.args.splitter.now.size _ c.args.block.now sorts c.args.index at c.requires.room

pub push_parts-requires-clause-parts : goal.push_parts-requires-clause-parts
push_parts-requires-clause-parts g c κs lives =
    let k = (goal.at.push_parts-requires-clause-parts g c).In_ok-taken in
    let q = c.requires.parts in
    let s = sorts g k q.0 q.1 q.2 q.3 in
    (task_in c.args.splitter.now, q.0, q.1, _, (s.parts, s.gathered), fit g k q.0 q.1 q.2 q.3)

pub returns-in_err-push_parts-clause-left : goal.returns-in_err-push_parts-clause-left
returns-in_err-push_parts-clause-left g c was records i at =
    let k = (goal.at.returns-in_err-push_parts-clause-left g c).In_ok-taken in
    let s = sorts g k was records i at in
    on_err c.from_residual-in_err-push_parts.result
    (left_first _ _ _ _ _ _ records c.args.splitter.now.size _ c.args.block.now s _
    (c.in_err-push_parts.ensures.left _ was records _ (s.parts, s.gathered) (fit g k was records i at)))

pub returns-then-taken-block-clause-takes : goal.returns-then-taken-block-clause-takes
returns-then-taken-block-clause-takes g c was records i at =
    let k = (goal.at.returns-then-taken-block-clause-takes g c).In_ok-taken in
    let s = sorts g k was records i at in
    takes_some _ _ _ _ _ _ records c.args.splitter.now.size _ c.args.block.now s _ _ _
    (c.in_ok-push_parts.ensures.pushed _ was records _ (s.parts, s.gathered) (fit g k was records i at))
    (omega (arith, c.if-taken-block.true))

pub returns-clause-takes : goal.returns-clause-takes
returns-clause-takes g c was records i at =
    let k = (goal.at.returns-clause-takes g c).In_ok-taken in
    let s = sorts g k was records i at in
    takes_all _ _ _ _ _ _ records c.args.splitter.now.size _ c.args.block.now s _ _ _
    (c.in_ok-push_parts.ensures.pushed _ was records _ (s.parts, s.gathered) (fit g k was records i at))
    (omega (arith, c.if-taken-block.false))

pub returns-in_err-taken-clause-some : goal.returns-in_err-taken-clause-some
returns-in_err-taken-clause-some g c was records i at =
    let block = cut_all c.args.splitter.now.size c.args.block.now in
    if_err (λ fault. fault ≡ Write → 1 ≤ length records + length block) c.from_residual.result _ c.from_residual.ensures.1
    (λ is. let there : 1 ≤ length block = c.in_err-taken.ensures.some is in omega (arith, there))

pub returns-in_err-push_parts-clause-some : goal.returns-in_err-push_parts-clause-some
returns-in_err-push_parts-clause-some g c was records i at =
    let task = task_in c.args.splitter.now in
    let n = c.sort_block.new in
    let block = cut_all c.args.splitter.now.size c.args.block.now in
    let s = c.in_ok-taken.ensures.sorts was records i at in
    if_err (λ fault. fault ≡ Write → 1 ≤ length records + length block) c.from_residual-in_err-push_parts.result _ c.from_residual-in_err-push_parts.ensures.1
    (λ is. some_pushed task was (g.F.Files.seen n.files).held n.parts.numbers n.parts.writers.items n.parts.gathered records block c.in_ok-taken.taken s (c.in_err-push_parts.ensures.some is))

pub returns-in_err-taken-clause-takes : goal.returns-in_err-taken-clause-takes
returns-in_err-taken-clause-takes g c was records i at =
    IfOk-from_err c.from_residual.result _ c.from_residual.ensures.0

pub returns-in_err-taken-clause-left : goal.returns-in_err-taken-clause-left
returns-in_err-taken-clause-left g c was records i at =
    on_err c.from_residual.result (c.in_err-taken.ensures.left was records i at)

pub returns-in_err-taken-clause-cause : goal.returns-in_err-taken-clause-cause
returns-in_err-taken-clause-cause g c =
    if_err _ c.from_residual.result _ c.from_residual.ensures.1 c.in_err-taken.ensures.cause

pub returns-in_err-taken-clause-calm : goal.returns-in_err-taken-clause-calm
returns-in_err-taken-clause-calm g c = IfOk-from_err c.from_residual.result _ c.from_residual.ensures.0

pub returns-in_err-taken-clause-writes : goal.returns-in_err-taken-clause-writes
returns-in_err-taken-clause-writes g c = c.sort_block.ensures.writes

pub returns-in_err-push_parts-clause-takes : goal.returns-in_err-push_parts-clause-takes
returns-in_err-push_parts-clause-takes g c was records i at =
    IfOk-from_err c.from_residual-in_err-push_parts.result _ c.from_residual-in_err-push_parts.ensures.0

pub returns-in_err-push_parts-clause-cause : goal.returns-in_err-push_parts-clause-cause
returns-in_err-push_parts-clause-cause g c =
    if_err _ c.from_residual-in_err-push_parts.result _ c.from_residual-in_err-push_parts.ensures.1
    (cause_since (g.F.Files.seen c.args.files.now) (g.F.Files.seen c.sort_block.new.files)
    (g.F.Files.seen c.push_parts.new.files) c.in_err-push_parts.field-0.0 c.in_ok-taken.ensures.calm.reads
    c.in_ok-taken.ensures.calm.writes c.in_err-push_parts.ensures.cause)

pub returns-in_err-push_parts-clause-calm : goal.returns-in_err-push_parts-clause-calm
returns-in_err-push_parts-clause-calm g c =
    IfOk-from_err c.from_residual-in_err-push_parts.result _ c.from_residual-in_err-push_parts.ensures.0

pub returns-in_err-push_parts-clause-writes : goal.returns-in_err-push_parts-clause-writes
returns-in_err-push_parts-clause-writes g c =
    only_writes-trans _ _ _ c.sort_block.ensures.writes c.push_parts.ensures.writes

pub returns-then-taken-block-clause-calm : goal.returns-then-taken-block-clause-calm
returns-then-taken-block-clause-calm g c = calm-trans _ _ _ c.in_ok-taken.ensures.calm c.in_ok-push_parts.ensures.calm

pub returns-then-taken-block-clause-writes : goal.returns-then-taken-block-clause-writes
returns-then-taken-block-clause-writes g c =
    only_writes-trans _ _ _ c.sort_block.ensures.writes c.push_parts.ensures.writes

pub returns-clause-calm : goal.returns-clause-calm
returns-clause-calm g c = calm-trans _ _ _ c.in_ok-taken.ensures.calm c.in_ok-push_parts.ensures.calm

pub returns-clause-writes : goal.returns-clause-writes
returns-clause-writes g c = only_writes-trans _ _ _ c.sort_block.ensures.writes c.push_parts.ensures.writes
