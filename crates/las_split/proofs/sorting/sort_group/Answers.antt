use Rattle.laz_forms.specs.declared.fault.Fault.TheVariants.{Memory}
use Rattle.laz_forms.proofs.Public.{if_err}
use Rattle.std.proofs.lemmas.Result.{IfOk-from_err}
use Rattle.las_split.specs.Sorting.{task_in, part_bytes_of}
use Rattle.las_split.proofs.Blocks.{next_fits}
use Rattle.las_split.proofs.Runs.{group_unsorted, run_taken}
use Rattle.las_split.proofs.SortingPoints.{place_within}
use Rattle.las_split.proofs.sorting.sort_group.Goals as goal
use Rattle.las_outside.proofs.Public.{on_err, only_writes-refl, calm-refl}
use Rattle.las_header.specs.Plain.{cut_all}

pub all_have-requires-clause-index : goal.all_have-requires-clause-index
all_have-requires-clause-index g c = next_fits (task_in c.args.splitter.now) c.args.splitter.now.size c.args.index c.args.group.now c.requires.room

pub add-requires : goal.add-requires
add-requires g c =
    let q = c.requires.parts in
    place_within c.args.parts.now.gathered (part_bytes_of (task_in c.args.splitter.now) q.1 q.2) c.args.parts.now.numbers c.in-Some.place c.part_of-number.result q.3.1 c.in-Some.ensures.some

pub returns-in_err-add-clause-left : goal.returns-in_err-add-clause-left
returns-in_err-add-clause-left g c was records block s at =
    on_err c.from_residual.result (group_unsorted (task_in c.args.splitter.now) was (g.F.Files.seen c.args.files.now).held c.args.parts.now records block (cut_all c.args.splitter.now.size c.args.group.now) s)

pub returns-in-Some-clause-sorts : goal.returns-in-Some-clause-sorts
returns-in-Some-clause-sorts g c was records block s at =
    run_taken (task_in c.args.splitter.now) was (g.F.Files.seen c.args.files.now).held c.args.parts.now c.add.new.self records block c.args.splitter.now.size c.part_of-number.result c.in-Some.place c.args.index c.args.group.now
    c.requires.whole c.in-Some.ensures.some at (c.all_have.ensures c.if-all_have.true) s c.in_ok-add.ensures

pub returns-in_err-add-clause-sorts : goal.returns-in_err-add-clause-sorts
returns-in_err-add-clause-sorts g c was records block s at =
    IfOk-from_err c.from_residual.result _ c.from_residual.ensures.0

pub returns-in_err-add-clause-some : goal.returns-in_err-add-clause-some
returns-in_err-add-clause-some g c = if_err _ c.from_residual.result Memory c.from_residual.ensures.1 (λ is. cc)

pub returns-in_err-add-clause-cause : goal.returns-in_err-add-clause-cause
returns-in_err-add-clause-cause g c = if_err _ c.from_residual.result Memory c.from_residual.ensures.1 tt

pub returns-in_err-add-clause-calm : goal.returns-in_err-add-clause-calm
returns-in_err-add-clause-calm g c = IfOk-from_err c.from_residual.result _ c.from_residual.ensures.0

pub returns-in_err-add-clause-writes : goal.returns-in_err-add-clause-writes
returns-in_err-add-clause-writes g c = only_writes-refl _

pub returns-in-Some-clause-calm : goal.returns-in-Some-clause-calm
returns-in-Some-clause-calm g c = calm-refl _

pub returns-in-Some-clause-writes : goal.returns-in-Some-clause-writes
returns-in-Some-clause-writes g c = only_writes-refl _
