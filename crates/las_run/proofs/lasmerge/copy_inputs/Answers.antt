use Rattle.std.proofs.Common.{true, Result, sym, subst}
use Rattle.las_words.specs.Asked.{Asked, LasmergeOptions, lasmerge}
use Rattle.las_words.specs.Texts.{texts}
use Rattle.las_run.specs.declared.stop.Stop.{Stop}
use Rattle.las_run.specs.Ends.{Ends, cause_of, quiet}
use Rattle.las_run.specs.Runs.{task_with}
use Rattle.las_run.proofs.Copying.{ends_copying}
use Rattle.las_run.proofs.lasmerge.copy_inputs.Goals as goal

pub returns-clause-ends : goal.returns-clause-ends
returns-clause-ends g c =
    let packing = c.args.packing in
    let inputs = texts c.args.inputs.now in
    let output = c.args.output.now in
    let old = g.F.Files.seen c.args.files.now in
    let new = g.F.Files.seen c.merge_copied.new.files in
    let options : LasmergeOptions = record { inputs = inputs; output = output; packed = packing.packed; chunk = packing.chunk; copy = true } in
    let asked : Asked = record { work = lasmerge options; workers = c.args.workers } in
    λ taps out. subst (λ (o : Result (Unit {0}) Stop). Ends (task_with taps asked) (quiet old new out) (cause_of inputs o)) (sym c.stopped_merge.ensures)
    (ends_copying taps options c.args.workers old new out c.merge_copied.result c.merge_copied.ensures.says)

pub returns-clause-asks : goal.returns-clause-asks
returns-clause-asks g c = c.merge_copied.ensures.asked_always
