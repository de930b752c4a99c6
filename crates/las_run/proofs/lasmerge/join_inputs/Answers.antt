use Rattle.std.proofs.Common.{◌≡◌, Bool, false, Result, sym, ◌∙◌, ap, subst}
use Rattle.las_words.specs.Asked.{Asked, LasmergeOptions, lasmerge}
use Rattle.las_words.specs.Texts.{texts}
use Rattle.las_run.specs.declared.stop.Stop.{Stop}
use Rattle.las_run.specs.Ends.{Ends, cause_of, quiet}
use Rattle.las_run.specs.Runs.{task_with}
use Rattle.las_run.specs.Tools.{chunk_if}
use Rattle.las_run.proofs.Merging.{ends_merging}
use Rattle.las_run.proofs.lasmerge.join_inputs.Goals as goal
use Rattle.las_run.proofs.lasmerge.join_inputs.Goals.{then-packing, else-packing}

pub returns-clause-ends : goal.returns-clause-ends
returns-clause-ends g c =
    let packing = c.args.packing in
    let inputs = texts c.args.inputs.now in
    let output = c.args.output.now in
    let old = g.F.Files.seen c.args.files.now in
    let new = g.F.Files.seen c.merge.new.files in
    let options : LasmergeOptions = record {
      inputs = inputs;
      output = output;
      packed = packing.packed;
      chunk = packing.chunk;
      copy = false;
    } in
    let asked : Asked = record { work = lasmerge options; workers = c.args.machine.workers } in
    let size_is : c.if-packing.chunk ≡ chunk_if packing.packed packing.chunk = elim c.if-packing.branch [
      | then-packing w ↦ w.chunk-is ∙ ap (λ (b : Bool). chunk_if b packing.chunk) (sym w.if-packing.true)
      | else-packing w ↦ w.chunk-is ∙ ap (λ (b : Bool). chunk_if b packing.chunk) (sym w.if-packing.false)
    ] in
    λ taps out. subst (λ (o : Result (Unit {0}) Stop). Ends (task_with taps asked) (quiet old new out)
    (cause_of inputs o)) (sym c.stopped_merge.ensures)
    (ends_merging taps options c.args.machine.workers old new out c.if-packing.chunk c.merge.result size_is
    c.merge.ensures.says)

pub returns-clause-asks : goal.returns-clause-asks
returns-clause-asks g c known is asked bound = c.merge.ensures.asked asked bound known is
