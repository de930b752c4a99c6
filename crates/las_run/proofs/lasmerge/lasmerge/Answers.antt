use Rattle.std.proofs.Common.{Bool, sym, subst}
use Rattle.las_words.specs.Asked.{Asked, LasmergeOptions, lasmerge}
use Rattle.las_words.specs.Texts.{texts}
use Rattle.las_run.specs.Asking.{AsksToMerge}
use Rattle.las_run.specs.Ends.{Ends, cause_of, quiet}
use Rattle.las_run.specs.Runs.{task_with}
use Rattle.las_run.proofs.lasmerge.lasmerge.Goals as goal

pub returns-then-copy-clause-ends : goal.returns-then-copy-clause-ends
returns-then-copy-clause-ends g c =
    let inputs = texts c.args.inputs.now in
    let packing = c.args.packing in
    let asks_for : Bool → Asked = λ copy. record {
      work = lasmerge
          (record {
            inputs = inputs;
            output = c.args.output.now;
            packed = packing.packed;
            chunk = packing.chunk;
            copy = copy;
          });
      workers = c.args.machine.workers;
    } in
    λ taps out. subst (λ (copy : Bool). Ends (task_with taps (asks_for copy))
    (quiet (g.F.Files.seen c.args.files.now) (g.F.Files.seen c.copy_inputs.new.files) out)
    (cause_of inputs c.copy_inputs.result)) (sym c.if-copy.true) (c.copy_inputs.ensures.ends taps out)

pub returns-else-copy-clause-ends : goal.returns-else-copy-clause-ends
returns-else-copy-clause-ends g c =
    let inputs = texts c.args.inputs.now in
    let packing = c.args.packing in
    let asks_for : Bool → Asked = λ copy. record {
      work = lasmerge
          (record {
            inputs = inputs;
            output = c.args.output.now;
            packed = packing.packed;
            chunk = packing.chunk;
            copy = copy;
          });
      workers = c.args.machine.workers;
    } in
    λ taps out. subst (λ (copy : Bool). Ends (task_with taps (asks_for copy))
    (quiet (g.F.Files.seen c.args.files.now) (g.F.Files.seen c.join_inputs.new.files) out)
    (cause_of inputs c.join_inputs.result)) (sym c.if-copy.false) (c.join_inputs.ensures.ends taps out)

pub returns-then-copy-clause-asks : goal.returns-then-copy-clause-asks
returns-then-copy-clause-asks g c =
    let packing = c.args.packing in
    let options : Bool → LasmergeOptions = λ copy. record {
      inputs = texts c.args.inputs.now;
      output = c.args.output.now;
      packed = packing.packed;
      chunk = packing.chunk;
      copy = copy;
    } in
    subst (λ (copy : Bool). AsksToMerge (options copy) (g.F.Files.seen c.args.files.now)
    (g.F.Files.seen c.copy_inputs.new.files)) (sym c.if-copy.true) c.copy_inputs.ensures.asks

pub returns-else-copy-clause-asks : goal.returns-else-copy-clause-asks
returns-else-copy-clause-asks g c =
    let packing = c.args.packing in
    let options : Bool → LasmergeOptions = λ copy. record {
      inputs = texts c.args.inputs.now;
      output = c.args.output.now;
      packed = packing.packed;
      chunk = packing.chunk;
      copy = copy;
    } in
    subst (λ (copy : Bool). AsksToMerge (options copy) (g.F.Files.seen c.args.files.now)
    (g.F.Files.seen c.join_inputs.new.files)) (sym c.if-copy.false) c.join_inputs.ensures.asks
