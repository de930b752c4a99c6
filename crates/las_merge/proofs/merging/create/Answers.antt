use Rattle.std.proofs.Common.{Err, ap}
use Rattle.las_merge.proofs.Begun.{fails_begin}
use Rattle.las_merge.specs.Copying.{output_with}
use Rattle.las_merge.proofs.merging.create.Goals as goal

pub returns-in-Err-clause-ends : goal.returns-in-Err-clause-ends
returns-in-Err-clause-ends g c =
    let old = g.F.Files.seen c.args.files.now in
    let new = g.F.Files.seen c.create.new.files in
    fails_begin old new (output_with c.args.output.now c.args.head.now.bytes c.args.chunk) c.in-Err.fault c.fault_of_output.result c.fault_of_output.ensures.memory c.fault_of_output.ensures.write c.in-Err.ensures.fault (λ e. c.in-Err.ensures.write (ap Err e)) c.in-Err.ensures.stopped
