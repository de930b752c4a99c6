use Rattle.std.proofs.Common.{refl, ◌∙◌, ap, arith}
use Rattle.las_outside.specs.Calls.{Calls, next_call}
use Rattle.las_outside.specs.MemFiles.{Memory}
use Rattle.las_outside.proofs.mem_files.MemFilesFiles.size.Goals as goal

pub returns-clause-later : goal.returns-clause-later
returns-clause-later c =
    let is =
    c.next_read-listed.ensures.counted ∙ ap
    (λ (m : Memory). let next : Calls = record m.calls { reads = next_call m.calls.reads } in next)
    c.self.view_is in
    record {
      known = refl;
      reads = omega (arith, ap (λ (calls : Calls). calls.read_faults) is);
      writes = omega (arith, ap (λ (calls : Calls). calls.write_faults) is);
      asked = omega (arith, ap (λ (calls : Calls). calls.asked) is);
    }
