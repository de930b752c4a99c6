use Rattle.std.proofs.Common.{refl, ap, arith}
use Rattle.las_outside.specs.Calls.{Calls}
use Rattle.las_outside.specs.MemFiles.{Memory}
use Rattle.las_outside.proofs.mem_files.MemFilesFiles.read_at.Goals as goal

pub returns-then-next_read-clause-later : goal.returns-then-next_read-clause-later
returns-then-next_read-clause-later c =
    let asks = c.asks.ensures.counted in
    let next = c.next_read.ensures.counted in
    let failed = c.read_failed.ensures.counted in
    record {
      known = refl;
      reads =
          omega (
            arith,
            c.read_failed.ensures.later,
            ap (λ (calls : Calls). calls.read_faults) next,
            ap (λ (calls : Calls). calls.read_faults) asks,
            ap (λ (m : Memory). m.calls.read_faults) c.self.view_is,
          );
      writes =
          omega (
            arith,
            ap (λ (calls : Calls). calls.write_faults) failed,
            ap (λ (calls : Calls). calls.write_faults) next,
            ap (λ (calls : Calls). calls.write_faults) asks,
            ap (λ (m : Memory). m.calls.write_faults) c.self.view_is,
          );
      asked =
          omega (
            arith,
            c.asks.ensures.later,
            ap (λ (calls : Calls). calls.asked) failed,
            ap (λ (calls : Calls). calls.asked) next,
            ap (λ (m : Memory). m.calls.asked) c.self.view_is,
          );
    }

pub returns-clause-later : goal.returns-clause-later
returns-clause-later c =
    let asks = c.asks.ensures.counted in
    let next = c.next_read.ensures.counted in
    record {
      known = refl;
      reads =
          omega (
            arith,
            ap (λ (calls : Calls). calls.read_faults) next,
            ap (λ (calls : Calls). calls.read_faults) asks,
            ap (λ (m : Memory). m.calls.read_faults) c.self.view_is,
          );
      writes =
          omega (
            arith,
            ap (λ (calls : Calls). calls.write_faults) next,
            ap (λ (calls : Calls). calls.write_faults) asks,
            ap (λ (m : Memory). m.calls.write_faults) c.self.view_is,
          );
      asked =
          omega (
            arith,
            c.asks.ensures.later,
            ap (λ (calls : Calls). calls.asked) next,
            ap (λ (m : Memory). m.calls.asked) c.self.view_is,
          );
    }
