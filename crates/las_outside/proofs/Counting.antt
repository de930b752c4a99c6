-- Calls of files in memory are counted, and what is seen of the files is later then.
use Rattle.std.proofs.Common.{◌≡◌, ◌≤◌, Bool, refl, ap, arith}
use Rattle.las_outside.specs.Calls.{Calls, after_write}
use Rattle.las_outside.specs.MemFiles.{Memory, outside_of}
use Rattle.las_outside.specs.Outside.{Later}

pub later_write :
    (old new : Memory) (failed : Bool) → new.calls ≡ after_write old.calls failed →
    old.calls.write_faults ≤ new.calls.write_faults → Later (outside_of old) (outside_of new)
later_write old new failed is more = record {
  known = refl;
  reads = omega (arith, ap (λ (calls : Calls). calls.read_faults) is);
  writes = more;
  asked = omega (arith, ap (λ (calls : Calls). calls.asked) is);
}
