use Rattle.std.proofs.Common.{ℕ, ◌<◌, ◌≢◌, get_or}
use Rattle.las_outside.specs.MemFiles.{RoomFor}
use Rattle.las_outside.proofs.mem_files.place_of.Given as goal

abbrev pub invariant-loop-i : goal.invariant-loop-i
invariant-loop-i l = (k : ℕ) (r : RoomFor) → k < l.i → (get_or l.rooms k r).name ≢ l.name
