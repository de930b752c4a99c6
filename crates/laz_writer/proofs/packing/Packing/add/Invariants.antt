use Rattle.std.proofs.Common.{◌≡◌, ◌≤◌, ◌<◌, ◌-◌, ◌+◌, ◌*◌, ℕ, List, ◌++◌, take, length}
use Rattle.las_outside.specs.Frames.{OnlyWrites}
use Rattle.las_outside.specs.Outside.{Outside}
use Rattle.laz_writer.specs.Writing.{PackedStands, record_size}
use Rattle.laz_writer.proofs.packing.Packing.add.Given as goal

abbrev pub invariant-loop-at : goal.invariant-loop-at
invariant-loop-at g l = record {
  within : l.at ≤ length l.records;
  few : length l.self.kept < 2 * l.self.plan.workers;
  plan : l.self.plan ≡ l.fn.self.plan;
  writes : OnlyWrites (g.F.Files.seen l.fn.files) (g.F.Files.seen l.files);
  stands : (before : Outside) (front bytes : List ℕ) → PackedStands before (g.F.Files.seen l.fn.files) l.name front l.fn.self bytes
      → length bytes + length l.records ≤ record_size l.fn.self.plan * l.fn.self.plan.most
      → PackedStands before (g.F.Files.seen l.files) l.name front l.self (bytes ++ take l.at l.records);
}

abbrev pub decreases-loop-at : goal.decreases-loop-at
decreases-loop-at g l = length l.records - l.at
