use Rattle.std.proofs.Common.{◌≡◌, ◌-◌, ◌≤◌, ◌++◌, List, ℕ, length, take}
use Rattle.las_outside.specs.Frames.{OnlyWrites}
use Rattle.las_outside.specs.Outside.{Outside, with_bytes}
use Rattle.las_merge.proofs.appending.append_all.Given as goal

abbrev pub invariant-pieces : goal.invariant-pieces
invariant-pieces g l = record {
  within : l.done ≤ length l.bytes;
  added : (before : Outside) (text : List ℕ) → g.F.Files.seen l.fn.files ≡ with_bytes before l.name text → g.F.Files.seen l.files ≡ with_bytes before l.name (text ++ take l.done l.bytes);
  writes : OnlyWrites (g.F.Files.seen l.fn.files) (g.F.Files.seen l.files);
}

abbrev pub decreases-pieces : goal.decreases-pieces
decreases-pieces g l = length l.bytes - l.done
