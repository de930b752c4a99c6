use Rattle.std.proofs.Common.{◌≡◌, ◌++◌, List, ℕ, Option}
use Rattle.las_outside.specs.Files.{FileMap}
use Rattle.las_outside.specs.Frames.{IsCalm, OnlyWrites}
use Rattle.las_split.specs.Sorting.{AreGathered, InParts, PushedSo, SplitTask}
use Rattle.las_split.proofs.pushing.push_parts.Given as goal

abbrev pub invariant-loop-place : goal.invariant-loop-place
invariant-loop-place g l = record {
  numbers : l.parts.numbers ≡ l.fn.parts.numbers;
  gathered : l.parts.gathered ≡ l.fn.parts.gathered;
  pushed : (task : SplitTask) (was : Option FileMap) (records block : List (List ℕ))
      → InParts task was (g.F.Files.seen l.fn.files).held l.fn.parts.numbers l.fn.parts.writers.items (records ++ block) records
      → AreGathered task l.fn.parts.numbers l.fn.parts.gathered records block
      → PushedSo task was (g.F.Files.seen l.files).held l.parts.numbers l.parts.writers.items l.place records block;
  calm : IsCalm (g.F.Files.seen l.fn.files) (g.F.Files.seen l.files);
  writes : OnlyWrites (g.F.Files.seen l.fn.files) (g.F.Files.seen l.files);
}
