use Rattle.std.proofs.Common.{◌≡◌, ◌+◌, ◌*◌, ◌++◌, ℕ, List, Option, drop, length, take}
use Rattle.las_outside.specs.Files.{FileMap}
use Rattle.las_outside.specs.Frames.{IsCalm, OnlyWrites}
use Rattle.las_split.specs.Sorting.{task_in}
use Rattle.las_split.specs.Steps.{HaveTheirParts}
use Rattle.las_split.proofs.sorting.sort_each.Given as goal
use Rattle.las_header.specs.Plain.{cut_all}

abbrev pub invariant-loop-turn : goal.invariant-loop-turn
invariant-loop-turn g l = record {
  rest : l.rest ≡ drop (l.splitter.size * l.turn) l.group;
  sorts : (was : Option FileMap) (records block : List (List ℕ))
      → HaveTheirParts (task_in l.splitter) was (g.F.Files.seen l.fn.files).held l.fn.parts records block
      → l.index ≡ length records + length block
      → HaveTheirParts (task_in l.splitter) was (g.F.Files.seen l.files).held l.parts records (block ++ take l.turn (cut_all l.splitter.size l.group));
  calm : IsCalm (g.F.Files.seen l.fn.files) (g.F.Files.seen l.files);
  writes : OnlyWrites (g.F.Files.seen l.fn.files) (g.F.Files.seen l.files);
}
