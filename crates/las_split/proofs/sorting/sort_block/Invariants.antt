use Rattle.std.proofs.Common.{◌≡◌, ◌%◌, ◌++◌, ℕ, List, Option, length}
use Rattle.las_outside.specs.Files.{FileMap}
use Rattle.las_outside.specs.Frames.{IsCalm, OnlyWrites}
use Rattle.las_split.specs.Sorting.{task_in}
use Rattle.las_split.specs.Steps.{AreIn, HaveTheirParts}
use Rattle.las_split.proofs.sorting.sort_block.Given as goal
use Rattle.las_header.specs.Plain.{cut_all}

abbrev pub invariant-groups : goal.invariant-groups
invariant-groups g l = record {
  whole : length l.rest % l.splitter.size ≡ 0;
  sorts : (done : List ℕ) × (l.block ≡ done ++ l.rest) × (length done % l.splitter.size ≡ 0) × (l.taken ≡ length (cut_all l.splitter.size done))
      × ((was : Option FileMap) (records : List (List ℕ))
      → AreIn (task_in l.splitter) was (g.F.Files.seen l.fn.files).held l.fn.parts records records
      → l.index ≡ length records
      → HaveTheirParts (task_in l.splitter) was (g.F.Files.seen l.files).held l.parts records (cut_all l.splitter.size done));
  calm : IsCalm (g.F.Files.seen l.fn.files) (g.F.Files.seen l.files);
  writes : OnlyWrites (g.F.Files.seen l.fn.files) (g.F.Files.seen l.files);
}

abbrev pub decreases-groups : goal.decreases-groups
decreases-groups g l = length l.rest
