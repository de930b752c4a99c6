use Rattle.std.proofs.Common.{◌≡◌, ◌-◌, ◌≤◌, ◌++◌, List, ℕ, length}
use Rattle.las_outside.specs.Frames.{IsCalm}
use Rattle.las_outside.specs.Outside.{Outside, with_bytes}
use Rattle.laz_reader.specs.Asking.{ReadsAndWrites}
use Rattle.laz_file.specs.Copying.{with_reads}
use Rattle.las_merge.specs.Appending.{source_bytes}
use Rattle.las_merge.proofs.appending.copy_part.Given as goal

abbrev pub invariant-pieces : goal.invariant-pieces
invariant-pieces g l = record {
  within : l.done ≤ l.size;
  room : length l.buffer ≡ length l.fn.buffer;
  copied : (before : Outside) (text : List ℕ) → g.F.Files.seen l.fn.files ≡ with_bytes before l.output text
      → g.F.Files.seen l.files ≡ with_bytes (with_reads before (g.F.Files.seen l.files)) l.output (text ++ source_bytes (g.F.Files.seen l.fn.files).held l.input l.place l.done);
  calm : IsCalm (g.F.Files.seen l.fn.files) (g.F.Files.seen l.files);
  frame : ReadsAndWrites l.done (g.F.Files.seen l.fn.files) (g.F.Files.seen l.files);
}

abbrev pub decreases-pieces : goal.decreases-pieces
decreases-pieces g l = l.size - l.done
