use Rattle.std.proofs.Common.{◌≡◌, ◌++◌, List, ℕ, length, map, take}
use Rattle.std.specs.Prelude.{sum_by}
use Rattle.std.specs.List.{concat}
use Rattle.las_outside.specs.Frames.{IsCalm}
use Rattle.las_outside.specs.Outside.{Outside, with_bytes}
use Rattle.laz_reader.specs.Asking.{ReadsAndWrites}
use Rattle.laz_file.specs.Copying.{with_reads}
use Rattle.las_merge.specs.Appending.{part_of}
use Rattle.las_merge.proofs.appending.copy_all.Given as goal

abbrev pub invariant-sources : goal.invariant-sources
invariant-sources g l = record {
  room : length l.buffer ≡ length l.fn.buffer;
  copied : (before : Outside) (text : List ℕ) → g.F.Files.seen l.fn.files ≡ with_bytes before l.output text
      → g.F.Files.seen l.files ≡ with_bytes (with_reads before (g.F.Files.seen l.files)) l.output (text ++ concat (map (part_of (g.F.Files.seen l.fn.files).held) (take l.i l.sources)));
  calm : IsCalm (g.F.Files.seen l.fn.files) (g.F.Files.seen l.files);
  frame : ReadsAndWrites (sum_by (λ source. source.size) (take l.i l.sources)) (g.F.Files.seen l.fn.files) (g.F.Files.seen l.files);
}
