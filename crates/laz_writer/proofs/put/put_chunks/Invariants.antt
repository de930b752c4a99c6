use Rattle.std.proofs.Common.{◌≡◌, ℕ, List, ◌++◌, length, map, take}
use Rattle.las_outside.specs.Frames.{OnlyWrites}
use Rattle.las_outside.specs.Outside.{Outside, with_bytes}
use Rattle.laz_workers.specs.Work.{texts}
use Rattle.laz_writer.specs.Writing.{all_chunks, chunks}
use Rattle.laz_writer.proofs.put.put_chunks.Given as goal

abbrev pub invariant-loop-i : goal.invariant-loop-i
invariant-loop-i g l = record {
  added : (before : Outside) (text : List ℕ) → g.F.Files.seen l.fn.files ≡ with_bytes before l.name text
      → g.F.Files.seen l.files ≡ with_bytes before l.name (text ++ all_chunks l.fn.job (take l.i (texts l.blocks)));
  writes : OnlyWrites (g.F.Files.seen l.fn.files) (g.F.Files.seen l.files);
  lengths : l.lengths.items ≡ l.fn.lengths.items ++ map (λ chunk. length chunk) (chunks l.fn.job (take l.i (texts l.blocks)));
}
