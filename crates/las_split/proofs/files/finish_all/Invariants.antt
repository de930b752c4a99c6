use Rattle.std.proofs.Common.{List, ℕ, Option, vec_len}
use Rattle.las_outside.specs.Files.{FileMap}
use Rattle.las_outside.specs.Frames.{IsCalm, OnlyWrites}
use Rattle.laz_forms.specs.Outputs.{finished}
use Rattle.las_split.specs.Sorting.{InParts, SplitTask, bytes_at, output_at}
use Rattle.las_split.proofs.EndingParts.{EndedSo}
use Rattle.las_split.proofs.files.finish_all.Given as goal

abbrev pub invariant-loop-writer : goal.invariant-loop-writer
invariant-loop-writer g l = record {
  ended : (task : SplitTask) (was : Option FileMap) (records : List (List ℕ))
      → InParts task was (g.F.Files.seen l.fn.files).held l.fn.parts.numbers l.fn.parts.writers.items records records
      → EndedSo task (λ n. finished (output_at task n) (bytes_at task records n)) was (g.F.Files.seen l.files).held l.fn.parts.numbers l.fn.parts.writers.items l.rest.items records;
  calm : IsCalm (g.F.Files.seen l.fn.files) (g.F.Files.seen l.files);
  writes : OnlyWrites (g.F.Files.seen l.fn.files) (g.F.Files.seen l.files);
}

abbrev pub decreases-loop-writer : goal.decreases-loop-writer
decreases-loop-writer g l = vec_len l.rest
