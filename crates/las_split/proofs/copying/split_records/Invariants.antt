use Rattle.std.proofs.Common.{◌≡◌, ◌+◌, ◌≤◌, ℕ, List, length}
use Rattle.std.specs.Prelude.{unwrap_or}
use Rattle.std.specs.List.{concat}
use Rattle.las_header.specs.Fields.{record_length_of}
use Rattle.las_header.specs.Plain.{cut_all}
use Rattle.las_outside.specs.Frames.{IsCalm}
use Rattle.las_outside.specs.Outside.{Later}
use Rattle.laz_reader.specs.Asking.{bytes_left}
use Rattle.laz_reader.specs.Turns.{HasComeTo, blocks_left}
use Rattle.las_split.specs.Sorting.{InParts, split_task}
use Rattle.las_split.proofs.copying.split_records.Given as goal

abbrev pub invariant-turns : goal.invariant-turns
invariant-turns g l = let old = g.F.Files.seen l.fn.files in let now = g.F.Files.seen l.files in let s = record_length_of l.fn.reader.head.bytes in record {
  taken : (n : ℕ) × (xs : List (List ℕ)) × HasComeTo old.held l.fn.reader l.reader l.crew l.turn n xs
      × InParts (split_task l.names (unwrap_or l.plain l.fn.reader.head) l.rule) old.held now.held l.parts.numbers l.parts.writers.items (cut_all s (concat xs)) (cut_all s (concat xs))
      × (l.index ≡ length (cut_all s (concat xs)));
  calm : IsCalm old now;
  later : Later old now;
  asked : now.asked + bytes_left l.reader ≤ old.asked + bytes_left l.fn.reader;
}

abbrev pub decreases-turns : goal.decreases-turns
decreases-turns g l = blocks_left l.reader l.turn
