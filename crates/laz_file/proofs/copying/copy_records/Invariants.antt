use Rattle.std.proofs.Common.{◌+◌, ◌≤◌, ℕ, List}
use Rattle.std.specs.List.{concat}
use Rattle.las_outside.specs.Frames.{IsCalm}
use Rattle.las_outside.specs.Outside.{Later}
use Rattle.laz_reader.specs.Asking.{bytes_left}
use Rattle.laz_reader.specs.Turns.{HasComeTo, blocks_left}
use Rattle.laz_file.specs.Copying.{HasTaken}
use Rattle.laz_file.proofs.copying.copy_records.Given as goal

abbrev pub invariant-turns : goal.invariant-turns
invariant-turns g l = let old = g.F.Files.seen l.fn.files in let now = g.F.Files.seen l.files in record {
  taken : (n : ℕ) × (xs : List (List ℕ)) × HasComeTo old.held l.fn.reader l.reader l.crew l.turn n xs × HasTaken l.fn.writer l.writer old now (concat xs);
  calm : IsCalm old now;
  later : Later old now;
  asked : now.asked + bytes_left l.reader ≤ old.asked + bytes_left l.fn.reader;
}

abbrev pub decreases-turns : goal.decreases-turns
decreases-turns g l = blocks_left l.reader l.turn
