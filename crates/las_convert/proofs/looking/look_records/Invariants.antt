use Rattle.std.proofs.Common.{◌≡◌, ℕ, List, [], length, ◌+◌, ◌≤◌}
use Rattle.std.specs.List.{concat}
use Rattle.las_filter.specs.Kept.{steps_of}
use Rattle.las_outside.specs.Frames.{IsCalm, OnlyReads}
use Rattle.las_thin.specs.Kept.{passing}
use Rattle.las_thin.specs.Sieving as sieve
use Rattle.laz_reader.specs.Asking.{bytes_left}
use Rattle.laz_reader.specs.Turns.{HasComeTo, blocks_left}
use Rattle.las_convert.proofs.looking.look_records.Given as goal
use Rattle.las_header.specs.Plain.{cut_all}

abbrev pub invariant-turns : goal.invariant-turns
invariant-turns g l = let old = g.F.Files.seen l.fn.files in let now = g.F.Files.seen l.files in record {
  only : OnlyReads old now;
  settings : l.sieve.settings ≡ l.fn.sieve.settings;
  looked : (n : ℕ) × (xs : List (List ℕ)) × HasComeTo old.held l.fn.reader l.reader l.crew l.turn n xs
      × (length (cut_all l.size (concat xs)) ≡ l.read) × sieve.HasSifted (passing (steps_of l.plan) (cut_all l.size (concat xs))) [] l.sieve;
  calm : IsCalm old now;
  asked : now.asked + bytes_left l.reader ≤ old.asked + bytes_left l.fn.reader;
}

abbrev pub decreases-turns : goal.decreases-turns
decreases-turns g l = blocks_left l.reader l.turn
