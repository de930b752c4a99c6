use Rattle.std.proofs.Common.{◌+◌, ◌≤◌, ℕ, List, map}
use Rattle.std.specs.List.{concat}
use Rattle.las_info.specs.Surveys.{IsShown}
use Rattle.las_outside.specs.Frames.{IsCalm, OnlyReads}
use Rattle.laz_reader.specs.Asking.{bytes_left}
use Rattle.laz_reader.specs.Turns.{HasComeTo, blocks_left}
use Rattle.las_survey.proofs.Batches.{cut}
use Rattle.las_survey.proofs.surveying.show_records.Given as goal

abbrev pub invariant-turns : goal.invariant-turns
invariant-turns g l = let old = g.F.Files.seen l.fn.files in let now = g.F.Files.seen l.files in record {
  only : OnlyReads old now;
  shown : (n : ℕ) × (xs : List (List ℕ)) × HasComeTo old.held l.fn.reader l.reader l.crew l.turn n xs
      × IsShown (map (λ tap. (goal.Tap-dyn g (tap.vtable, tap.value)).tap_seen tap.value) l.fn.taps.items) (cut l.size (concat xs)) (record { summary = l.survey.summary; taps = map (λ tap. (goal.Tap-dyn g (tap.vtable, tap.value)).tap_seen tap.value) l.survey.taps.items });
  calm : IsCalm old now;
  asked : now.asked + bytes_left l.reader ≤ old.asked + bytes_left l.fn.reader;
}

abbrev pub decreases-turns : goal.decreases-turns
decreases-turns g l = blocks_left l.reader l.turn
