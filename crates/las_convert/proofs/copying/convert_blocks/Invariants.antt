use Rattle.std.proofs.Common.{◌≡◌, false, ℕ, List, [], map, ◌+◌, ◌≤◌}
use Rattle.std.specs.List.{concat}
use Rattle.las_filter.specs.Kept.{steps_of}
use Rattle.las_outside.specs.Frames.{IsCalm}
use Rattle.las_outside.specs.Outside.{Later}
use Rattle.las_thin.specs.Placed.{Placed}
use Rattle.laz_reader.specs.Asking.{bytes_left}
use Rattle.laz_reader.specs.Turns.{HasComeTo, blocks_left}
use Rattle.las_convert.specs.Adding.{Goes, HaveCounted, IsAfter, kept_by}
use Rattle.las_convert.proofs.copying.convert_blocks.Given as goal
use Rattle.las_header.specs.Plain.{cut_all}

abbrev pub invariant-turns : goal.invariant-turns
invariant-turns g l = let old = g.F.Files.seen l.fn.files in let now = g.F.Files.seen l.files in let w = l.fn.writer in record {
  sound : l.writer.failed ≡ false;
  most : l.writer.most ≡ w.most;
  settings : l.passage.sieve.settings ≡ l.fn.passage.sieve.settings;
  counted : HaveCounted l.passage.read (map (λ tap. (goal.Tap-dyn g (tap.vtable, tap.value)).tap_seen tap.value)
      l.passage.taps.items);
  converted : (looked : List Placed) → IsAfter (steps_of l.plan) looked [] l.fn.passage.sieve l.fn.passage.read
      → (n : ℕ) × (xs : List (List ℕ)) × HasComeTo old.held l.fn.reader l.reader l.crew l.turn n xs
      × Goes (kept_by l.fn.passage.sieve.settings looked (steps_of l.plan)) [] w.size (concat xs) old now w l.writer
      (map (λ tap. (goal.Tap-dyn g (tap.vtable, tap.value)).tap_seen tap.value) l.fn.passage.taps.items)
      (map (λ tap. (goal.Tap-dyn g (tap.vtable, tap.value)).tap_seen tap.value) l.passage.taps.items) l.kept false
      × IsAfter (steps_of l.plan) looked (cut_all w.size (concat xs)) l.passage.sieve l.passage.read;
  calm : IsCalm old now;
  later : Later old now;
  asked : now.asked + bytes_left l.reader ≤ old.asked + bytes_left l.fn.reader;
}

abbrev pub decreases-turns : goal.decreases-turns
decreases-turns g l = blocks_left l.reader l.turn
