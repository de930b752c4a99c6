use Rattle.std.proofs.Common.{◌≡◌, ℕ, ◌+◌, ◌*◌, ◌-◌, ◌/◌, List, length}
use Rattle.las_points.specs.Tally.{IsWithinPoints, counts_of}
use Rattle.laz_forms.proofs.Public.{Counted}
use Rattle.laz_writer.proofs.tally.count_all.Given as goal

abbrev pub invariant-loop-turn : goal.invariant-loop-turn
invariant-loop-turn l = record {
  left : length l.rest ≡ l.size * (length l.records / l.size - l._turn);
  points : l.counts.points ≡ l.fn.counts.points + l._turn;
  within : IsWithinPoints l.counts;
  counted : (before : List (List ℕ)) → l.fn.counts ≡ counts_of before
      → Counted l.size (length l.records / l.size) l._turn l.records l.rest before l.counts;
}
