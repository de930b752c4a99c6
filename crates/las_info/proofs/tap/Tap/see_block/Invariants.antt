use Rattle.std.proofs.Common.{◌≡◌, ◌*◌, ◌-◌, ◌/◌, ℕ, List, length}
use Rattle.las_info.specs.Tallies.{shown_all}
use Rattle.las_info.proofs.Cuts.{Cuts}
use Rattle.las_info.proofs.tap.Tap.see_block.Given as goal

abbrev pub invariant-loop-turn : goal.invariant-loop-turn
invariant-loop-turn g l = record {
  left : length l.rest ≡ l.size * (length l.block / l.size - l._turn);
  shows : (done : List (List ℕ)) × Cuts l.size (length l.block / l.size) l._turn l.block l.rest done
      × (g.Self.Tap.tap_seen l.self ≡ shown_all (g.Self.Tap.tap_seen l.initial.self) done);
}
