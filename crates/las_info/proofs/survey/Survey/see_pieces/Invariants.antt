use Rattle.std.proofs.Common.{◌≡◌, ◌*◌, ◌-◌, ◌/◌, ◌++◌, ℕ, List, length, map}
use Rattle.las_info.specs.Tallies.{TapSeen}
use Rattle.las_info.specs.Surveys.{IsShown}
use Rattle.las_info.proofs.Cuts.{Cuts}
use Rattle.las_info.proofs.survey.Survey.see_pieces.Given as goal

abbrev pub invariant-loop-piece : goal.invariant-loop-piece
invariant-loop-piece g l = record {
  number : l.count ≡ length l.block / l.size;
  left : length l.rest ≡ l.size * (l.count - l.each * l._piece);
  done : (done : List (List ℕ)) × Cuts l.size l.count (l.each * l._piece) l.block l.rest done
      × ((taps : List TapSeen) (before : List (List ℕ))
      → IsShown taps before (record {
        summary = l.initial.self.summary;
        taps = map (λ tap. (goal.Tap-dyn g (tap.vtable, tap.value)).tap_seen tap.value) l.initial.self.taps.items;
      })
      → IsShown taps (before ++ done) (record {
        summary = l.self.summary;
        taps = map (λ tap. (goal.Tap-dyn g (tap.vtable, tap.value)).tap_seen tap.value) l.self.taps.items;
      }));
}
