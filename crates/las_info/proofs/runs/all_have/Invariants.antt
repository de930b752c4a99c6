use Rattle.std.proofs.Common.{◌≡◌, ◌*◌, ◌-◌, ℕ, List, length}
use Rattle.std.specs.Prelude.{All}
use Rattle.las_info.proofs.Cuts.{Cuts}
use Rattle.las_info.proofs.runs.all_have.Given as goal

abbrev pub invariant-loop-turn : goal.invariant-loop-turn
invariant-loop-turn g l = record {
  left : length l.rest ≡ l.size * (l.count - l._turn);
  done : (done : List (List ℕ)) × Cuts l.size l.count l._turn l.group l.rest done × All (λ point. g.B.Bins.bin_of point ≡ l.bin) done;
}
