use Rattle.std.proofs.Common.{◌≡◌, ◌+◌, ◌*◌, ◌++◌, [], ℕ, List, drop, length}
use Rattle.las_filter.specs.Kept.{steps_of}
use Rattle.las_header.specs.Plain.{cut_records}
use Rattle.las_thin.specs.Kept.{passing}
use Rattle.las_thin.specs.Sieving.{HasSifted}
use Rattle.las_convert.proofs.looking.look_block.Given as goal

abbrev pub invariant-loop-turn : goal.invariant-loop-turn
invariant-loop-turn l = record {
  rest : l.rest ≡ drop (l.size * l._turn) l.block;
  place : l.place ≡ l.read + l._turn;
  settings : l.sieve.settings ≡ l.fn.sieve.settings;
  stands : (before : List (List ℕ)) → length before ≡ l.read → HasSifted (passing (steps_of l.plan) before) [] l.fn.sieve
      → HasSifted (passing (steps_of l.plan) (before ++ cut_records l.size l._turn l.block)) [] l.sieve;
}
