use Rattle.std.proofs.Common.{◌≡◌, ◌+◌, ◌*◌, ◌≤◌, ◌++◌, ℕ, List, drop, length}
use Rattle.las_filter.specs.Kept.{steps_of}
use Rattle.las_header.specs.Plain.{cut_records}
use Rattle.las_thin.specs.Kept.{passing}
use Rattle.las_thin.specs.Placed.{Placed}
use Rattle.las_thin.specs.Sieving.{HasSifted}
use Rattle.las_convert.specs.Adding.{Adds, kept_by}
use Rattle.las_convert.proofs.Cuts.{KeptSo}
use Rattle.las_convert.proofs.keeping.keep_sifted.Given as goal

abbrev pub invariant-loop-turn : goal.invariant-loop-turn
invariant-loop-turn l = record {
  rest : l.rest ≡ drop (l.size * l._turn) l.block;
  at : l.at ≤ l.size * l._turn;
  place : l.place ≡ l.read + l._turn;
  settings : l.sieve.settings ≡ l.fn.sieve.settings;
  kept : (looked : List Placed) (before : List (List ℕ)) → length before ≡ l.read → HasSifted looked (passing (steps_of l.plan) before) l.fn.sieve
      → KeptSo (Adds (kept_by l.fn.sieve.settings looked (steps_of l.plan)) before) l.size l._turn l.at l.block l.buffer;
  stands : (looked : List Placed) (before : List (List ℕ)) → length before ≡ l.read → HasSifted looked (passing (steps_of l.plan) before) l.fn.sieve
      → HasSifted looked (passing (steps_of l.plan) (before ++ cut_records l.size l._turn l.block)) l.sieve;
}
