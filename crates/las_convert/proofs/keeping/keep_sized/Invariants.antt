use Rattle.std.proofs.Common.{◌≡◌, ◌*◌, ◌≤◌, drop}
use Rattle.las_filter.specs.Kept.{steps_of}
use Rattle.las_convert.specs.Adding.{AddsAlways}
use Rattle.las_convert.proofs.Cuts.{KeptSo}
use Rattle.las_convert.proofs.keeping.keep_sized.Given as goal

abbrev pub invariant-loop-turn : goal.invariant-loop-turn
invariant-loop-turn l = record {
  rest : l.rest ≡ drop (l.size * l._turn) l.block;
  at : l.at ≤ l.size * l._turn;
  kept : KeptSo (AddsAlways (steps_of l.plan)) l.size l._turn l.at l.block l.buffer;
}
