use Rattle.std.proofs.Common.{◌≡◌, false, take}
use Rattle.las_split.specs.Sorting.{is_among}
use Rattle.las_split.proofs.numbers.Numbers.search.Given as goal

abbrev pub invariant-loop-place : goal.invariant-loop-place
invariant-loop-place l = is_among l.number (take l.place l.self) ≡ false
