use Rattle.std.proofs.Common.{◌≡◌, length}
use Rattle.las_points.specs.Tally.{IsWithinPoints, counts_of}
use Rattle.las_make.specs.Made.{IsBefore, records_from}
use Rattle.las_make.proofs.counting.count_records.Given as goal

abbrev pub invariant-loop-k : goal.invariant-loop-k
invariant-loop-k l = record {
  long : length l.point ≡ 20;
  counted : l.counts ≡ counts_of (records_from l.settings 0 l.k);
  within : IsWithinPoints l.counts;
  before : IsBefore l.settings l.k l.generator.state;
}
