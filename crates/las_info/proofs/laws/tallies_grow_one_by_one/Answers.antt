use Rattle.las_info.proofs.Counting.{count-more, tally-grows}
use Rattle.las_info.proofs.laws.tallies_grow_one_by_one.Goals as goal

pub returns-clause-records : goal.returns-clause-records
returns-clause-records c = tally-grows

pub returns-clause-counts : goal.returns-clause-counts
returns-clause-counts c = count-more
