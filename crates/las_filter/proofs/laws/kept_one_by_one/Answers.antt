use Rattle.las_filter.proofs.Keeping.{grows, counts}
use Rattle.las_filter.proofs.laws.kept_one_by_one.Goals as goal

pub returns-clause-grows : goal.returns-clause-grows
returns-clause-grows c = grows

pub returns-clause-counts : goal.returns-clause-counts
returns-clause-counts c = counts
