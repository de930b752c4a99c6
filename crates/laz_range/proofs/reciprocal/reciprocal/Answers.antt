use Rattle.laz_range.proofs.Reciprocals.{AreReciprocals-table}
use Rattle.laz_range.proofs.reciprocal.reciprocal.Goals as goal

pub entry-requires-clause-table : goal.entry-requires-clause-table
entry-requires-clause-table c = AreReciprocals-table
