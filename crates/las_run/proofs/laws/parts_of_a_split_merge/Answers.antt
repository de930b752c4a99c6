use Rattle.las_run.proofs.Rejoining as rejoining
use Rattle.las_run.proofs.Wholes as wholes
use Rattle.las_run.proofs.laws.parts_of_a_split_merge.Goals as goal

pub returns-clause-merge : goal.returns-clause-merge
returns-clause-merge c = rejoining.parts_of_split_merge

pub returns-clause-plain : goal.returns-clause-plain
returns-clause-plain c = wholes.plain_records_are_whole

pub returns-clause-packed : goal.returns-clause-packed
returns-clause-packed c = wholes.packed_records_are_whole
