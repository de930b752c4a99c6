use Rattle.las_merge.proofs.CopiedLaws.{accepted_as_one, have_merged, unpack_to_merged}
use Rattle.las_merge.proofs.laws.copied_inputs_are_merged.Goals as goal

pub returns-clause-accepted : goal.returns-clause-accepted
returns-clause-accepted c = accepted_as_one

pub returns-clause-records : goal.returns-clause-records
returns-clause-records c = have_merged

pub returns-clause-merged : goal.returns-clause-merged
returns-clause-merged c = unpack_to_merged
