use Rattle.las_merge.proofs.Existing.{are_kept_or_copied, are_kept_or_merged, merges_to_something}
use Rattle.las_merge.proofs.laws.merging_gives_something.Goals as goal

pub returns-clause-merged : goal.returns-clause-merged
returns-clause-merged c = are_kept_or_merged c.no_file_is_without_an_answer.ensures.answer

pub returns-clause-records : goal.returns-clause-records
returns-clause-records c = merges_to_something c.no_file_is_without_an_answer.ensures.records

pub returns-clause-copied : goal.returns-clause-copied
returns-clause-copied c = are_kept_or_copied c.no_file_is_without_an_answer.ensures.answer c.no_file_is_without_an_answer.ensures.pieces
