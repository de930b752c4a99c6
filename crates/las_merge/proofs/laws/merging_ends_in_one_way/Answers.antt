use Rattle.las_merge.proofs.Kept.{kept_by_one, kept_or_merged, merged_once}
use Rattle.las_merge.proofs.OneWay.{merges_in_one_way}
use Rattle.las_merge.proofs.laws.merging_ends_in_one_way.Goals as goal

pub returns-clause-kept : goal.returns-clause-kept
returns-clause-kept c = kept_by_one

pub returns-clause-merged : goal.returns-clause-merged
returns-clause-merged c = kept_or_merged

pub returns-clause-once : goal.returns-clause-once
returns-clause-once c = merged_once

pub returns-clause-records : goal.returns-clause-records
returns-clause-records c = merges_in_one_way c.records_have_one_answer.ensures.records
