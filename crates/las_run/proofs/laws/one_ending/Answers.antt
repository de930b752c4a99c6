use Rattle.las_run.proofs.OneEnding.{ends_in_one_way}
use Rattle.las_run.proofs.laws.one_ending.Goals as goal

pub returns : goal.returns
returns c =
    ends_in_one_way c.records_have_one_answer.ensures.records c.converting_ends_in_one_way.ensures c.splitting_ends_in_one_way.ensures c.merging_ends_in_one_way.ensures.records
