use Rattle.las_split.proofs.OneWay.{splits_in_one_way}
use Rattle.las_split.proofs.laws.splitting_ends_in_one_way.Goals as goal

pub returns : goal.returns
returns c = splits_in_one_way c.records_have_one_answer.ensures.blocks c.records_have_one_answer.ensures.records
