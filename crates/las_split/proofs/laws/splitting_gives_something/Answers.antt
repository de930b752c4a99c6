use Rattle.las_split.proofs.SomeSplits.{splits_to_something}
use Rattle.las_split.proofs.laws.splitting_gives_something.Goals as goal

pub returns : goal.returns
returns c = splits_to_something c.no_file_is_without_an_answer.ensures.records
