use Rattle.las_run.proofs.SomeEnding.{some_ending_is_defined}
use Rattle.las_run.proofs.laws.no_task_is_without_an_ending.Goals as goal

pub returns : goal.returns
returns c =
    let file = c.no_file_is_without_an_answer.ensures in
    let merging = c.merging_gives_something.ensures in
    some_ending_is_defined file.answer file.records c.converting_gives_something.ensures c.splitting_gives_something.ensures merging.merged merging.records merging.copied
