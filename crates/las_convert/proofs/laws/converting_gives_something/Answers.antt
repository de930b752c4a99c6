use Rattle.las_convert.proofs.Existing.{converts_to_something}
use Rattle.las_convert.proofs.laws.converting_gives_something.Goals as goal

pub returns : goal.returns
returns c = converts_to_something c.no_file_is_without_an_answer.ensures.range
