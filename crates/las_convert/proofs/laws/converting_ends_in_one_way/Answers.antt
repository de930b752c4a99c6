use Rattle.las_convert.proofs.OneWay.{converts_in_one_way}
use Rattle.las_convert.proofs.laws.converting_ends_in_one_way.Goals as goal

pub returns : goal.returns
returns c = converts_in_one_way c.records_have_one_answer.ensures.blocks c.records_have_one_answer.ensures.range
