use Rattle.laz_integer.proofs.Writing.{spells-written}
use Rattle.laz_integer.proofs.laws.integers_are_spelled.Goals as goal

pub returns : goal.returns
returns c = spells-written
