use Rattle.laz_range.proofs.Distributions.{IsLike-symbols}
use Rattle.laz_range.proofs.laws.parts_are_alike.Goals as goal

pub returns : goal.returns
returns c = IsLike-symbols
