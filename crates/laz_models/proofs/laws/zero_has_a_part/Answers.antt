use Rattle.laz_models.proofs.Lists.{p0-some, p0-below}
use Rattle.laz_models.proofs.laws.zero_has_a_part.Goals as goal

pub returns-clause-some : goal.returns-clause-some
returns-clause-some c = p0-some

pub returns-clause-below : goal.returns-clause-below
returns-clause-below c = p0-below
