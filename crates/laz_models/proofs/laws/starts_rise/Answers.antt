use Rattle.laz_models.proofs.Lists.{dist-AreStarts}
use Rattle.laz_models.proofs.laws.starts_rise.Goals as goal

pub returns : goal.returns
returns c = dist-AreStarts
