use Rattle.laz_integer.proofs.Ranges.{AreCuts-ranged}
use Rattle.laz_integer.proofs.laws.events_cut.Goals as goal

pub returns : goal.returns
returns c = AreCuts-ranged
