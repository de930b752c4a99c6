use Rattle.las_split.proofs.Joining as joining
use Rattle.las_split.proofs.laws.parts_join.Goals as goal

pub returns : goal.returns
returns c = joining.parts_join
