use Rattle.laz_point10.proofs.Parts.{parts-of-points}
use Rattle.laz_point10.proofs.laws.parts_are_of_points.Goals as goal

pub returns : goal.returns
returns c = parts-of-points
