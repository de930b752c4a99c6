use Rattle.laz_point10.proofs.Written.{points-spelled}
use Rattle.laz_point10.proofs.laws.points_are_spelled.Goals as goal

pub returns : goal.returns
returns c = points-spelled
