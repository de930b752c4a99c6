use Rattle.laz_point10.proofs.Lawful.{others-leave_points, points-lawful}
use Rattle.laz_point10.proofs.laws.points_are_lawful.Goals as goal

pub returns : goal.returns
returns c = record { lawful = points-lawful; others = others-leave_points }
