use Rattle.laz_rgb.proofs.Proved.{extras-lawful, others-leave_extras}
use Rattle.laz_rgb.proofs.laws.extras_are_lawful.Goals as goal

pub returns : goal.returns
returns c = record { lawful = extras-lawful; others = others-leave_extras }
