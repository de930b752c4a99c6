use Rattle.laz_rgb.proofs.Proved.{colours-lawful, others-leave_colours}
use Rattle.laz_rgb.proofs.laws.colours_are_lawful.Goals as goal

pub returns : goal.returns
returns c = record { lawful = colours-lawful; others = others-leave_colours }
