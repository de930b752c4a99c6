use Rattle.laz_rgb.proofs.Proved.{colours-spelled}
use Rattle.laz_rgb.proofs.laws.colours_are_spelled.Goals as goal

pub returns : goal.returns
returns c = colours-spelled
