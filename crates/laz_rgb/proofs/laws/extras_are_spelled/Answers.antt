use Rattle.laz_rgb.proofs.Proved.{extras-spelled}
use Rattle.laz_rgb.proofs.laws.extras_are_spelled.Goals as goal

pub returns : goal.returns
returns c = extras-spelled
