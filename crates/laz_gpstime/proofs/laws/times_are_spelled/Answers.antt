use Rattle.laz_gpstime.proofs.Spelled.{times-spelled}
use Rattle.laz_gpstime.proofs.laws.times_are_spelled.Goals as goal

pub returns : goal.returns
returns c = times-spelled
