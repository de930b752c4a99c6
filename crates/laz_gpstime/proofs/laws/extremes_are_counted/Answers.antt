use Rattle.laz_gpstime.proofs.Extremes.{extremes-counted}
use Rattle.laz_gpstime.proofs.laws.extremes_are_counted.Goals as goal

pub returns : goal.returns
returns c = extremes-counted
