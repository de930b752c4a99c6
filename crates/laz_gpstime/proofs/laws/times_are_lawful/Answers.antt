use Rattle.laz_gpstime.proofs.Lawful.{others-leave, points-hold, times-lawful}
use Rattle.laz_gpstime.proofs.laws.times_are_lawful.Goals as goal

pub returns-clause-lawful : goal.returns-clause-lawful
returns-clause-lawful c = times-lawful

pub returns-clause-others : goal.returns-clause-others
returns-clause-others c = others-leave

pub returns-clause-records : goal.returns-clause-records
returns-clause-records c = points-hold
