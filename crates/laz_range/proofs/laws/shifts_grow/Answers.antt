use Rattle.laz_range.proofs.Ends.{shifts-event}
use Rattle.laz_range.proofs.laws.shifts_grow.Goals as goal

pub returns : goal.returns
returns c = shifts-event
