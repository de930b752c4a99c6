use Rattle.laz_range.proofs.Whole.{following-is}
use Rattle.laz_range.proofs.laws.events_follow.Goals as goal

pub returns : goal.returns
returns c = following-is
