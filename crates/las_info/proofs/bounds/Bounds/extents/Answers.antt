use Rattle.std.proofs.Common.{◌∙◌}
use Rattle.las_info.proofs.Lanes.{extents_kept}
use Rattle.las_info.proofs.bounds.Bounds.extents.Goals as goal

pub returns : goal.returns
returns c = extents_kept c.self.inside.low c.self.inside.high c.self.invariant.0 c.self.invariant.1 c.self.invariant.2 c.self.invariant.3 ∙ c.self.view_is
