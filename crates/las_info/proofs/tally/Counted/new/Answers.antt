use Rattle.std.proofs.Common.{ap, ◌∙◌}
use Rattle.las_info.proofs.Maps.{made, made-empty}
use Rattle.las_info.proofs.tally.Counted.new.Goals as goal

pub returns : goal.returns
returns c = ap made c.new.ensures.items ∙ made-empty
