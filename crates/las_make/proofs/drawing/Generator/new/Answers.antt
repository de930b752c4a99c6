use Rattle.std.proofs.Common.{◌∙◌}
use Rattle.las_make.proofs.Drawn.{first_state}
use Rattle.las_make.proofs.drawing.Generator.new.Goals as goal

pub returns : goal.returns
returns c = c.from.ensures ∙ first_state c.args.seed
