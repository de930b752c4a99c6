use Rattle.las_make.proofs.Drawn.{advances}
use Rattle.las_make.proofs.drawing.Generator.draw.Goals as goal

pub returns : goal.returns
returns c = advances c.args.self.now.state
