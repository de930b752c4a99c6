use Rattle.std.proofs.Common.{All, FitsSigned, subst, sym}
use Rattle.std.specs.Int.{w32}
use Rattle.las_info.proofs.Lanes.{lows, lows_fit}
use Rattle.las_info.proofs.bounds.least.Goals as goal

pub returns-clause-lanes : goal.returns-clause-lanes
returns-clause-lanes c = lows c.args.a c.args.b c.requires.first c.requires.second

pub returns-clause-fit : goal.returns-clause-fit
returns-clause-fit c = subst (All (FitsSigned w32)) (sym (lows c.args.a c.args.b c.requires.first c.requires.second)) (lows_fit c.args.a c.args.b c.requires.first c.requires.second)
