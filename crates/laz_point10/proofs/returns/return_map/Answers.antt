use Rattle.std.proofs.Common.{arith}
use Rattle.laz_point10.proofs.Maps.{map-is, map-small}
use Rattle.laz_point10.proofs.returns.return_map.Goals as goal

pub returns-clause-map : goal.returns-clause-map
returns-clause-map c = map-is c.args.flags

pub returns-clause-small : goal.returns-clause-small
returns-clause-small c = omega (arith, map-is c.args.flags, map-small c.args.flags)
