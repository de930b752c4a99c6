use Rattle.std.proofs.Common.{arith}
use Rattle.laz_range.proofs.Ahead.{lacking}
use Rattle.laz_range.proofs.lacking.bytes_lacking.Goals as goal

pub returns-clause-lacking : goal.returns-clause-lacking
returns-clause-lacking c = (lacking c.args.len c.requires (omega arith)).is

pub returns-clause-fits : goal.returns-clause-fits
returns-clause-fits c = (lacking c.args.len c.requires (omega arith)).fits
