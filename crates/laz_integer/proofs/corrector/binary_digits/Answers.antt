use Rattle.std.proofs.Common.{arith}
use Rattle.laz_integer.proofs.Correctors.{digits-all}
use Rattle.laz_integer.proofs.corrector.binary_digits.Goals as goal

pub returns-clause-digits : goal.returns-clause-digits
returns-clause-digits c = (digits-all c.args.size (omega arith)).is

pub returns-clause-none : goal.returns-clause-none
returns-clause-none c = (digits-all c.args.size (omega arith)).none

pub returns-clause-least : goal.returns-clause-least
returns-clause-least c = (digits-all c.args.size (omega arith)).least

pub returns-clause-above : goal.returns-clause-above
returns-clause-above c = (digits-all c.args.size (omega arith)).above
