use Rattle.std.proofs.Common.{arith}
use Rattle.laz_integer.specs.Models.{state_of}
use Rattle.laz_integer.proofs.States.{high-size, high-in}
use Rattle.laz_integer.proofs.Sounds.{IsIntState-high}
use Rattle.laz_integer.proofs.models.put_high.Goals as goal

pub put_symbol_of-requires-clause-model : goal.put_symbol_of-requires-clause-model
put_symbol_of-requires-clause-model c = high-in (state_of c.args.models.now) c.args.k c.requires.state c.requires.some c.requires.range

pub put_symbol_of-requires-clause-symbol : goal.put_symbol_of-requires-clause-symbol
put_symbol_of-requires-clause-symbol c = omega (arith, c.requires.symbol, high-size (state_of c.args.models.now) c.args.k c.requires.state c.requires.some c.requires.range)

pub returns-clause-state : goal.returns-clause-state
returns-clause-state c =
    rw c.put_symbol_of.ensures.after_symbol (IsIntState-high (state_of c.args.models.now) c.args.k c.args.s c.requires.state c.requires.some c.requires.range c.requires.symbol)
