use Rattle.std.proofs.Common.{arith}
use Rattle.laz_integer.specs.Models.{state_of}
use Rattle.laz_integer.proofs.States.{models-count, width-size}
use Rattle.laz_integer.proofs.Sounds.{IsIntState-width}
use Rattle.laz_integer.proofs.models.put.Goals as goal

pub put_symbol_of-requires-clause-symbol : goal.put_symbol_of-requires-clause-symbol
put_symbol_of-requires-clause-symbol c = omega (arith, c.requires.range, width-size (state_of c.args.models.now) c.args.ctx c.requires.state c.requires.context)

pub put_rest-requires-clause-state : goal.put_rest-requires-clause-state
put_rest-requires-clause-state c =
    rw c.put_symbol_of.ensures.after_symbol (IsIntState-width (state_of c.args.models.now) c.args.ctx c.args.k c.requires.state c.requires.context c.requires.range)

pub put_symbol_of-requires-clause-model : goal.put_symbol_of-requires-clause-model
put_symbol_of-requires-clause-model c = omega (arith, models-count (state_of c.args.models.now) c.requires.state, c.requires.context)
