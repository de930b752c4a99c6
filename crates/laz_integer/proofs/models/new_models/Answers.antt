use Rattle.std.proofs.Common.{arith}
use Rattle.laz_integer.proofs.States.{length-sizes, sizes-range}
use Rattle.laz_integer.proofs.models.new_models.Goals as goal

pub new-requires-clause-few : goal.new-requires-clause-few
new-requires-clause-few c = rw (c.deref.ensures.value, c.in_ok-sizes.ensures) (omega (arith, length-sizes c.args.bits c.args.contexts))

pub new-requires-clause-range : goal.new-requires-clause-range
new-requires-clause-range c = rw (c.deref.ensures.value, c.in_ok-sizes.ensures) (sizes-range c.args.bits c.args.contexts c.requires.some c.requires.few)

pub new-requires-clause-some : goal.new-requires-clause-some
new-requires-clause-some c = rw (c.deref.ensures.value, c.in_ok-sizes.ensures) (omega (arith, length-sizes c.args.bits c.args.contexts, c.requires.some))
