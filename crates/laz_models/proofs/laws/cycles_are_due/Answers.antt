use Rattle.laz_models.specs.BitDist.{bit_cycle}
use Rattle.laz_models.specs.Dist.{cycle}
use Rattle.laz_models.proofs.BitStand.{bit_cycle-some}
use Rattle.laz_models.proofs.Cycling.{cycle_in-due, cycle_in-greatest}
use Rattle.laz_models.proofs.Stand.{cycle-some}
use Rattle.laz_models.proofs.laws.cycles_are_due.Goals as goal

pub returns-clause-symbols : goal.returns-clause-symbols
returns-clause-symbols c = λ n len many. cycle_in-due (cycle n) (cycle-some n many) len

pub returns-clause-greatest : goal.returns-clause-greatest
returns-clause-greatest c = λ n len j many. cycle_in-greatest (cycle n) (cycle-some n many) len j

pub returns-clause-bits : goal.returns-clause-bits
returns-clause-bits c = cycle_in-due bit_cycle bit_cycle-some

pub returns-clause-greatest_of_bits : goal.returns-clause-greatest_of_bits
returns-clause-greatest_of_bits c = cycle_in-greatest bit_cycle bit_cycle-some
