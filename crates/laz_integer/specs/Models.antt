-- The state of the models, as their struct holds it.
use Rattle.laz_integer.specs.Integer.{IntState}
use Rattle.laz_integer.specs.declared.models.Models.{Models}

-- The state of an integer's models.
abbrev pub state_of : Models → IntState
state_of m = record { bits = m.bits; contexts = m.contexts; zero_or_one = m.zero_or_one; bank = m.bank }
