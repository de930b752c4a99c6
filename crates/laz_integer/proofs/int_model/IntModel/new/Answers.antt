use Rattle.std.proofs.Common.{refl}
use Rattle.laz_integer.proofs.Sounds.{IsIntState-new_model}
use Rattle.laz_integer.proofs.Stood.{stands-none}
use Rattle.laz_integer.proofs.int_model.IntModel.new.Goals as goal

pub invariant_of-result : goal.invariant_of-result
invariant_of-result c =
    rw c.in_ok-models.ensures.state (IsIntState-new_model _ c.requires.some c.requires.few c.requires.contexts refl refl)

pub returns-clause-stands : goal.returns-clause-stands
returns-clause-stands c kind = rw c.in_ok-models.ensures.state (stands-none kind _ (IsIntState-new_model _ c.requires.some c.requires.few c.requires.contexts refl refl) refl refl)

pub returns-clause-state : goal.returns-clause-state
returns-clause-state c =
    rw c.in_ok-models.ensures.state (IsIntState-new_model _ c.requires.some c.requires.few c.requires.contexts refl refl)
