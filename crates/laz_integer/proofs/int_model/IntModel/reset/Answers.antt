use Rattle.std.proofs.Common.{refl}
use Rattle.laz_integer.proofs.Sounds.{IsIntState-new_model}
use Rattle.laz_integer.proofs.Stood.{stands-none}
use Rattle.laz_integer.proofs.int_model.IntModel.reset.Goals as goal

pub invariant_of-self : goal.invariant_of-self
invariant_of-self c =
    let is = c.self.invariant in
    rw c.reset_models.ensures (IsIntState-new_model _ is.some is.few is.contexts refl refl)

pub returns-clause-stands : goal.returns-clause-stands
returns-clause-stands c kind =
    let is = c.self.invariant in
    rw c.reset_models.ensures (stands-none kind _ (IsIntState-new_model _ is.some is.few is.contexts refl refl) refl refl)

pub returns-clause-state : goal.returns-clause-state
returns-clause-state c = invariant_of-self c
