use Rattle.laz_integer.proofs.Public.{new-stands}
use Rattle.laz_point10.proofs.models.changes_models.Goals as goal

pub returns-clause-stands : goal.returns-clause-stands
returns-clause-stands c = new-stands _ _ c.in_ok-bank.ensures.sizes c.in_ok-bank.ensures.stands
