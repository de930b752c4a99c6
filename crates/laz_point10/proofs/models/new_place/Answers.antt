use Rattle.laz_point10.specs.PointEvents.{x_kind, y_kind, z_kind}
use Rattle.laz_point10.proofs.models.new_place.Goals as goal

pub returns-clause-stands : goal.returns-clause-stands
returns-clause-stands c = (c.in_ok-int_models.ensures.stands x_kind, (c.in_ok-int_models-2.ensures.stands y_kind, c.in_ok-int_models-3.ensures.stands z_kind))
