use Rattle.laz_point10.specs.PointEvents.{classification_kind, intensity_kind}
use Rattle.laz_point10.proofs.models.new_surface.Goals as goal

pub returns-clause-stands : goal.returns-clause-stands
returns-clause-stands c = (c.in_ok-int_models.ensures.stands intensity_kind, c.in_ok-byte_models.ensures.stands classification_kind)
