use Rattle.laz_point10.specs.PointEvents.{intensity_kind, point_source_kind, x_kind, y_kind, z_kind}
use Rattle.laz_integer.proofs.Public.{reset-stands}
use Rattle.laz_point10.proofs.models.reset.Goals as goal

pub returns-clause-stands : goal.returns-clause-stands
returns-clause-stands c = (
  (reset-stands _ _ c.reset.ensures.sizes c.reset.ensures.stands, reset-stands _ _ c.reset-2.ensures.sizes c.reset-2.ensures.stands),
  (
    (c.reset-3.ensures.stands intensity_kind, reset-stands _ _ c.reset-4.ensures.sizes c.reset-4.ensures.stands),
    (
      (reset-stands _ _ c.reset-5.ensures.sizes c.reset-5.ensures.stands, (reset-stands _ _ c.reset-6.ensures.sizes c.reset-6.ensures.stands, c.reset-7.ensures.stands point_source_kind)),
      (c.reset-8.ensures.stands x_kind, (c.reset-9.ensures.stands y_kind, c.reset-10.ensures.stands z_kind)),
    ),
  ),
)
