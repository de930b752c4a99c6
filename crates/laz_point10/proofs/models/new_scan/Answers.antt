use Rattle.laz_point10.specs.PointEvents.{scan_angle_kind, point_source_kind, user_data_kind}
use Rattle.laz_point10.proofs.models.new_scan.Goals as goal

pub returns-clause-stands : goal.returns-clause-stands
returns-clause-stands c = (c.in_ok-byte_models.ensures.stands scan_angle_kind, (c.in_ok-byte_models-2.ensures.stands user_data_kind, c.in_ok-int_models.ensures.stands point_source_kind))
