use Rattle.las_header.specs.Fields.{point_offset_of}
use Rattle.las_header.specs.Refusals.{first_cause, front_causes}
use Rattle.laz_c.proofs.Causes.{by_cause}
use Rattle.laz_c.proofs.head.offset_of.Goals as goal

pub returns : goal.returns
returns c =
    by_cause (first_cause (front_causes c.args.front.now c.args.size)) c.need.result (point_offset_of c.args.front.now) c.need.ensures.offset c.need.ensures.refused
