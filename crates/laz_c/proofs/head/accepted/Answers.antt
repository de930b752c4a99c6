use Rattle.las_header.specs.Refusals.{first_cause, head_causes}
use Rattle.laz_c.proofs.Causes.{by_cause}
use Rattle.laz_c.proofs.head.accepted.Goals as goal

pub returns : goal.returns
returns c =
    by_cause (first_cause (head_causes c.args.bytes.items c.args.size)) c.read.result (record { bytes = c.args.bytes.items; size = c.args.size }) c.read.ensures.head c.read.ensures.refused
