use Rattle.las_header.specs.Refusals.{first_cause}
use Rattle.laz_table.specs.VlrCauses.{chunk_size_of, vlr_causes}
use Rattle.laz_c.proofs.Causes.{by_cause}
use Rattle.laz_c.proofs.head.packed_chunk.Goals as goal

pub returns : goal.returns
returns c =
    by_cause (first_cause (vlr_causes c.args.head.now.bytes)) c.read_vlr.result (chunk_size_of c.args.head.now.bytes) c.read_vlr.ensures.chunk c.read_vlr.ensures.refused
