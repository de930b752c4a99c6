use Rattle.laz_chunk.proofs.Bounds.{chunk-holds}
use Rattle.laz_chunk.proofs.laws.chunks_hold.Goals as goal

pub returns : goal.returns
returns c = chunk-holds
