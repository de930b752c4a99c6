use Rattle.laz_chunk.proofs.Bounds.{chunk-least, chunk-most}
use Rattle.laz_chunk.proofs.laws.chunks_are_bounded.Goals as goal

pub returns-clause-least : goal.returns-clause-least
returns-clause-least c = chunk-least

pub returns-clause-most : goal.returns-clause-most
returns-clause-most c = chunk-most
