use Rattle.laz_chunk.proofs.Lengths.{format-length}
use Rattle.laz_chunk.proofs.laws.records_have_the_length_of_their_format.Goals as goal

pub returns : goal.returns
returns c = format-length
