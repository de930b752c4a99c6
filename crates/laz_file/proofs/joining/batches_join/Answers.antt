use Rattle.laz_reader.proofs.Public.{joined}
use Rattle.laz_file.proofs.joining.batches_join.Goals as goal

pub returns : goal.returns
returns c = joined
