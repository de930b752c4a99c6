use Rattle.laz_chunk.proofs.Lawful.{record-few}
use Rattle.laz_chunk.proofs.laws.records_have_few_events.Goals as goal

pub returns : goal.returns
returns c = record-few
