use Rattle.laz_chunk.proofs.Reading.{extra-read}
use Rattle.laz_chunk.proofs.parts.read_extra.Goals as goal

pub returns-in-Some-clause-reads : goal.returns-in-Some-clause-reads
returns-in-Some-clause-reads c = extra-read c.read.result c.args.item.now c.in-Some.bytes c.read.new.self c.read.new.part c.args.decoder.now c.read.new.decoder c.in-Some.is c.read.ensures.reads
