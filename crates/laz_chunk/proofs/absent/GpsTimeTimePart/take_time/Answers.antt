use Rattle.std.proofs.Common.{refl, Some}
use Rattle.laz_chunk.proofs.Reading.{time-read}
use Rattle.laz_chunk.proofs.absent.GpsTimeTimePart.take_time.Goals as goal

pub returns-clause-reads : goal.returns-clause-reads
returns-clause-reads g c = time-read c.read_for.result (Some c.args.self.now) c.args.self.now c.read_for.new.self c.read_for.new.part c.args.decoder.now c.read_for.new.decoder refl c.read_for.ensures.reads
