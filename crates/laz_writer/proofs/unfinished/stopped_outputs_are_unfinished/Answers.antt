use Rattle.laz_writer.proofs.Stopping.{front_unfinished, stopped_unfinished}
use Rattle.laz_writer.proofs.unfinished.stopped_outputs_are_unfinished.Goals as goal

pub returns-clause-front : goal.returns-clause-front
returns-clause-front c = front_unfinished

pub returns-clause-stopped : goal.returns-clause-stopped
returns-clause-stopped c = stopped_unfinished
