use Rattle.std.proofs.Common.{rules}
use Rattle.las_run.proofs.make.stop_making.Goals as goal

pub returns-in-ReadPacked : goal.returns-in-ReadPacked
returns-in-ReadPacked c = search rules
