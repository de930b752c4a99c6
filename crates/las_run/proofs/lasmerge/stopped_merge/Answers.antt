use Rattle.std.proofs.Common.{rules}
use Rattle.las_run.proofs.lasmerge.stopped_merge.Goals as goal

pub returns-in-Err-At : goal.returns-in-Err-At
returns-in-Err-At c = search rules
