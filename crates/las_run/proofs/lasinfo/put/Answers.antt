use Rattle.std.proofs.Common.{rules}
use Rattle.las_run.proofs.lasinfo.put.Goals as goal

pub returns-in-Err-Failed : goal.returns-in-Err-Failed
returns-in-Err-Failed c = search rules
