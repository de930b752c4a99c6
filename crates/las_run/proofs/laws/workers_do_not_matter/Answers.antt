use Rattle.las_run.proofs.Running as runs
use Rattle.las_run.proofs.laws.workers_do_not_matter.Goals as goal

pub returns : goal.returns
returns c = runs.workers_do_not_matter
