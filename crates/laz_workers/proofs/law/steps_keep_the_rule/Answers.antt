use Rattle.laz_workers.proofs.Runs.{every_run, every_close}
use Rattle.laz_workers.proofs.law.steps_keep_the_rule.Goals as goal

pub returns-clause-runs : goal.returns-clause-runs
returns-clause-runs c = every_run

pub returns-clause-closes : goal.returns-clause-closes
returns-clause-closes c = every_close
