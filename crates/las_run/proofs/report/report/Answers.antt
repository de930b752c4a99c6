use Rattle.las_run.specs.Ends.{names_read}
use Rattle.las_run.proofs.Endings.{says_done}
use Rattle.std.proofs.Common.{refl}
use Rattle.las_run.proofs.report.report.Goals as goal

pub returns-in-Ok : goal.returns-in-Ok
returns-in-Ok g c = record { line = says_done (names_read c.args.said.now) c.args.outcome.now _ _ _ c.in-Ok.is refl }
