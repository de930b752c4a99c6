use Rattle.laz_forms.proofs.Public.{counted_file_is, finished_is}
use Rattle.laz_file.proofs.laws.outputs_are_finished.Goals as goal

pub returns-clause-finished : goal.returns-clause-finished
returns-clause-finished c = finished_is

pub returns-clause-counted : goal.returns-clause-counted
returns-clause-counted c = counted_file_is
