use Rattle.las_make.proofs.Ended.{faults_left}
use Rattle.las_make.proofs.laws.faults_leave_unfinished_outputs.Goals as goal

pub returns : goal.returns
returns c = faults_left
