use Rattle.las_merge.proofs.Parts.{parts_merge}
use Rattle.las_merge.proofs.laws.parts_merge_to_the_whole.Goals as goal

pub returns : goal.returns
returns c = parts_merge
