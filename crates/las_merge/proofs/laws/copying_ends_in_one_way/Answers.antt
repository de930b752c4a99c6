use Rattle.las_merge.proofs.CopiedOnce.{copied_by_one, copied_once, kept_or_copied}
use Rattle.las_merge.proofs.laws.copying_ends_in_one_way.Goals as goal

pub returns-clause-kept : goal.returns-clause-kept
returns-clause-kept c = copied_by_one

pub returns-clause-copied : goal.returns-clause-copied
returns-clause-copied c = kept_or_copied

pub returns-clause-once : goal.returns-clause-once
returns-clause-once c = copied_once
