use Rattle.std.proofs.Common.{rules}
use Rattle.las_convert.proofs.keeping.put_changed.Goals as goal

pub returns-clause-made : goal.returns-clause-made
returns-clause-made c = search rules

pub returns-clause-refused : goal.returns-clause-refused
returns-clause-refused c = search rules
