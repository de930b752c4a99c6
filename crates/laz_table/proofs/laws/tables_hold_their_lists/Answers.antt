use Rattle.laz_table.proofs.TableLaws.{holds-counted, holds-fixed}
use Rattle.laz_table.proofs.laws.tables_hold_their_lists.Goals as goal

pub returns-clause-fixed : goal.returns-clause-fixed
returns-clause-fixed c = holds-fixed

pub returns-clause-counted : goal.returns-clause-counted
returns-clause-counted c = holds-counted
