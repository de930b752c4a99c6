use Rattle.laz_table.proofs.TableLaws.{front-holds, short}
use Rattle.laz_table.proofs.laws.tables_are_short.Goals as goal

pub returns-clause-written : goal.returns-clause-written
returns-clause-written c = short

pub returns-clause-read : goal.returns-clause-read
returns-clause-read c = front-holds
