use Rattle.laz_table.proofs.TableLaws.{one-held}
use Rattle.laz_table.proofs.laws.tables_hold_one_pair.Goals as goal

pub returns : goal.returns
returns c = one-held
