use Rattle.laz_file.proofs.OneBlock.{one-block, one-in-range, one-records}
use Rattle.laz_file.proofs.laws.records_have_one_answer.Goals as goal

pub returns-clause-blocks : goal.returns-clause-blocks
returns-clause-blocks c file piece one other small h k = one-block c.one_is_held.ensures file small piece one other h k

pub returns-clause-records : goal.returns-clause-records
returns-clause-records c file blocks others bad worse small are of = one-records c.one_is_held.ensures file small blocks others bad worse are of

pub returns-clause-range : goal.returns-clause-range
returns-clause-range c file range blocks others bad worse small are of = one-in-range c.one_is_held.ensures file small range blocks others bad worse are of
