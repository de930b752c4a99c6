use Rattle.laz_file.proofs.RangeLaws.{empty_range, range_once, whole_of_all}
use Rattle.laz_file.proofs.SliceLaw.{slice_of_records}
use Rattle.laz_file.proofs.laws.ranges_have_one_answer.Goals as goal

pub returns-clause-whole : goal.returns-clause-whole
returns-clause-whole c = whole_of_all

pub returns-clause-records : goal.returns-clause-records
returns-clause-records c = range_once

pub returns-clause-none : goal.returns-clause-none
returns-clause-none c = empty_range

pub returns-clause-slice : goal.returns-clause-slice
returns-clause-slice c = slice_of_records
