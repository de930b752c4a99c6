use Rattle.las_convert.proofs.AllPlaces.{converts_all_records, converts_as_the_plan, converts_first_records, converts_whole_files}
use Rattle.las_convert.proofs.laws.converting_all_places.Goals as goal

pub returns-clause-records : goal.returns-clause-records
returns-clause-records c = converts_all_records

pub returns-clause-first : goal.returns-clause-first
returns-clause-first c = converts_first_records

pub returns-clause-whole : goal.returns-clause-whole
returns-clause-whole c = converts_whole_files

pub returns-clause-plan : goal.returns-clause-plan
returns-clause-plan c = converts_as_the_plan
