use Rattle.laz_forms.proofs.Public.{has_an_answer, has_pieces, has_records, has_records_in}
use Rattle.laz_file.proofs.laws.no_file_is_without_an_answer.Goals as goal

pub returns-clause-answer : goal.returns-clause-answer
returns-clause-answer c = has_an_answer

pub returns-clause-pieces : goal.returns-clause-pieces
returns-clause-pieces c = has_pieces

pub returns-clause-records : goal.returns-clause-records
returns-clause-records c = has_records

pub returns-clause-range : goal.returns-clause-range
returns-clause-range c = has_records_in
