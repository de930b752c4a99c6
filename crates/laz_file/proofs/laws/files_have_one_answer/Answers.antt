use Rattle.laz_forms.proofs.Public.{read_once}
use Rattle.laz_forms.proofs.Public.{one_pieces, refused_once}
use Rattle.laz_file.proofs.laws.files_have_one_answer.Goals as goal

pub returns-clause-refusal : goal.returns-clause-refusal
returns-clause-refusal c = refused_once

pub returns-clause-pieces : goal.returns-clause-pieces
returns-clause-pieces c = one_pieces

pub returns-clause-records : goal.returns-clause-records
returns-clause-records c = read_once
