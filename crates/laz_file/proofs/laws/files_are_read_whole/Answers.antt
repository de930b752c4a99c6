use Rattle.laz_forms.proofs.Public.{is_plain_form, no_bad_piece, reads_back, reads_plain}
use Rattle.laz_file.proofs.laws.files_are_read_whole.Goals as goal

pub returns-clause-none_bad : goal.returns-clause-none_bad
returns-clause-none_bad c = no_bad_piece

pub returns-clause-packed : goal.returns-clause-packed
returns-clause-packed c = reads_back

pub returns-clause-plain : goal.returns-clause-plain
returns-clause-plain c = reads_plain

pub returns-clause-plain_form : goal.returns-clause-plain_form
returns-clause-plain_form c = is_plain_form
