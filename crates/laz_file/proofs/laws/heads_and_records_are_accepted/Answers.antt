use Rattle.laz_forms.proofs.Public.{are_counted}
use Rattle.laz_forms.proofs.Public.{accepted_pack, accepted_plain}
use Rattle.laz_file.proofs.laws.heads_and_records_are_accepted.Goals as goal

pub returns-clause-plain : goal.returns-clause-plain
returns-clause-plain c = accepted_plain

pub returns-clause-packed : goal.returns-clause-packed
returns-clause-packed c = accepted_pack

pub returns-clause-counted : goal.returns-clause-counted
returns-clause-counted c = are_counted
