use Rattle.laz_forms.proofs.Public.{packed_accepted, packed_chunks, unpacks_again}
use Rattle.laz_file.proofs.laws.files_are_packed_without_loss.Goals as goal

pub returns-clause-accepted : goal.returns-clause-accepted
returns-clause-accepted c = packed_accepted

pub returns-clause-chunks : goal.returns-clause-chunks
returns-clause-chunks c = packed_chunks

pub returns-clause-back : goal.returns-clause-back
returns-clause-back c = unpacks_again
