use Rattle.las_make.proofs.Accepting.{can_pack_made, unpacks_made}
use Rattle.las_make.proofs.laws.made_files_are_packed.Goals as goal

pub returns : goal.returns
returns c = record { plain = can_pack_made; packed = unpacks_made }
