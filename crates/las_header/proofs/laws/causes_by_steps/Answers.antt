use Rattle.las_header.proofs.CauseLemmas.{first_of_both, front_decides, front_is_fine, packed_is_fine}
use Rattle.las_header.proofs.laws.causes_by_steps.Goals as goal

pub returns-clause-first_of_both : goal.returns-clause-first_of_both
returns-clause-first_of_both c = first_of_both

pub returns-clause-front : goal.returns-clause-front
returns-clause-front c = front_decides

pub returns-clause-front_is_fine : goal.returns-clause-front_is_fine
returns-clause-front_is_fine c = front_is_fine

pub returns-clause-packed_is_fine : goal.returns-clause-packed_is_fine
returns-clause-packed_is_fine c = packed_is_fine
