use Rattle.laz_models.proofs.BitStand.{BitStandsFor-push, BitStandsFor-new_bit_model}
use Rattle.laz_models.proofs.Stand.{Stands-push, Stands-new_model}
use Rattle.laz_models.proofs.laws.models_stand.Goals as goal

pub returns-clause-first : goal.returns-clause-first
returns-clause-first c = Stands-new_model

pub returns-clause-more : goal.returns-clause-more
returns-clause-more c = Stands-push

pub returns-clause-first_of_bits : goal.returns-clause-first_of_bits
returns-clause-first_of_bits c = BitStandsFor-new_bit_model

pub returns-clause-more_bits : goal.returns-clause-more_bits
returns-clause-more_bits c = BitStandsFor-push
