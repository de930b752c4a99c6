use Rattle.laz_models.proofs.BitStand.{BitStandsFor-new_bit_model}
use Rattle.laz_models.proofs.bit_model.BitModel.new.Goals as goal

pub returns-clause-stands : goal.returns-clause-stands
returns-clause-stands c = BitStandsFor-new_bit_model
