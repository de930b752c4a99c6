use Rattle.laz_models.proofs.Sounds.{IsSound-new_model, IsSound-after_symbol, IsBitCounting-new_bit_model, IsBitCounting-after_bit}
use Rattle.laz_models.proofs.laws.models_are_sound.Goals as goal

pub returns-clause-first : goal.returns-clause-first
returns-clause-first c = IsSound-new_model

pub returns-clause-more : goal.returns-clause-more
returns-clause-more c = IsSound-after_symbol

pub returns-clause-first_of_bits : goal.returns-clause-first_of_bits
returns-clause-first_of_bits c = IsBitCounting-new_bit_model

pub returns-clause-more_bits : goal.returns-clause-more_bits
returns-clause-more_bits c = IsBitCounting-after_bit
