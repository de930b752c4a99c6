use Rattle.std.proofs.Common.{refl}
use Rattle.laz_models.specs.BitCounting.{new_bit_cycle}
use Rattle.laz_models.proofs.bit_model.new_bit_cycle.Goals as goal

pub returns : goal.returns
unfolding new_bit_cycle
returns c = rw (← c.small_bit_counts-zeros.ensures.small_bit_counts, c.min-cycle.ensures) refl
