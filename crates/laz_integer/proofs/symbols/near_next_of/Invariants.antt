use Rattle.std.proofs.Common.{◌-◌}
use Rattle.laz_range.specs.Decoding.{symbol_place}
use Rattle.laz_models.specs.Bank.{model_at}
use Rattle.laz_models.specs.Dist.{alphabet_size}
use Rattle.laz_integer.proofs.Nears.{IsReached}
use Rattle.laz_integer.proofs.symbols.near_next_of.Given as goal

abbrev pub invariant-loop-near : goal.invariant-loop-near
invariant-loop-near l = IsReached (model_at l.bank l.m).starts (symbol_place l.decoder) l.near

abbrev pub decreases-loop-near : goal.decreases-loop-near
decreases-loop-near l = alphabet_size (model_at l.bank l.m) - l.near.symbol
