use Rattle.std.proofs.Common.{◌≡◌, ◌+◌, ◌-◌, ◌^◌, ◌++◌, min, map, replicate}
use Rattle.std.specs.List.{range_with_len}
use Rattle.laz_integer.proofs.models.sizes.Given as goal

abbrev pub invariant-loop-k : goal.invariant-loop-k
invariant-loop-k l = l.sizes.items ≡ replicate l.contexts (l.bits + 1) ++ map (λ k. 2 ^ min k 8) (range_with_len 1 (l.k - 1))
