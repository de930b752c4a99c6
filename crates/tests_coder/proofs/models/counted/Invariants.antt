use Rattle.std.proofs.Common.{◌≡◌}
use Rattle.laz_models.specs.Dist.{alphabet_size}
use Rattle.tests_coder.proofs.models.counted.Given as goal

abbrev pub invariant-loop : goal.invariant-loop
invariant-loop l = alphabet_size l.model ≡ l.n
