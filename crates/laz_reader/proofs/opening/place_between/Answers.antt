use Rattle.std.proofs.Common.{arith}
use Rattle.std.proofs.lemmas.Bool.Decides.{nat_tests}
use Rattle.laz_reader.proofs.opening.place_between.Goals as goal

pub returns-then-start-least : goal.returns-then-start-least
returns-then-start-least c = grind (arith, nat_tests)
