use Rattle.std.proofs.Common.{arith}
use Rattle.las_header.proofs.NumberLemmas.{little_bytes-little_number}
use Rattle.las_header.proofs.numbers.read_again.Goals as goal

pub returns : goal.returns
returns c = little_bytes-little_number c.args.bytes.now (λ k. omega (arith, c.type_inv.bytes k))
