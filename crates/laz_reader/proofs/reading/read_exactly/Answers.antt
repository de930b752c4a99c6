use Rattle.std.proofs.Common.{ap, arith}
use Rattle.las_outside.specs.Outside.{Outside}
use Rattle.laz_reader.proofs.reading.read_exactly.Goals as goal

pub returns-in-Err-clause-ends : goal.returns-in-Err-clause-ends
returns-in-Err-clause-ends g c = omega (arith, ap (λ (o : Outside). o.read_faults) c.in-Err.ensures.err)

pub returns-in-Ok-clause-ends : goal.returns-in-Ok-clause-ends
returns-in-Ok-clause-ends g c = tt

pub returns-in-Err-clause-bytes : goal.returns-in-Err-clause-bytes
returns-in-Err-clause-bytes g c = tt

pub returns-in-Err-clause-calm : goal.returns-in-Err-clause-calm
returns-in-Err-clause-calm g c = tt
