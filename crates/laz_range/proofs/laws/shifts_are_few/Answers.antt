use Rattle.std.proofs.Common.{arith}
use Rattle.laz_range.specs.Span.{initial_span}
use Rattle.laz_range.proofs.Streams.{after-few}
use Rattle.laz_range.proofs.laws.shifts_are_few.Goals as goal

pub returns : goal.returns
returns c events = omega (arith, after-few initial_span events)
