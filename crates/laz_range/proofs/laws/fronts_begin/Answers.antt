use Rattle.laz_range.specs.Span.{initial_span}
use Rattle.laz_range.proofs.Reach.{initial_span-IsSpan}
use Rattle.laz_range.proofs.Whole.{fronts}
use Rattle.laz_range.proofs.laws.fronts_begin.Goals as goal

pub returns : goal.returns
returns c front rest bytes all b h = fronts initial_span front rest bytes initial_span-IsSpan all b h
