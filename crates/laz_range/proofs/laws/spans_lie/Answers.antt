use Rattle.laz_range.specs.Span.{initial_span}
use Rattle.laz_range.proofs.Reach.{after-IsSpan, initial_span-IsSpan}
use Rattle.laz_range.proofs.laws.spans_lie.Goals as goal

pub returns : goal.returns
returns c events all = (after-IsSpan initial_span events initial_span-IsSpan all).within
