use Rattle.laz_range.specs.Span.{after, initial_span}
use Rattle.laz_range.proofs.Reach.{bytes-fit, after-IsSpan, initial_span-IsSpan}
use Rattle.laz_range.proofs.laws.bytes_fit.Goals as goal

pub returns : goal.returns
returns c events all = bytes-fit (after initial_span events) (after-IsSpan initial_span events initial_span-IsSpan all)
