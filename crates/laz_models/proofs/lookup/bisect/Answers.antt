use Rattle.std.proofs.Common.{◌≡◌, ◌+◌, length, get_or, ap, arith}
use Rattle.laz_models.proofs.Lookups.{last_at}
use Rattle.laz_models.proofs.lookup.bisect.Goals as goal

pub returns : goal.returns
returns c =
    let starts = c.args.starts.now in
    let beside : c.loop-width.low + c.loop-width.width ≡ c.loop-width.low + 1 = omega arith in
    last_at (length starts) starts c.args.v c.loop-width.low c.requires.starts (omega arith) c.loop-width.invariant.start
    (λ inner. omega (arith, ap (λ i. get_or starts i 0) beside, c.loop-width.invariant.end (omega arith)))
