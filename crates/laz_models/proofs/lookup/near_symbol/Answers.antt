use Rattle.std.proofs.Common.{get_or, arith}
use Rattle.laz_models.specs.Place.{starts_in}
use Rattle.laz_models.proofs.Lookups.{last_at}
use Rattle.laz_models.proofs.Models.{near-is}
use Rattle.laz_models.proofs.lookup.near_symbol.Goals as goal

pub near_of-requires : goal.near_of-requires
near_of-requires c = omega (arith, c.distribution.ensures.dist.length, c.requires.symbol)

pub returns-clause-near : goal.returns-clause-near
returns-clause-near c =
    let n = c.args.place.now.size in
    let dist = c.distribution.result.now in
    let is = c.distribution.ensures.dist in
    let starts = starts_in n dist in
    let last = last_at n starts (get_or starts c.args.s 0) c.args.s is.starts c.requires.symbol (omega arith) (λ more. is.starts.rising c.args.s more) in
    rw (← c.distribution.ensures.starts)
    (near-is n _ _ dist c.near_of.result is last c.near_of.ensures.symbol c.near_of.ensures.start c.near_of.ensures.next c.near_of.ensures.after)
