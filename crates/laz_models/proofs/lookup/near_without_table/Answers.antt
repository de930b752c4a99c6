use Rattle.laz_models.proofs.Models.{near-is}
use Rattle.laz_models.proofs.lookup.near_without_table.Goals as goal

pub returns : goal.returns
returns c =
    rw (← c.distribution-dist.ensures.starts)
    (near-is c.args.place.now.size c.args.v _ c.distribution-dist.result.now c.near_of.result c.distribution-dist.ensures.dist c.last_at.ensures c.near_of.ensures.symbol c.near_of.ensures.start c.near_of.ensures.next c.near_of.ensures.after)
