use Rattle.laz_table.proofs.TableLemmas.{sizes-more}
use Rattle.laz_table.proofs.table.fixed_sizes.Goals as goal

pub loop-chunk-preserved : goal.loop-chunk-preserved
loop-chunk-preserved c =
    let more = sizes-more c.args.chunk c.args.points c.loop-chunk.left c.loop-chunk._chunk c.min-size.result c.loop-chunk.sizes.items c.push.new.self.items c.loop-chunk.invariant.left c.min-size.ensures c.in-Ok.ensures.items c.loop-chunk.invariant.sizes in
    record { left = more.0; sizes = more.1 }
