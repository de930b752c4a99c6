use Rattle.std.proofs.Common.{◌+◌, ◌/◌, arith}
use Rattle.std.proofs.lemmas.List.Edits.{map_over_more}
use Rattle.std.proofs.lemmas.List.{get_or_default}
use Rattle.laz_models.proofs.model_cells.halve.Goals as goal

pub loop-count-preserved : goal.loop-count-preserved
loop-count-preserved c =
    map_over_more (λ n. (n + 1) / 2) c.args.counts.now c.loop-count.counts c.loop-count.count-index _ (omega arith) c.loop-count.invariant (get_or_default c.loop-count.counts c.loop-count.count-index 0 _ (omega arith))
