use Rattle.std.proofs.Common.{◌∙◌, ap, sym}
use Rattle.std.specs.FinMap as map
use Rattle.las_info.specs.Cells.{bins_from}
use Rattle.las_info.proofs.Maps.{entries-made}
use Rattle.las_info.proofs.tally.Counted.rows.Goals as goal

pub returns : goal.returns
returns c =
    c.in_ok-rows.ensures ∙ ap (bins_from 0) c.as_slice.ensures.value ∙ sym (entries-made c.self.inside.counts.items)
    ∙ ap map.entries c.self.view_is
