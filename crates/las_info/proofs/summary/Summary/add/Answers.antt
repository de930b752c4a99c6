use Rattle.std.proofs.Common.{◌∙◌, ap, sym}
use Rattle.las_info.specs.Extents.{extents_with}
use Rattle.las_info.proofs.Widening.{one_more_extends}
use Rattle.las_info.proofs.summary.Summary.add.Goals as goal

pub returns : goal.returns
returns c records is =
    let seen = c.self.view_is ∙ is in
    λ i. record {
      counts = c.count_in.ensures.list records (ap (λ s. s.counts) seen) i;
      extents = (
          c.extended.ensures ∙ ap (λ s. extents_with s.extents c.args.point.now) seen
          ∙ sym (one_more_extends records c.args.point.now)
          ) i;
    }
