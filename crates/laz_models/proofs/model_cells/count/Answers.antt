use Rattle.std.proofs.Common.{◌∙◌, ap, arith}
use Rattle.laz_models.specs.Counting.{after_symbol}
use Rattle.laz_models.proofs.Models.{counting_of-laid}
use Rattle.laz_models.proofs.model_cells.count.Goals as goal

pub returns-clause-after_symbol : goal.returns-clause-after_symbol
returns-clause-after_symbol c =
    counting_of-laid c.add.new.place c.add.new.cells (omega (arith, c.add.ensures.good.remaining))
    ∙ (c.add.ensures.after_symbol ∙ ap (λ m. after_symbol m c.args.s) c.lay_out_if_new.ensures.state)
