use Rattle.std.proofs.Common.{◌∙◌, ap}
use Rattle.laz_models.specs.Counting.{after_symbol}
use Rattle.laz_models.proofs.Banks.{append-stays}
use Rattle.laz_models.proofs.bank_cells.count_at_cycle_end.Goals as goal

pub returns-clause-after_symbol : goal.returns-clause-after_symbol
returns-clause-after_symbol c =
    let stays = append-stays c.args.place.now c.args.cells.now.items _ c.requires.placed in
    c.count_within.ensures.after_symbol ∙ ap (λ m. after_symbol m c.args.s) (rw c.lengthen.ensures.items stays.counting)
