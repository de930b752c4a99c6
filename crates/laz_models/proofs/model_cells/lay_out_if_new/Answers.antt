use Rattle.std.proofs.Common.{◌∙◌, sym, arith}
use Rattle.laz_models.proofs.Models.{counting_of-first, counting_of-laid}
use Rattle.laz_models.proofs.model_cells.lay_out_if_new.Goals as goal

pub returns-then-place-eq0-clause-state : goal.returns-then-place-eq0-clause-state
returns-then-place-eq0-clause-state c = c.lay_out.ensures.new_model ∙ sym (counting_of-first c.args.place.now c.args.cells.now c.if-place-eq0.true)

pub returns-else-place-eq0-clause-state : goal.returns-else-place-eq0-clause-state
returns-else-place-eq0-clause-state c = sym (counting_of-laid c.args.place.now c.args.cells.now (omega arith))
