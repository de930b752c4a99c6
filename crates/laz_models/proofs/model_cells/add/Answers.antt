use Rattle.std.proofs.Common.{◌∙◌, sym, ap, arith}
use Rattle.laz_models.specs.Counting.{new_cycle}
use Rattle.laz_models.specs.Place.{laid_state}
use Rattle.laz_models.proofs.Parts.{after_symbol-last}
use Rattle.laz_models.proofs.Models.{adds, bumps, count-fits}
use Rattle.laz_models.proofs.model_cells.add.Goals as goal

pub overflow_add-cells : goal.overflow_add-cells
overflow_add-cells c = omega (arith, count-fits c.args.place.now c.args.cells.now c.args.s c.requires.laid c.requires.shape.few (omega (arith, c.requires.length)) c.requires.symbol)

pub begin_cycle-requires-clause-due : goal.begin_cycle-requires-clause-due
begin_cycle-requires-clause-due c =
    let b = bumps c.args.place.now.size c.args.s c.args.cells.now c.requires.symbol (omega (arith, c.requires.length)) in
    record {
      counts = b.good c.requires.laid.counts;
      total = c.requires.laid.total;
      sum = omega (arith, b.sum, c.requires.laid.sum, c.requires.laid.remaining, c.if-place-eq0.true);
      four = c.requires.laid.four;
      cycle = c.requires.laid.cycle;
    }

pub returns-then-place-eq0-clause-after_symbol : goal.returns-then-place-eq0-clause-after_symbol
returns-then-place-eq0-clause-after_symbol c =
    let b = bumps c.args.place.now.size c.args.s c.args.cells.now c.requires.symbol (omega (arith, c.requires.length)) in
    c.begin_cycle.ensures.new_cycle
    ∙ (ap (λ counts. new_cycle counts c.args.place.now.cycle) b.counts
    ∙ sym (after_symbol-last (laid_state c.args.place.now c.args.cells.now) c.args.s (omega (arith, c.if-place-eq0.true, c.requires.laid.remaining))))

pub returns-else-place-eq0-clause-after_symbol : goal.returns-else-place-eq0-clause-after_symbol
returns-else-place-eq0-clause-after_symbol c =
    (adds c.args.place.now c.args.cells.now c.args.s c.requires.laid (omega (arith, c.requires.length)) c.requires.symbol (omega (arith, c.if-place-eq0.false))).after_symbol

pub returns-else-place-eq0-clause-good : goal.returns-else-place-eq0-clause-good
returns-else-place-eq0-clause-good c =
    (adds c.args.place.now c.args.cells.now c.args.s c.requires.laid (omega (arith, c.requires.length)) c.requires.symbol (omega (arith, c.if-place-eq0.false))).laid
