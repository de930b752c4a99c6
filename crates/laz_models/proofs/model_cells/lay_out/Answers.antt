use Rattle.std.proofs.Common.{refl, arith}
use Rattle.laz_models.specs.Counting.{new_model}
use Rattle.laz_models.proofs.Models.{first-AreStarts}
use Rattle.laz_models.proofs.Parts.{AreCounts-ones, sum-ones}
use Rattle.laz_models.proofs.model_cells.lay_out.Goals as goal

pub returns-clause-new_model : goal.returns-clause-new_model
unfolding new_model
returns-clause-new_model c = rw (c.fill_ones.ensures, c.requires.even) refl

pub returns-clause-good : goal.returns-clause-good
returns-clause-good c =
    let n = c.args.place.now.size in
    let shape = c.requires.shape in
    record {
      counts = rw c.fill_ones.ensures (AreCounts-ones n shape.many shape.few);
      starts = rw c.requires.even (first-AreStarts n shape.many shape.few);
      own = λ e. absurd (cc (c.requires.even, e));
      dist = rw c.requires.even c.requires.dist;
      table = λ _ e. absurd (cc (c.requires.even, e));
      total = omega (arith, shape.few);
      sum = rw c.fill_ones.ensures (omega (arith, sum-ones n));
      remaining = omega arith;
      within = omega arith;
      four = omega (arith, shape.many);
      cycle = omega arith;
    }
