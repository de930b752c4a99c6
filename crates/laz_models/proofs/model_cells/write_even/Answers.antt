use Rattle.std.proofs.Common.{◌∙◌, ap, refl, arith}
use Rattle.laz_models.specs.Counting.{starts_of}
use Rattle.laz_models.proofs.Lookups.{search_bits-bounds}
use Rattle.laz_models.proofs.model_cells.write_even.Goals as goal

pub overflow_sub-bits : goal.overflow_sub-bits
overflow_sub-bits c = omega (arith, c.requires.bits, search_bits-bounds c.args.size)

pub returns : goal.returns
returns c =
    record {
      whole = c.write_distribution.ensures.good;
      starts = c.write_distribution.ensures.starts ∙ ap starts_of c.fill_ones.ensures;
      table = rw c.requires.bits at (c.write_distribution.ensures.table refl);
    }
