use Rattle.std.proofs.Common.{◌+◌, ◌/◌, sym, eqb}
use Rattle.std.proofs.lemmas.Bool.{cond-true, cond-false, eq-eqb, ne_eqb}
use Rattle.laz_models.proofs.BitParts.{small_bit_counts-small, small_bit_counts-large}
use Rattle.laz_models.proofs.bit_model.small_bit_counts.Goals as goal

pub returns-then-count-le-MAX_BIT_COUNT-clause-small_bit_counts : goal.returns-then-count-le-MAX_BIT_COUNT-clause-small_bit_counts
returns-then-count-le-MAX_BIT_COUNT-clause-small_bit_counts c = sym (small_bit_counts-small c.args.zeros c.args.count c.if-count-le-MAX_BIT_COUNT.true)

pub returns-then-zeros-half-clause-small_bit_counts : goal.returns-then-zeros-half-clause-small_bit_counts
returns-then-zeros-half-clause-small_bit_counts c =
    sym (small_bit_counts-large c.args.zeros c.args.count _ c.if-count-le-MAX_BIT_COUNT.false (sym (cond-true (eqb ((c.args.zeros + 1) / 2) ((c.args.count + 1) / 2)) _ _ (eq-eqb _ _ c.if-zeros-half.true))))

pub returns-clause-small_bit_counts : goal.returns-clause-small_bit_counts
returns-clause-small_bit_counts c =
    sym (small_bit_counts-large c.args.zeros c.args.count _ c.if-count-le-MAX_BIT_COUNT.false (sym (cond-false (eqb ((c.args.zeros + 1) / 2) ((c.args.count + 1) / 2)) _ _ (ne_eqb _ _ c.if-zeros-half.false))))
