use Rattle.std.proofs.Common.{◌≡◌, ◌∙◌, sym, ap, sum, arith}
use Rattle.std.proofs.lemmas.List.{take_at}
use Rattle.laz_models.specs.Counting.{halves_of}
use Rattle.laz_models.specs.Place.{counts_in}
use Rattle.laz_models.proofs.Parts.{small_counts-small, small_counts-large, AreCounts-halves_of, sum-halves_of-le}
use Rattle.laz_models.proofs.model_cells.limit_counts.Goals as goal

pub returns-then-total-le-MAX_COUNT-clause-small_counts : goal.returns-then-total-le-MAX_COUNT-clause-small_counts
returns-then-total-le-MAX_COUNT-clause-small_counts c = sym (small_counts-small (counts_in c.args.size c.args.cells.now) (omega (arith, c.requires.total)))

pub total_of-requires : goal.total_of-requires
total_of-requires c =
    let counts = counts_in c.args.size c.args.cells.now in
    let halves : c.halve.new.counts ≡ halves_of counts = c.halve.ensures ∙ ap halves_of c.split_at_mut-counts.ensures.front in
    rw halves (omega (arith, sum-halves_of-le counts c.requires.counts (omega (arith, c.requires.total))))

pub returns-clause-small_counts : goal.returns-clause-small_counts
returns-clause-small_counts c =
    let counts = counts_in c.args.size c.args.cells.now in
    let halves : c.halve.new.counts ≡ halves_of counts = c.halve.ensures ∙ ap halves_of c.split_at_mut-counts.ensures.front in
    take_at c.halve.new.counts c.split_at_mut-counts.result.1.now c.args.size (c.halve.auto.counts ∙ c.split_at_mut-counts.ensures.front_len)
    ∙ (halves ∙ sym (small_counts-large counts (omega (arith, c.requires.total))))

pub returns-clause-good : goal.returns-clause-good
returns-clause-good c =
    let counts = counts_in c.args.size c.args.cells.now in
    let halves : c.halve.new.counts ≡ halves_of counts = c.halve.ensures ∙ ap halves_of c.split_at_mut-counts.ensures.front in
    rw (take_at c.halve.new.counts c.split_at_mut-counts.result.1.now c.args.size (c.halve.auto.counts ∙ c.split_at_mut-counts.ensures.front_len), halves)
    (AreCounts-halves_of counts c.requires.counts)

pub returns-clause-total : goal.returns-clause-total
returns-clause-total c =
    c.total_of.ensures ∙ ap sum (sym (take_at c.halve.new.counts c.split_at_mut-counts.result.1.now c.args.size (c.halve.auto.counts ∙ c.split_at_mut-counts.ensures.front_len)))

pub returns-clause-small : goal.returns-clause-small
returns-clause-small c =
    let counts = counts_in c.args.size c.args.cells.now in
    let halves : c.halve.new.counts ≡ halves_of counts = c.halve.ensures ∙ ap halves_of c.split_at_mut-counts.ensures.front in
    rw (c.total_of.ensures, halves) (sum-halves_of-le counts c.requires.counts (omega (arith, c.requires.total)))
