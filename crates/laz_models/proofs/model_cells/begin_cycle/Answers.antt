use Rattle.std.proofs.Common.{◌≡◌, ◌∙◌, ap, refl, length, arith}
use Rattle.std.proofs.lemmas.List.{length-take-le}
use Rattle.laz_models.specs.Counting.{small_counts, new_cycle, starts_of, next_cycle}
use Rattle.laz_models.specs.Place.{counts_in, dist_in, starts_in}
use Rattle.laz_models.proofs.model_cells.begin_cycle.Goals as goal

pub returns-clause-new_cycle : goal.returns-clause-new_cycle
unfolding new_cycle
returns-clause-new_cycle c =
    let n = c.args.place.now.size in
    let counts : counts_in n c.write_distribution.new.cells ≡ small_counts (counts_in n c.args.cells.now) = c.write_distribution.ensures.counts ∙ c.limit_counts-place.ensures.small_counts in
    let starts : starts_in n (dist_in n c.write_distribution.new.cells) ≡ starts_of (small_counts (counts_in n c.args.cells.now)) = c.write_distribution.ensures.starts ∙ ap starts_of c.limit_counts-place.ensures.small_counts in
    let size : length (counts_in n c.args.cells.now) ≡ n = length-take-le n c.args.cells.now (omega (arith, c.requires.length)) in
    let cycle : c.min-place.result ≡ next_cycle n c.args.place.now.cycle = omega (arith, c.min-place.ensures) in
    rw (counts, starts, cycle, size) refl
