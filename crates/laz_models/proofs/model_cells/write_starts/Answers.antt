use Rattle.std.proofs.Common.{ℕ, ◌≤◌, ◌∙◌, length, sum, take, arith}
use Rattle.std.proofs.lemmas.List.Sums.{sum_by-take-le}
use Rattle.std.proofs.lemmas.List.FromFn.{fill_by_all}
use Rattle.laz_models.specs.Counting.{starts_of, part_start}
use Rattle.laz_models.proofs.Parts.{unit-fits}
use Rattle.laz_models.proofs.model_cells.write_starts.Goals as goal

pub overflow_mul-starts : goal.overflow_mul-starts
overflow_mul-starts c =
    let counts = c.args.counts.now in
    let part : sum (take c.loop-i.i counts) ≤ sum counts = sum_by-take-le (λ (x : ℕ). x) counts c.loop-i.i in
    omega (arith, unit-fits c.args.total c.loop-i.below c.requires.some (omega (arith, c.loop-i.invariant.0, c.requires.total)))

pub returns : goal.returns
unfolding starts_of
returns c =
    let counts = c.args.counts.now in
    fill_by_all (part_start counts) c.loop-i.starts (length counts) 0 (c.loop-i.auto.starts ∙ c.requires.lengths)
    (λ k h. c.loop-i.invariant.1 k (omega (arith, h)))
