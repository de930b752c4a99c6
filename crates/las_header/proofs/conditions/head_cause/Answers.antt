use Rattle.std.proofs.Common.{arith, sym, ◌∙◌}
use Rattle.las_header.proofs.CauseLemmas.{points_fit}
use Rattle.las_header.proofs.conditions.head_cause.Goals as goal

pub ends_early-requires-clause-points : goal.ends_early-requires-clause-points
ends_early-requires-clause-points c =
    points_fit c.args.head.now (λ k. omega (arith, c.type_inv.head k)) (sym c.has_bad_counts.ensures ∙ c.if-has_bad_counts.false)

pub goes_on-requires-clause-points : goal.goes_on-requires-clause-points
goes_on-requires-clause-points c =
    points_fit c.args.head.now (λ k. omega (arith, c.type_inv.head k)) (sym c.has_bad_counts.ensures ∙ c.if-has_bad_counts.false)

pub returns-clause-points : goal.returns-clause-points
returns-clause-points c =
    λ is. points_fit c.args.head.now (λ k. omega (arith, c.type_inv.head k)) (sym c.has_bad_counts.ensures ∙ c.if-has_bad_counts.false)
