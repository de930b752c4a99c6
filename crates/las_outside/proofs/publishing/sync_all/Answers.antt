use Rattle.std.proofs.Common.{◌≡◌, ◌∙◌, ap, ℕ, arith}
use Rattle.las_outside.specs.Drafting.{Drafting}
use Rattle.las_outside.proofs.publishing.sync_all.Goals as goal

pub returns-clause-ok : goal.returns-clause-ok
returns-clause-ok g c =
    let all : c.loop-number.number ≡ c.args.drafts.now.begun =
    omega (arith, c.loop-number-test.false, c.loop-number.auto.number-end, c.len-number-end.ensures, c.synced-number.ensures.value, c.synced-number.ensures.within) in
    c.loop-number.invariant ∙ ap (λ (n : ℕ). let d : Drafting = record c.args.drafts.now { synced = n } in d) all
