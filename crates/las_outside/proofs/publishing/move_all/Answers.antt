use Rattle.std.proofs.Common.{◌≡◌, ◌∙◌, ap, ℕ, arith}
use Rattle.las_outside.specs.Drafting.{Drafting}
use Rattle.las_outside.proofs.publishing.move_all.Goals as goal

pub returns-clause-ok : goal.returns-clause-ok
returns-clause-ok g c =
    let all : c.loop-number.number ≡ c.args.drafts.now.begun =
    omega (arith, c.loop-number-test.false, c.loop-number.auto.number-end, c.len-number-end.ensures, c.moved-number.ensures.value, c.moved-number.ensures.within, c.requires) in
    c.loop-number.invariant ∙ ap (λ (n : ℕ). let d : Drafting = record c.args.drafts.now { moved = n } in d) all
    ∙ ap (λ (n : ℕ). let d : Drafting = record c.args.drafts.now { synced = n; moved = c.args.drafts.now.begun } in d) c.requires
