use Rattle.std.proofs.Common.{◌≡◌, ◌+◌, ◌%◌, ◌/◌, ◌≤◌, ◌∙◌, ℕ, subst}
use Rattle.std.proofs.lemmas.Bool.{leb-true}
use Rattle.las_split.proofs.Runs.{in_one}
use Rattle.las_split.proofs.running.lie_in.Goals as goal

pub returns-then-index-each : goal.returns-then-index-each
returns-then-index-each c holds k lt =
    let each = c.from-each.result in
    let within : c.args.index % each + c.args.count ≤ each = leb-true (c.args.index % each + c.args.count) each holds in
    subst (λ (m : ℕ). (c.args.index + k) / m ≡ c.args.number) c.from-each.ensures
    (in_one each c.args.index c.args.count c.args.number k (c.if-index-each.true ∙ c.from.ensures) within lt)
