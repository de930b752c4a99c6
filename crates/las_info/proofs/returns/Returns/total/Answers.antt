use Rattle.std.proofs.Common.{◌≡◌, ◌^◌, ◌<◌, ℕ, List, All, drop, length, ◌∙◌, ap, sym, subst, arith}
use Rattle.las_info.proofs.Parts.{but_first, length-sums, sums, sums_fit}
use Rattle.las_info.proofs.returns.Returns.total.Goals as goal

pub overflow_add-a : goal.overflow_add-a
overflow_add-a c =
    sums_fit c.self.inside.first c.self.inside.second
    (subst (λ (s : List ℕ). All (λ n. n < 2 ^ 32) s) (sym c.self.view_is) c.requires)

pub returns : goal.returns
returns c =
    let first = c.self.inside.first in
    let second = c.self.inside.second in
    let same : length first ≡ length second = omega arith in
    but_first (sums first second) (omega (arith, length-sums first second same)) ∙ ap (λ (s : List ℕ). drop 1 s) c.self.view_is
