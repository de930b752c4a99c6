use Rattle.std.proofs.Common.{ℕ, List, ap, ◌∙◌, subst, arith}
use Rattle.laz_workers.specs.Numbers.{HoldsBelow}
use Rattle.laz_workers.proofs.Steps.{closes}
use Rattle.laz_workers.proofs.claims.Claims.close.Goals as goal

pub returns-clause-word : goal.returns-clause-word
returns-clause-word c =
    let P : List ℕ → Type 0 = λ l. HoldsBelow c.word-word.result l in
    let t = c.self.inside.table.shared in
    let s = c.pass.inside.seat in
    subst P (ap (λ x. x.drawn) c.pass.view_is)
    (closes t.key s.id s.me.0 _ _ c.word-word.result c.close_with-closed.ensures.values.2 c.word-word.ensures (ap (λ x. x.opens) c.pass.view_is ∙ c.requires.opening) (ap (λ x. x.out) c.pass.view_is ∙ c.requires.out)).0

pub returns-clause-bound : goal.returns-clause-bound
returns-clause-bound c =
    let t = c.self.inside.table.shared in
    let s = c.pass.inside.seat in
    omega (
      arith,
      (closes t.key s.id s.me.0 _ _ c.word-word.result c.close_with-closed.ensures.values.2 c.word-word.ensures (ap (λ x. x.opens) c.pass.view_is ∙ c.requires.opening) (ap (λ x. x.out) c.pass.view_is ∙ c.requires.out)).1,
      ap (λ x. x.total) c.self.view_is,
      ap (λ x. x.workers) c.self.view_is,
    )
