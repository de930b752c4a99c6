use Rattle.std.proofs.Common.{◌<◌, ℕ, List, OnOk, Option, sym, ◌∙◌, subst}
use Rattle.std.specs.Prelude.{IfSome}
use Rattle.las_filter.specs.Kept.{steps_of}
use Rattle.las_thin.specs.Placed.{Placed}
use Rattle.las_thin.specs.Sieving.{HasSifted}
use Rattle.las_convert.proofs.Passing.{last_passed, passing_dropped, passing_more}
use Rattle.las_convert.proofs.keeping.passes.Goals as goal

pub passes-requires-clause-above : goal.passes-requires-clause-above
passes-requires-clause-above c =
    let a = c.requires.asked in
    subst (λ (o : Option ℕ). IfSome o (λ last. last < c.args.place)) (sym a.3.last_asked) (last_passed (steps_of c.args.plan.now) a.1 c.args.place a.2)

pub returns-then-keeps-clause-stands : goal.returns-then-keeps-clause-stands
returns-then-keeps-clause-stands c looked before is stands =
    let plan = steps_of c.args.plan.now in
    subst (λ (records : List Placed). OnOk c.passes.result (HasSifted looked records c.passes.new.self)) (sym (passing_more plan before c.args.point.now c.args.place (sym c.keeps.ensures ∙ c.if-keeps.true) is)) (c.passes.ensures.stands looked _ stands)

pub returns-clause-stands : goal.returns-clause-stands
returns-clause-stands c looked before is stands =
    let plan = steps_of c.args.plan.now in
    subst (λ (records : List Placed). HasSifted looked records c.args.sieve.now) (sym (passing_dropped plan before c.args.point.now (sym c.keeps.ensures ∙ c.if-keeps.false))) stands
