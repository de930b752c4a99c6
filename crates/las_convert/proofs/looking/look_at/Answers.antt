use Rattle.std.proofs.Common.{◌<◌, [], ℕ, List, OnOk, Option, sym, ◌∙◌, subst}
use Rattle.std.specs.Prelude.{IfSome}
use Rattle.las_filter.specs.Kept.{steps_of}
use Rattle.las_thin.specs.Kept.{passing}
use Rattle.las_thin.specs.Placed.{Placed}
use Rattle.las_thin.specs.Sieving.{HasSifted}
use Rattle.las_convert.proofs.Passing.{last_passed, passing_dropped, passing_more}
use Rattle.las_convert.proofs.looking.look_at.Goals as goal

pub look-requires-clause-above : goal.look-requires-clause-above
look-requires-clause-above c =
    let a = c.requires.looked in
    subst (λ (o : Option ℕ). IfSome o (λ last. last < c.args.place)) (sym a.2.last_looked) (last_passed (steps_of c.args.plan.now) a.0 c.args.place a.1)

pub returns-then-keeps-clause-stands : goal.returns-then-keeps-clause-stands
returns-then-keeps-clause-stands c before is stands =
    let plan = steps_of c.args.plan.now in
    subst (λ (records : List Placed). OnOk c.look.result (HasSifted records [] c.look.new.self)) (sym (passing_more plan before c.args.point.now c.args.place (sym c.keeps.ensures ∙ c.if-keeps.true) is)) (c.look.ensures.stands (passing plan before) [] stands)

pub returns-clause-stands : goal.returns-clause-stands
returns-clause-stands c before is stands =
    let plan = steps_of c.args.plan.now in
    subst (λ (records : List Placed). HasSifted records [] c.args.sieve.now) (sym (passing_dropped plan before c.args.point.now (sym c.keeps.ensures ∙ c.if-keeps.false))) stands
