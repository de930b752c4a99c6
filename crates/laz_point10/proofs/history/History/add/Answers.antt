use Rattle.std.proofs.Common.{◌∷◌, sym, subst, arith, rules}
use Rattle.std.proofs.lemmas.Grind.{common_steps}
use Rattle.laz_point10.specs.declared.history.History.{History}
use Rattle.laz_point10.specs.Coded.{HistoryStands}
use Rattle.laz_point10.proofs.Histories.{HistoryStands-push, sorted-history}
use Rattle.laz_point10.proofs.history.History.add.Goals as goal

pub returns-clause-next : goal.returns-clause-next
returns-clause-next c = first_of (search rules, grind (arith, common_steps))

pub returns-clause-stands : goal.returns-clause-stands
returns-clause-stands c ps h =
    let sorted = sorted-history ps c.args.self.now h in
    subst (λ (m : History). HistoryStands (c.args.point.now ∷ ps) m) (sym (returns-clause-next c sorted.0 sorted.1)) (HistoryStands-push ps c.args.point.now c.args.self.now h)
