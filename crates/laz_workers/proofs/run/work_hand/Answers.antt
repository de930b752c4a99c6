use Rattle.std.proofs.Common.{◌≡◌, true, false, Some, length, sym, ap, ◌∙◌, subst, rules}
use Rattle.laz_workers.specs.declared.hand.Hand.{Hand}
use Rattle.laz_workers.specs.Seen.{PassSeen}
use Rattle.laz_workers.specs.Work.{texts}
use Rattle.laz_workers.specs.Run.{Worked}
use Rattle.laz_workers.proofs.Working.{Filled, worked_one, worked_two}
use Rattle.laz_workers.proofs.run.work_hand.Goals as goal
use Rattle.laz_workers.proofs.run.work_hand.Goals.{then-not-is_spent, else-not-is_spent}

pub returns : goal.returns
returns g c =
    let old = c.args.hand.now in
    let claims = c.args.claims.now in
    let answer = g.J.Job.answer c.args.job.now in
    let inputs = texts c.args.inputs.now in
    let suits = g.J.Job.suits c.args.job.now in
    let p = c.in-Some.pass in
    let held : old.pass ≡ Some p = cc in
    let same : p ≡ c.requires.ready.pass = cc in
    let own : p.claims ≡ claims = ap (λ (x : PassSeen). x.claims) same ∙ c.requires.ready.own in
    let P : Hand g.row.J-Space.Denot × PassSeen → Type 0 =
    λ x. Worked claims answer inputs suits old (record { space = x.0.space; first = x.0.first; second = x.0.second; pass = Some x.1 }) in
    let e = c.fill.ensures in
    let f : Filled claims answer inputs p c.fill.new.pass (length old.first.bytes) c.fill.new.room =
    record { number = e.drawn.0; drew = e.drawn.1; stands = e.drawn.2; answered = e.answered; sized = e.size } in
    elim c.if-not-is_spent.branch [
      | then-not-is_spent w ↦
          let d = w.fill-then-not-is_spent in
          let h : Filled claims answer inputs c.fill.new.pass d.new.pass (length old.second.bytes) d.new.room =
          record { number = d.ensures.drawn.0; drew = d.ensures.drawn.1; stands = d.ensures.drawn.2; answered = d.ensures.answered; sized = d.ensures.size } in
          let unspent : c.fill.new.pass.spent ≡ false = search rules in
          subst P (λ i. (sym w.hand-is i, sym w.pass-is i)) (worked_two claims answer inputs suits old p held own c.fill.new.pass d.new.pass d.new.space c.fill.new.room d.new.room f h d.ensures.suits unspent)
      | else-not-is_spent w ↦
          let spent : c.fill.new.pass.spent ≡ true = search rules in
          subst P (λ i. (sym w.hand-is i, sym w.pass-is i)) (worked_one claims answer inputs suits old p held own c.fill.new.pass c.fill.new.space c.fill.new.room f e.suits spent c.requires.ready.second_empty)
    ]
