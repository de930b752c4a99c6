use Rattle.std.proofs.Common.{ℕ, ◌*◌, ◌≤◌, List, All, length, sym, ap, ◌∙◌, subst, arith}
use Rattle.laz_workers.specs.Numbers.{HoldsBelow}
use Rattle.laz_workers.specs.Rooms.{HandSeen, numbers_in, rooms_of, lengths_of}
use Rattle.laz_workers.specs.Work.{HoldsAnswer, texts}
use Rattle.laz_workers.specs.Run.{under}
use Rattle.laz_workers.proofs.Spread.{ready_all, holds_all, settled_all, lengths_all, suited_all, answered_all}
use Rattle.laz_workers.proofs.Finish.{matched_all, numbers_all}
use Rattle.laz_workers.proofs.run.work_all.Goals as goal

pub fan_out-requires-clause-ready : goal.fan_out-requires-clause-ready
fan_out-requires-clause-ready g c κs within =
    let count = sym c.args.passes.now.ok.0 ∙ c.requires.passes.0 in
    let job = c.args.job.now in
    ready_all c.args.claims.now (g.J.Job.fits job) (g.J.Job.answer job) (texts c.args.inputs.now) (g.J.Job.suits job) c.args.hands.now c.equip_all.new.hands c.args.passes.now.items count c.equip_all.auto.hands c.requires.passes.1 c.equip_all.ensures.hands c.requires.fits c.requires.suits

pub join_all-requires-clause-passes : goal.join_all-requires-clause-passes
join_all-requires-clause-passes g c =
    let count = sym c.args.passes.now.ok.0 ∙ c.requires.passes.0 in
    let job = c.args.job.now in
    holds_all c.args.claims.now (g.J.Job.fits job) (g.J.Job.answer job) (texts c.args.inputs.now) (g.J.Job.suits job) c.args.hands.now c.equip_all.new.hands c.args.passes.now.items count c.equip_all.auto.hands c.requires.passes.1 c.equip_all.ensures.hands c.fan_out.new.hands c.fan_out.auto.hands c.fan_out.ensures

pub returns : goal.returns
returns g c =
    let job = c.args.job.now in
    let claims = c.args.claims.now in
    let fits = g.J.Job.fits job in
    let answer = g.J.Job.answer job in
    let inputs = texts c.args.inputs.now in
    let suits = g.J.Job.suits job in
    let before = c.args.hands.now in
    let dealt = c.equip_all.new.hands in
    let worked = c.fan_out.new.hands in
    let passes = c.args.passes.now.items in
    let count = sym c.args.passes.now.ok.0 ∙ c.requires.passes.0 in
    let same = c.equip_all.auto.hands in
    let same' = c.fan_out.auto.hands in
    let from = c.requires.passes.1 in
    let deals = c.equip_all.ensures.hands in
    let works = c.fan_out.ensures in
    let shows = c.join_all.ensures.hands in
    let drew = c.join_all.ensures.drawn in
    let settled = settled_all claims fits answer inputs suits before dealt passes count same from deals worked same' works in
    let few : claims.total ≤ 2 * length worked = omega (arith, c.requires.inputs.0, c.requires.inputs.1, same, same') in
    let P : List (HandSeen g.row.J-Space.Denot) → Type 0 = λ l. All (λ h. suits h.space) l in
    let Q : List (HandSeen g.row.J-Space.Denot) → Type 0 = λ l. All (HoldsAnswer answer inputs) (rooms_of l) in
    let R : List (HandSeen g.row.J-Space.Denot) → Type 0 = λ l. HoldsBelow claims.total (numbers_in (rooms_of l)) in
    let word = c.join_all.ensures.whole in
    let W : List ℕ → Type 0 = λ l. HoldsBelow word.0 l in
    record {
      lengths = ap (λ (l : List (HandSeen g.row.J-Space.Denot)). lengths_of (rooms_of l)) shows ∙ lengths_all claims fits answer inputs suits before dealt passes count same from deals worked same' works;
      suits = subst P (sym shows) (suited_all claims fits answer inputs suits before dealt passes count same from deals worked same' works);
      answers = subst Q (sym shows) (answered_all claims fits answer inputs suits before dealt passes count same from deals worked same' works);
      numbers = subst R (sym shows) (numbers_all claims.total worked settled few word.0 (subst W drew word.1));
      joined =
          record {
            own = c.join_all.ensures.opening.0;
            opens = c.join_all.ensures.opening.1;
            out = c.join_all.ensures.opening.2;
            drawn = ap (under claims.total) drew ∙ (matched_all claims.total worked settled ∙ ap (λ l. numbers_in (rooms_of l)) (sym shows));
            whole = word;
          };
      passes = c.equip_all.ensures.passes;
    }
