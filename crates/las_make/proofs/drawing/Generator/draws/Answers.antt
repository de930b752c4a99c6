use Rattle.std.proofs.Common.{◌≡◌, ℕ, ◌+◌, refl}
use Rattle.las_make.specs.declared.drawing.Draws.{Draws}
use Rattle.las_make.specs.Drawing.{state_drawn}
use Rattle.las_make.proofs.Drawn.{Seven, all_drawn, seven_drawn, state_with, state_without, few_formats, many_formats}
use Rattle.las_make.proofs.drawing.Generator.draws.Goals.{After-draw-class}
use Rattle.las_make.proofs.drawing.Generator.draws.Goals as goal

-- what stands when the seven numbers were drawn
module _ (c : After-draw-class) where
  abbrev drawn : (colours : ℕ) → Draws
  drawn colours = record {
    x = c.draw-x.result;
    y = c.draw-y.result;
    z = c.draw-z.result;
    intensity = c.draw-intensity.result;
    returns = c.draw-returns.result;
    number = c.draw-number.result;
    class = c.draw-class.result;
    colours = colours;
  }

  seven : (colours seed n : ℕ) → c.args.self.now.state ≡ state_drawn seed n
      → Seven seed n (drawn colours) c.draw-class.new.self.state
  seven colours seed n is = seven_drawn seed n _ _ _ _ _ _ _ c.draw-class.new.self.state (drawn colours) is
      c.draw-x.ensures c.draw-y.ensures c.draw-z.ensures c.draw-intensity.ensures c.draw-returns.ensures
      c.draw-number.ensures c.draw-class.ensures

pub returns-then-format-ge2-clause-numbers : goal.returns-then-format-ge2-clause-numbers
returns-then-format-ge2-clause-numbers c seed n is =
    let k = (goal.at.returns-then-format-ge2-clause-numbers c).After-draw-class in
    let s = seven k c.draw-colours.result seed n is in
    all_drawn c.args.format seed n c.draw-class.new.self.state (drawn k c.draw-colours.result) s
    (λ e. (c.draw-colours.ensures seed (n + 7) s.state_is).0)
    (λ e. let clash = many_formats c.args.format c.if-format-ge2.true in absurd (cc))

pub returns-then-format-ge2-clause-state : goal.returns-then-format-ge2-clause-state
returns-then-format-ge2-clause-state c seed n is =
    let k = (goal.at.returns-then-format-ge2-clause-state c).After-draw-class in
    state_with c.args.format seed n c.draw-class.new.self.state c.draw-colours.new.self.state c.if-format-ge2.true
    (seven k c.draw-colours.result seed n is).state_is (λ e. (c.draw-colours.ensures seed (n + 7) e).1)

pub returns-else-format-ge2-clause-numbers : goal.returns-else-format-ge2-clause-numbers
returns-else-format-ge2-clause-numbers c seed n is =
    let k = (goal.at.returns-else-format-ge2-clause-numbers c).After-draw-class in
    all_drawn c.args.format seed n c.draw-class.new.self.state (drawn k 0) (seven k 0 seed n is)
    (λ e. let clash = few_formats c.args.format c.if-format-ge2.false in absurd (cc)) (λ e. refl)

pub returns-else-format-ge2-clause-state : goal.returns-else-format-ge2-clause-state
returns-else-format-ge2-clause-state c seed n is =
    let k = (goal.at.returns-else-format-ge2-clause-state c).After-draw-class in
    state_without c.args.format seed n c.draw-class.new.self.state c.if-format-ge2.false
    (seven k 0 seed n is).state_is
