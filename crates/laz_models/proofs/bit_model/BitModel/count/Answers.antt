use Rattle.std.proofs.Common.{◌≡◌, ◌+◌, ◌-◌, ◌∙◌, ap, sym}
use Rattle.laz_models.specs.BitCounting.{new_bit_cycle, zeros_with}
use Rattle.laz_models.proofs.BitParts.{after_bit-last, after_bit-more}
use Rattle.laz_models.proofs.BitStand.{BitStandsFor-push}
use Rattle.laz_models.proofs.bit_model.BitModel.count.Goals as goal
use Rattle.laz_models.proofs.bit_model.BitModel.count.Goals.{then-bit, else-bit}

pub returns-then-self-eq1-clause-after_symbol : goal.returns-then-self-eq1-clause-after_symbol
returns-then-self-eq1-clause-after_symbol c =
    let old = c.self.inside in
    let zeros : c.if-bit.zeros ≡ zeros_with old.zeros c.args.bit =
    elim c.if-bit.branch [ then-bit w ↦ w.zeros-is ∙ ap (zeros_with old.zeros) (sym w.if-bit.true) | else-bit w ↦ w.zeros-is ∙ ap (zeros_with old.zeros) (sym w.if-bit.false) ] in
    c.self-then-self-eq1.view_is ∙ (c.new_bit_cycle.ensures ∙ (ap (λ z. new_bit_cycle z (old.count + old.cycle) old.cycle) zeros
    ∙ rw (← c.self.view_is) (sym (after_bit-last (record { zeros = old.zeros; count = old.count; p0 = old.p0; cycle = old.cycle; remaining = old.remaining }) c.args.bit c.if-self-eq1.true))))

pub returns-else-self-eq1-clause-after_symbol : goal.returns-else-self-eq1-clause-after_symbol
returns-else-self-eq1-clause-after_symbol c =
    let old = c.self.inside in
    let zeros : c.if-bit.zeros ≡ zeros_with old.zeros c.args.bit =
    elim c.if-bit.branch [ then-bit w ↦ w.zeros-is ∙ ap (zeros_with old.zeros) (sym w.if-bit.true) | else-bit w ↦ w.zeros-is ∙ ap (zeros_with old.zeros) (sym w.if-bit.false) ] in
    ap (λ z. record { zeros = z; count = old.count; p0 = old.p0; cycle = old.cycle; remaining = old.remaining - 1 }) zeros
    ∙ rw (← c.self.view_is) (sym (after_bit-more (record { zeros = old.zeros; count = old.count; p0 = old.p0; cycle = old.cycle; remaining = old.remaining }) c.args.bit c.if-self-eq1.false))

pub returns-then-self-eq1-clause-stands : goal.returns-then-self-eq1-clause-stands
returns-then-self-eq1-clause-stands c = λ h stands. rw (returns-then-self-eq1-clause-after_symbol c) (BitStandsFor-push h c.args.bit c.args.self.now stands)

pub returns-else-self-eq1-clause-stands : goal.returns-else-self-eq1-clause-stands
returns-else-self-eq1-clause-stands c = λ h stands. rw (returns-else-self-eq1-clause-after_symbol c) (BitStandsFor-push h c.args.bit c.args.self.now stands)
