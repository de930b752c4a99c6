use Rattle.std.proofs.Common.{◌≤◌, ◌∙◌, ap, arith}
use Rattle.laz_integer.specs.Corrector.{width_of, corrector_index}
use Rattle.laz_integer.specs.Models.{state_of}
use Rattle.laz_integer.proofs.Spellings.{IsWritten, written-codes, written-stands, written-spells, corrected-is, int-used, int-short, difference-passed, word_of}
use Rattle.laz_integer.proofs.int_model.IntModel.code_of.Goals as goal

pub returns-clause-events : goal.returns-clause-events
returns-clause-events c kind earlier h =
    let st = state_of c.self.inside.models in
    let bits = rw (← c.self.view_is) at c.requires.bits in
    let split = rw bits at c.split-k.ensures in
    let d = difference-passed st.bits c.args.pred c.args.real _ c.ranges.pred c.ranges.real (rw bits at c.between.ensures.difference) in
    let written : IsWritten st.bits c.args.pred c.args.real c.split-k.result.0 c.split-k.result.1 = (split.width ∙ ap (λ n. width_of st.bits n) d, split.index ∙ ap (λ n. corrector_index st.bits n c.split-k.result.0) d) in
    rw (← c.self.view_is) (written-codes kind earlier st c.args.ctx c.args.pred c.args.real c.split-k.result.0 c.split-k.result.1 _ _ c.self.invariant (rw (← c.self.view_is) at c.requires.context) split.digits split.value (rw (← c.self.view_is) at h) written c.put.ensures.codes)

pub returns-clause-stands : goal.returns-clause-stands
returns-clause-stands c kind earlier h =
    let st = state_of c.self.inside.models in
    let bits = rw (← c.self.view_is) at c.requires.bits in
    let split = rw bits at c.split-k.ensures in
    let d = difference-passed st.bits c.args.pred c.args.real _ c.ranges.pred c.ranges.real (rw bits at c.between.ensures.difference) in
    let written : IsWritten st.bits c.args.pred c.args.real c.split-k.result.0 c.split-k.result.1 = (split.width ∙ ap (λ n. width_of st.bits n) d, split.index ∙ ap (λ n. corrector_index st.bits n c.split-k.result.0) d) in
    rw (← c.self.view_is) (written-stands kind earlier st (state_of c.put.new.models) c.args.ctx c.args.pred c.args.real c.split-k.result.0 c.split-k.result.1 c.self.invariant (rw (← c.self.view_is) at c.requires.context) split.digits split.value (rw (← c.self.view_is) at h) written c.put.ensures.next)

pub returns-clause-spells : goal.returns-clause-spells
returns-clause-spells c kind =
    let st = state_of c.self.inside.models in
    let bits = rw (← c.self.view_is) at c.requires.bits in
    let split = rw bits at c.split-k.ensures in
    let d = difference-passed st.bits c.args.pred c.args.real _ c.ranges.pred c.ranges.real (rw bits at c.between.ensures.difference) in
    let written : IsWritten st.bits c.args.pred c.args.real c.split-k.result.0 c.split-k.result.1 = (split.width ∙ ap (λ n. width_of st.bits n) d, split.index ∙ ap (λ n. corrector_index st.bits n c.split-k.result.0) d) in
    let makes = corrected-is st.bits c.args.pred c.args.real c.split-k.result.0 c.split-k.result.1 c.self.invariant.few c.ranges.real (word_of c.args.pred c.ranges.pred) (rw (← c.self.view_is) at c.requires.real) (split.makes ∙ d) in
    rw (← c.self.view_is) (written-spells kind st.bits c.args.ctx c.args.pred c.args.real c.split-k.result.0 c.split-k.result.1 split.digits split.value written makes)

pub returns-clause-used : goal.returns-clause-used
returns-clause-used c =
    let bits = rw (← c.self.view_is) at c.requires.bits in
    int-used (state_of c.self.inside.models) c.args.ctx c.split-k.result.0 c.split-k.result.1 _ _ (omega (arith, bits, c.split-k.ensures.digits, c.self.invariant.few)) c.put.ensures.codes

pub returns-clause-short : goal.returns-clause-short
returns-clause-short c few =
    let bits = rw (← c.self.view_is) at c.requires.bits in
    let short : c.self.inside.models.bits ≤ 27 = rw (← c.self.view_is) at few in
    int-short (state_of c.self.inside.models) c.args.ctx c.split-k.result.0 c.split-k.result.1 _ _ (omega (arith, bits, c.split-k.ensures.digits, short)) c.put.ensures.codes

pub between-requires-clause-some : goal.between-requires-clause-some
between-requires-clause-some c =
    let bits = rw (← c.self.view_is) at c.requires.bits in
    omega (arith, bits, c.self.invariant.some)

pub between-requires-clause-few : goal.between-requires-clause-few
between-requires-clause-few c =
    let bits = rw (← c.self.view_is) at c.requires.bits in
    omega (arith, bits, c.self.invariant.few)

pub split-k-requires-clause-some : goal.split-k-requires-clause-some
split-k-requires-clause-some c =
    let bits = rw (← c.self.view_is) at c.requires.bits in
    omega (arith, bits, c.self.invariant.some)

pub split-k-requires-clause-few : goal.split-k-requires-clause-few
split-k-requires-clause-few c =
    let bits = rw (← c.self.view_is) at c.requires.bits in
    omega (arith, bits, c.self.invariant.few)
