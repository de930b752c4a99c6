use Rattle.std.proofs.Common.{rules, ◌≡◌, ◌+◌, ◌-◌, ◌^◌, ◌<◌, ◌∙◌, ap, sym, get_or, set, length, arith, ℕ}
use Rattle.std.proofs.lemmas.List.{get_or_default}
use Rattle.las_info.specs.Tallies.{count_at, with_one}
use Rattle.las_info.proofs.Counting.{count-more}
use Rattle.las_info.proofs.Maps.{count-made, made-two}
use Rattle.las_info.proofs.tally.Counted.add_two.Goals as goal

pub overflow_add-count : goal.overflow_add-count
overflow_add-count c =
    let bin = c.args.first in
    let counts = c.self.inside.counts.items in
    let within : bin < length counts = search rules in
    let here : c.index.result.now ≡ get_or counts bin 0 = c.index.ensures ∙ get_or_default counts bin c.index.result.now 0 within in
    let seen : get_or counts bin 0 ≡ count_at c.args.self.now bin = sym (count-made counts bin) ∙ ap (λ t. count_at t bin) c.self.view_is in
    omega (arith, here, seen, c.requires.first)

pub overflow_add-others : goal.overflow_add-others
overflow_add-others c =
    let bin = c.args.second in
    let counts = c.self.inside.counts.items in
    let within : bin < length counts = search rules in
    let here : c.index-then-other-len.result.now ≡ get_or counts bin 0 = c.index-then-other-len.ensures ∙ get_or_default counts bin c.index-then-other-len.result.now 0 within in
    let seen : get_or counts bin 0 ≡ count_at c.args.self.now bin = sym (count-made counts bin) ∙ ap (λ t. count_at t bin) c.self.view_is in
    omega (arith, here, seen, c.again-before.ensures.once, c.requires.second)

pub overflow_add-others-then-other-len : goal.overflow_add-others-then-other-len
overflow_add-others-then-other-len c =
    let bin = c.args.second in
    let counts = c.self.inside.counts.items in
    let within : bin < length counts = search rules in
    let here : c.index-then-other-len.result.now ≡ get_or counts bin 0 = c.index-then-other-len.ensures ∙ get_or_default counts bin c.index-then-other-len.result.now 0 within in
    let seen : get_or counts bin 0 ≡ count_at c.args.self.now bin = sym (count-made counts bin) ∙ ap (λ t. count_at t bin) c.self.view_is in
    omega (arith, here, seen, c.again-before.ensures.once, c.requires.second)

pub returns-then-other-len-clause-ok : goal.returns-then-other-len-clause-ok
returns-then-other-len-clause-ok c =
    let first = c.args.first in
    let second = c.args.second in
    let counts = c.self.inside.counts.items in
    let n = c.index.result.now in
    let m = c.index-then-other-len.result.now in
    let within : first < length counts = search rules in
    let there : second < length counts = search rules in
    let here : n ≡ get_or counts first 0 = c.index.ensures ∙ get_or_default counts first n 0 within in
    let others : m ≡ get_or counts second 0 = c.index-then-other-len.ensures ∙ get_or_default counts second m 0 there in
    let one = ap (λ (k : ℕ). set counts first (k + 1)) here in
    made-two counts (set counts first (n + 1)) _ first second c.again-before.result within there c.again-before.ensures.is one
    (ap (λ (k : ℕ). set (set counts first (n + 1)) second (k + c.again-before.result + 1)) others)
    ∙ ap (λ t. with_one (with_one t first) second) c.self.view_is

pub add_new-requires-2 : goal.add_new-requires-2
add_new-requires-2 c =
    let more = count-more c.args.self.now c.args.first c.args.second (2 ^ 64 - 3) (omega (arith, c.requires.first)) (omega (arith, c.requires.second)) in
    omega (arith, more, ap (λ t. count_at t c.args.second) c.in_ok-add_new.ensures.ok)
