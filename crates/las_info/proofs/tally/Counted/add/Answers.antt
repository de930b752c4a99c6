use Rattle.std.proofs.Common.{rules, ◌≡◌, ◌+◌, ◌<◌, ◌∙◌, ap, sym, get_or, set, length, arith}
use Rattle.std.proofs.lemmas.List.{get_or_default}
use Rattle.las_info.specs.Tallies.{count_at, with_one}
use Rattle.las_info.proofs.Maps.{count-made, made-set}
use Rattle.las_info.proofs.tally.Counted.add.Goals as goal

pub overflow_add-index_mut : goal.overflow_add-index_mut
overflow_add-index_mut c =
    let bin = c.args.bin in
    let counts = c.self.inside.counts.items in
    let within : bin < length counts = search rules in
    let here : c.index_mut.result.now ≡ get_or counts bin 0 = c.index_mut.ensures.value ∙ get_or_default counts bin c.index_mut.result.now 0 within in
    let seen : get_or counts bin 0 ≡ count_at c.args.self.now bin = sym (count-made counts bin) ∙ ap (λ t. count_at t bin) c.self.view_is in
    omega (arith, here, seen, c.requires)

pub returns-then-at-len-clause-ok : goal.returns-then-at-len-clause-ok
returns-then-at-len-clause-ok c =
    let bin = c.args.bin in
    let counts = c.self.inside.counts.items in
    let within : bin < length counts = search rules in
    let here : c.index_mut.result.now ≡ get_or counts bin 0 = c.index_mut.ensures.value ∙ get_or_default counts bin c.index_mut.result.now 0 within in
    made-set counts _ bin within (ap (λ n. set counts bin (n + 1)) here) ∙ ap (λ t. with_one t bin) c.self.view_is
