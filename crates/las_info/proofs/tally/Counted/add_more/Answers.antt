use Rattle.std.proofs.Common.{◌≡◌, ◌+◌, ◌∙◌, ap, sym, get_or, set, arith}
use Rattle.std.proofs.lemmas.List.{get_or_default}
use Rattle.las_info.specs.Tallies.{count_at, with_many}
use Rattle.las_info.proofs.Maps.{count-made, made-longer, made-more}
use Rattle.las_info.proofs.tally.Counted.add_more.Goals as goal

pub overflow_add-index_mut : goal.overflow_add-index_mut
overflow_add-index_mut c =
    let bin = c.args.bin in
    let old = c.self.inside.counts.items in
    let new = c.reach.new.counts.items in
    let here : c.index_mut.result.now ≡ get_or new bin 0 =
    c.index_mut.ensures.value ∙ get_or_default new bin c.index_mut.result.now 0 c.in_ok-reach.ensures.within in
    let seen : get_or new bin 0 ≡ count_at c.args.self.now bin =
    sym (count-made new bin) ∙ ap (λ t. count_at t bin) (made-longer old new _ c.in_ok-reach.ensures.ok ∙ c.self.view_is) in
    omega (arith, here, seen, c.requires)

pub returns-clause-ok : goal.returns-clause-ok
returns-clause-ok c =
    let bin = c.args.bin in
    let more = c.args.more in
    let old = c.self.inside.counts.items in
    let new = c.reach.new.counts.items in
    let here : c.index_mut.result.now ≡ get_or new bin 0 =
    c.index_mut.ensures.value ∙ get_or_default new bin c.index_mut.result.now 0 c.in_ok-reach.ensures.within in
    made-more more new _ bin c.in_ok-reach.ensures.within (ap (λ n. set new bin (n + more)) here)
    ∙ ap (λ t. with_many t bin more) (made-longer old new _ c.in_ok-reach.ensures.ok ∙ c.self.view_is)
