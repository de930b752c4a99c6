use Rattle.std.proofs.Common.{◌≡◌, ◌<◌, ◌+◌, ℕ, List, false, take, length, sym, ◌∙◌, subst, arith}
use Rattle.std.proofs.lemmas.List.{get_or_default}
use Rattle.las_split.specs.Sorting.{is_among}
use Rattle.las_split.proofs.Opening.{has_more}
use Rattle.las_split.proofs.numbers.Numbers.search.Goals as goal

pub loop-place-preserved : goal.loop-place-preserved
loop-place-preserved c =
    let list = c.self.inside.list.items in
    let i = c.loop-place.place in
    let within : i < length list = omega (arith, c.loop-place-test.true, c.len-place-end.ensures) in
    let here = subst (λ (ns : List ℕ). is_among c.args.number (take i ns) ≡ false) (sym c.self.view_is) c.loop-place.invariant in
    subst (λ (ns : List ℕ). is_among c.args.number (take (i + 1) ns) ≡ false) c.self.view_is (has_more c.args.number list i within (λ e. c.if-index-number.false (c.index.ensures ∙ get_or_default list i c.index.result.now 0 within ∙ e)) here)
