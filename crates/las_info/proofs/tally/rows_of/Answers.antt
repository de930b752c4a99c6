use Rattle.std.proofs.Common.{◌≡◌, ◌+◌, ◌∙◌, ◌∷◌, ◌++◌, [], ℕ, List, ap, sym, get_or, take, length, arith}
use Rattle.std.proofs.lemmas.List.{take_more, length-take}
use Rattle.las_info.specs.Cells.{bins_from}
use Rattle.las_info.proofs.Maps.{bins-more}
use Rattle.las_info.proofs.tally.rows_of.Goals as goal

pub loop-i-preserved : goal.loop-i-preserved
loop-i-preserved c =
    let counts = c.args.counts.now in
    let i = c.loop-i.i in
    let x = get_or counts i 0 in
    let long : 0 + length (take i counts) ≡ i = omega (arith, length-take i counts, c.loop-i-test.true) in
    c.in_ok-push_row.ensures
    ∙ ap (λ (t : List (ℕ × ℕ)). t ++ bins_from i (x ∷ [])) c.loop-i.invariant
    ∙ ap (λ (k : ℕ). bins_from 0 (take i counts) ++ bins_from k (x ∷ [])) (sym long)
    ∙ sym (bins-more 0 (take i counts) x)
    ∙ ap (bins_from 0) (sym (take_more counts i 0 c.loop-i-test.true))
