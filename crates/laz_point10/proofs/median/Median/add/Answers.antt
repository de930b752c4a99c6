use Rattle.std.proofs.Common.{◌≡◌, pos, length, get_or, refl, ap, ◌∙◌, rules}
use Rattle.std.specs.Prelude.{FitsSigned, int_le, int_lt}
use Rattle.std.specs.Int.{w32}
use Rattle.std.proofs.lemmas.Int.{to_z-of_z}
use Rattle.laz_point10.specs.Medians.{middle}
use Rattle.laz_point10.proofs.Medians.{added, passed-four}
use Rattle.laz_point10.proofs.median.Median.add.Goals as goal

pub returns : goal.returns
returns c sorted =
    let m = c.args.self.now in
    let v = c.args.v in
    let r = c.kept.result in
    let count : length m.values ≡ 5 = search rules in
    let f0 : FitsSigned w32 (get_or r 0 (pos 0)) = search rules in
    let f1 : FitsSigned w32 (get_or r 1 (pos 0)) = search rules in
    let f2 : FitsSigned w32 (get_or r 2 (pos 0)) = search rules in
    let f3 : FitsSigned w32 (get_or r 3 (pos 0)) = search rules in
    added m.high m v r _ _ refl count sorted c.kept.ensures.high c.kept.ensures.low
    (λ a b d. passed-four _ _ _ _ _ v c.ranges.v f0 f1 f2 f3 a b d c.put_in-self.ensures)
    (λ e. c.is_high_after-high.ensures.high e ∙ ap (λ z. int_lt z (middle m)) (to_z-of_z w32 v c.ranges.v))
    (λ e. c.is_high_after-high.ensures.low e ∙ ap (λ z. int_le z (middle m)) (to_z-of_z w32 v c.ranges.v))
