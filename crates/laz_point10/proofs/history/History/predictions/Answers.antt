use Rattle.std.proofs.Common.{◌≡◌, pos, get_or, length, refl, ap, ◌∙◌, arith, rules}
use Rattle.std.specs.Prelude.{FitsSigned}
use Rattle.std.specs.Int.{w32}
use Rattle.std.proofs.lemmas.Int.{to_z-of_z}
use Rattle.std.proofs.lemmas.List.{get_or_default}
use Rattle.laz_point10.specs.Medians.{middle, no_values}
use Rattle.laz_point10.proofs.Histories.{same-predictions}
use Rattle.laz_point10.proofs.history.History.predictions.Goals as goal

pub returns-clause-predicted : goal.returns-clause-predicted
returns-clause-predicted c =
    let m = c.args.self.now in
    let fx : FitsSigned w32 c.middle.result = search rules in
    let fy : FitsSigned w32 c.middle-2.result = search rules in
    let fz : FitsSigned w32 (get_or m.heights c.return_level.result (pos 0)) = search rules in
    let k = c.return_map-m.ensures.map in
    let nx : length m.dx ≡ 16 = search rules in
    let ny : length m.dy ≡ 16 = search rules in
    let small = c.return_map-m.ensures.small in
    same-predictions _ _ _ _ _ _ _ _ _ _
    refl
    (ap (λ i. get_or m.intensities i 0) k)
    (to_z-of_z w32 c.middle.result fx ∙ (c.middle.ensures ∙ (ap middle (get_or_default m.dx c.return_map-m.result _ no_values (omega (arith, nx, small))) ∙ ap (λ i. middle (get_or m.dx i no_values)) k)))
    (to_z-of_z w32 c.middle-2.result fy ∙ (c.middle-2.ensures ∙ (ap middle (get_or_default m.dy c.return_map-m.result _ no_values (omega (arith, ny, small))) ∙ ap (λ i. middle (get_or m.dy i no_values)) k)))
    (to_z-of_z w32 _ fz ∙ ap (λ i. get_or m.heights i (pos 0)) c.return_level.ensures.level)
