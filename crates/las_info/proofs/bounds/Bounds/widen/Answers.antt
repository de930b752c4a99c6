use Rattle.std.proofs.Common.{◌≡◌, [], ◌∷◌, length, map, All, FitsSigned, Some, subst, sym, ap, ◌∙◌, to_z, of_z}
use Rattle.std.specs.Int.{int_max, int_min, w32, cast_signed}
use Rattle.std.specs.Simd.Lanes.{zip2}
use Rattle.las_header.specs.Numbers.{number_at}
use Rattle.las_points.specs.Record.{x_of, y_of, z_of}
use Rattle.las_info.specs.declared.extents.Extents.{Extents}
use Rattle.las_info.specs.Extents.{extents_in, extents_with}
use Rattle.las_info.proofs.Lanes.{kept, lanes_widened, length-zip2_four}
use Rattle.las_info.proofs.bounds.Bounds.widen.Goals as goal

pub least-self-inside-requires-clause-first : goal.least-self-inside-requires-clause-first
least-self-inside-requires-clause-first c = subst (All (FitsSigned w32)) (sym (kept c.self.inside.low c.self.invariant.0)) c.self.invariant.0

pub greatest-self-inside-requires-clause-first : goal.greatest-self-inside-requires-clause-first
greatest-self-inside-requires-clause-first c = subst (All (FitsSigned w32)) (sym (kept c.self.inside.high c.self.invariant.1)) c.self.invariant.1

pub invariant_of-self : goal.invariant_of-self
invariant_of-self c =
    let low = c.self.inside.low in
    let high = c.self.inside.high in
    let a = c.least-self-inside.result in
    let b = c.greatest-self-inside.result in
    let p = c.args.point.now in
    let w = cast_signed w32 (number_at 4 12 p) in
    let here : map (to_z w32) (map (of_z w32) c.coordinates-here.result) ≡ x_of p ∷ y_of p ∷ z_of p ∷ w ∷ [] =
    kept c.coordinates-here.result c.coordinates-here.ensures.fit ∙ c.coordinates-here.ensures.lanes in
    let lesser : a ≡ zip2 int_min low (x_of p ∷ y_of p ∷ z_of p ∷ w ∷ []) =
    c.least-self-inside.ensures.lanes ∙ (λ i. zip2 int_min (kept low c.self.invariant.0 i) (here i)) in
    let greater : b ≡ zip2 int_max high (x_of p ∷ y_of p ∷ z_of p ∷ w ∷ []) =
    c.greatest-self-inside.ensures.lanes ∙ (λ i. zip2 int_max (kept high c.self.invariant.1 i) (here i)) in
    let back = kept a c.least-self-inside.ensures.fit in
    let again = kept b c.greatest-self-inside.ensures.fit in (
      subst (All (FitsSigned w32)) (sym back) c.least-self-inside.ensures.fit,
      subst (All (FitsSigned w32)) (sym again) c.greatest-self-inside.ensures.fit,
      ap length (back ∙ lesser) ∙ length-zip2_four int_min low (x_of p) (y_of p) (z_of p) w c.self.invariant.2,
      ap length (again ∙ greater) ∙ length-zip2_four int_max high (x_of p) (y_of p) (z_of p) w c.self.invariant.3,
    )

pub returns : goal.returns
returns c =
    let low = c.self.inside.low in
    let high = c.self.inside.high in
    let a = c.least-self-inside.result in
    let b = c.greatest-self-inside.result in
    let p = c.args.point.now in
    let w = cast_signed w32 (number_at 4 12 p) in
    let here : map (to_z w32) (map (of_z w32) c.coordinates-here.result) ≡ x_of p ∷ y_of p ∷ z_of p ∷ w ∷ [] =
    kept c.coordinates-here.result c.coordinates-here.ensures.fit ∙ c.coordinates-here.ensures.lanes in
    let lesser : map (to_z w32) (map (of_z w32) a) ≡ zip2 int_min low (x_of p ∷ y_of p ∷ z_of p ∷ w ∷ []) =
    kept a c.least-self-inside.ensures.fit
    ∙ c.least-self-inside.ensures.lanes ∙ (λ i. zip2 int_min (kept low c.self.invariant.0 i) (here i)) in
    let greater : map (to_z w32) (map (of_z w32) b) ≡ zip2 int_max high (x_of p ∷ y_of p ∷ z_of p ∷ w ∷ []) =
    kept b c.greatest-self-inside.ensures.fit
    ∙ c.greatest-self-inside.ensures.lanes ∙ (λ i. zip2 int_max (kept high c.self.invariant.1 i) (here i)) in
    ap (λ (e : Extents). Some e) ((λ i. extents_in (lesser i) (greater i))
    ∙ lanes_widened low high (x_of p) (y_of p) (z_of p) w c.self.invariant.2 c.self.invariant.3)
    ∙ ap (λ (e : Extents). extents_with (Some e) p) c.self.view_is
