use Rattle.std.proofs.Common.{◌∙◌, refl, rules}
use Rattle.std.specs.Prelude.{FitsSigned}
use Rattle.std.specs.Int.{w32}
use Rattle.std.proofs.lemmas.Int.{to_z-of_z}
use Rattle.laz_point10.proofs.Medians.{put_in-four, min-of, max-of, same-five}
use Rattle.laz_point10.proofs.median.put_in.Goals as goal

pub returns : goal.returns
returns c low mid high =
    let f1 : FitsSigned w32 c.min.result = search rules in
    let f2 : FitsSigned w32 c.min-2.result = search rules in
    let f3 : FitsSigned w32 c.min-3.result = search rules in
    let f4 : FitsSigned w32 c.min-4.result = search rules in
    let g1 : FitsSigned w32 c.max.result = search rules in
    let g2 : FitsSigned w32 c.max-2.result = search rules in
    let g3 : FitsSigned w32 c.max-3.result = search rules in
    let g4 : FitsSigned w32 c.max-4.result = search rules in
    same-five _ _ _ _ _ _ _ _ _ _
    (to_z-of_z w32 c.min.result f1 ∙ min-of _ c.args.a c.args.v c.args.v f1 c.ranges.a c.ranges.v refl c.min.ensures.value)
    (max-of _ c.args.a _ _ g1 c.ranges.a f2 (min-of _ c.args.b c.args.v c.args.v f2 c.ranges.b c.ranges.v refl c.min-2.ensures.value) c.max.ensures.value)
    (max-of _ c.args.b _ _ g2 c.ranges.b f3 (min-of _ c.args.c c.args.v c.args.v f3 c.ranges.c c.ranges.v refl c.min-3.ensures.value) c.max-2.ensures.value)
    (max-of _ c.args.c _ _ g3 c.ranges.c f4 (min-of _ c.args.d c.args.v c.args.v f4 c.ranges.d c.ranges.v refl c.min-4.ensures.value) c.max-3.ensures.value)
    (max-of _ c.args.d c.args.v c.args.v g4 c.ranges.d c.ranges.v refl c.max-4.ensures.value)
    ∙ put_in-four c.args.a c.args.b c.args.c c.args.d c.args.v low mid high
