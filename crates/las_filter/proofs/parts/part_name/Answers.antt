use Rattle.std.proofs.Common.{◌≡◌, string_bytes, ◌++◌, ◌∙◌, codes, refl}
use Rattle.std.specs.Fmt.{styled_decimal, format_spec}
use Rattle.std.proofs.lemmas.Result.{IfOk-weaker}
use Rattle.las_filter.proofs.PartNaming.{name_is}
use Rattle.las_filter.proofs.parts.part_name.Goals as goal

pub returns : goal.returns
returns c =
    IfOk-weaker c.format.result _ _
    (λ s is.
    let stem = c.args.stem.now in
    let end = c.args.end.now in
    let n = c.args.number in
    let bare = c.laid_out.ensures in
    let laid : stem ++ (codes "_" ++ (styled_decimal c.laid_out.result n ++ end)) ≡ stem ++ (codes "_" ++ (styled_decimal (format_spec 32 0 4 7 18446744073709551615) n ++ end)) = rw bare refl in
    name_is (string_bytes s) stem end n (is ∙ laid)) c.format.ensures.ok
