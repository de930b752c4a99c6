use Rattle.std.proofs.Common.{◌≡◌, Some, string_bytes, ap}
use Rattle.std.specs.Fmt.{styled_digits_output}
use Rattle.std.proofs.lemmas.Result.{IfOk-weaker}
use Rattle.las_outside.specs.DraftNames.{four_digits}
use Rattle.las_outside.proofs.DraftNames.{four, tag_is}
use Rattle.las_outside.proofs.draft_name.tag_of.Goals as goal

pub returns : goal.returns
returns c =
    let number = c.args.number in
    let laid = c.laid_out.ensures in
    let radix = c.in_radix.ensures in
    let shown : styled_digits_output c.in_radix.result c.laid_out.result ≡ Some (four_digits number) =
    rw laid (rw radix (ap Some (four number))) in
    IfOk-weaker c.format.result _ _ (λ s is. tag_is (string_bytes s) c.args.process number (styled_digits_output c.in_radix.result c.laid_out.result) shown is) c.format.ensures.ok
