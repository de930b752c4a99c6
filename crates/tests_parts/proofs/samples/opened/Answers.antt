use Rattle.std.proofs.Common.{◌≡◌, ℕ, List, length, take, None, sym, ap, ◌∙◌, subst}
use Rattle.std.proofs.lemmas.List.{take_min}
use Rattle.las_header.specs.Fields.{point_offset_of}
use Rattle.las_header.specs.Refusals.{first_cause, front_causes}
use Rattle.las_header.proofs.Public.{CanRead, can_read}
use Rattle.tests_parts.proofs.samples.opened.Goals as goal

pub read-requires : goal.read-requires
read-requires c =
    let file = c.args.file.now in
    let offset = c.in-Ok.offset in
    let front : take c.min.result file ≡ take 227 file = ap (λ (n : ℕ). take n file) c.min.ensures ∙ take_min 227 file in
    let accepted : first_cause (front_causes (take 227 file) (length file)) ≡ None =
    ap (λ (f : List ℕ). first_cause (front_causes f (length file))) (sym front) ∙ c.in-Ok.ensures.accepted in
    let given = c.in-Ok.ensures.offset c.in-Ok.ensures.accepted in
    let is : offset ≡ point_offset_of (take 227 file) = cc (ap point_offset_of front) in
    let bounds = c.in-Ok.ensures.bounds in
    let bytes = c.in_ok-bytes-in-Ok.ensures.items_if_clones_equal (λ x y h. h) in
    let can : CanRead c.in_ok-bytes-in-Ok.bytes.items (length file) =
    subst (λ (b : List ℕ). CanRead b (length file)) (sym bytes) (can_read file offset (length file) bounds.0 bounds.1 accepted is) in
    record { accepted = can.accepted; whole = can.whole }
