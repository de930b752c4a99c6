use Rattle.std.proofs.Common.{◌≤◌, ◌+◌, ◌∙◌, ◌++◌, All, length, ap, subst, sym}
use Rattle.std.specs.List.{flat_map}
use Rattle.las_header.specs.Vlrs.{vlrs_of}
use Rattle.las_info.specs.Report.{format_text, front_text, packed_line, returns_text, vlr_line}
use Rattle.las_info.proofs.Places.{places_lie}
use Rattle.las_info.proofs.Texts.{five}
use Rattle.las_info.proofs.reporting.push_head.Goals as goal

pub push_vlrs-requires : goal.push_vlrs-requires
push_vlrs-requires c =
    subst (λ places. All (λ place. place.start + 54 ≤ length c.bytes.result.now) places)
    (sym (c.deref.ensures.value ∙ c.in_ok-places.ensures))
    (subst (λ bytes. All (λ place. place.start + 54 ≤ length bytes) (vlrs_of c.args.head.now.bytes))
    (sym c.bytes.ensures.bytes) (places_lie c.args.head.now.bytes c.bytes.ensures.head))

pub returns : goal.returns
returns c =
    let head = c.args.head.now.bytes in
    five c.args.text.now.items (front_text head) (flat_map (vlr_line head) (vlrs_of head)) (format_text head)
    (packed_line c.args.chunk) (returns_text head) _ _ _ _ _ c.in_ok-push_front.ensures
    (c.in_ok-push_vlrs.ensures
    ∙ ap (λ bytes. c.push_front.new.text.items ++ flat_map (vlr_line bytes) c.deref.result.now) c.bytes.ensures.bytes
    ∙ ap (λ places. c.push_front.new.text.items ++ flat_map (vlr_line head) places)
    (c.deref.ensures.value ∙ c.in_ok-places.ensures))
    c.in_ok-push_format.ensures c.in_ok-push_packed.ensures c.in_ok-push_returns.ensures
