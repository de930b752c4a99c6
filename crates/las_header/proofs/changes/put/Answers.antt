use Rattle.std.proofs.Common.{arith, ◌≡◌, ◌+◌, ◌-◌, ◌∙◌, length, ap, refl}
use Rattle.std.proofs.lemmas.List.{with_items_is}
use Rattle.std.specs.List.{splice}
use Rattle.las_header.proofs.NumberLemmas.{length-splice, length_part, put_mid-splice}
use Rattle.las_header.proofs.changes.put.Goals as goal

pub returns-clause-bytes : goal.returns-clause-bytes
returns-clause-bytes c =
    let head = c.deref_mut.result.now in
    let piece = c.copy_from_slice.new.self in
    let at = c.args.at in
    let end = at + length c.args.bytes.now in
    let long : length piece ≡ end - at = c.copy_from_slice.ensures.len ∙ length_part head at (end - at) (omega arith) in
    let written = put_mid-splice head piece at (end - at) end (omega arith) in
    let size : length (splice head at end piece) ≡ length head =
    length-splice head at end piece (omega (arith, long)) (omega arith) in
    with_items_is c.args.head.now _ (ap length written ∙ size ∙ c.deref_mut.ensures.len)
    ∙ written
    ∙ rw (c.deref_mut.ensures.value, c.copy_from_slice.ensures.after) refl
