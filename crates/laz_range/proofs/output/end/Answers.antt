use Rattle.std.proofs.Common.{◌≡◌, ◌+◌, ◌-◌, ◌≤◌, ◌∙◌, List, ℕ, ap, length, take, drop, arith}
use Rattle.std.proofs.lemmas.List.{with_items_is}
use Rattle.laz_range.specs.Span.{final_number, bytes_of}
use Rattle.laz_range.specs.Output.{span_of}
use Rattle.laz_range.proofs.Numbers.{digits_from_number, IsBytes-part}
use Rattle.laz_range.proofs.Spans.{length-written}
use Rattle.laz_range.proofs.output.end.Goals as goal

pub returns-clause-bytes : goal.returns-clause-bytes
returns-clause-bytes c =
    let o = c.args.output in
    let ys = c.write_last.new.bytes in
    let same : length ys ≡ o.bytes.len = c.write_last.auto.bytes ∙ omega (arith, o.bytes.ok.0) in
    let room : o.next + 4 ≤ length ys = omega (arith, c.write_last.auto.bytes, c.requires.placed.room) in
    let place : o.at + (o.next - o.at + 4) ≡ o.next + 4 = omega (arith, c.requires.placed.from) in
    let spells = rw c.deref_mut.ensures.value at c.write_last.ensures.spells in
    let bytes : drop o.at (take (o.next + 4) ys) ≡ bytes_of (span_of o) =
    digits_from_number (drop o.at (take (o.next + 4) ys)) (o.next - o.at + 4) (final_number (span_of o))
    (IsBytes-part ys o.at (o.next + 4) c.write_last.ensures.bytes)
    (length-written o.at (o.next + 4) ys (omega (arith, c.requires.placed.from)) room ∙ omega (arith, c.requires.placed.from))
    spells.spelled in
    rw place (ap (λ (xs : List ℕ). drop o.at (take (o.next + 4) xs)) (with_items_is o.bytes ys same) ∙ bytes)
