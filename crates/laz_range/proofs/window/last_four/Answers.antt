use Rattle.std.proofs.Common.{◌-◌, ◌∙◌, ap, arith}
use Rattle.laz_range.specs.Span.{number}
use Rattle.laz_range.proofs.Spans.{written_slice}
use Rattle.laz_range.proofs.Windows.{last_digits}
use Rattle.laz_range.proofs.window.last_four.Goals as goal

pub returns-clause-number : goal.returns-clause-number
returns-clause-number c =
    let bytes = c.args.bytes.now in
    let next = c.args.next in
    rw c.saturating_sub.ensures at c.number_of.ensures ∙ (ap number (written_slice (next - 4) next bytes) ∙ last_digits next bytes (λ i. omega (arith, c.type_inv.bytes i)) c.requires)
