use Rattle.std.proofs.Common.{arith}
use Rattle.laz_range.specs.Span.{Begins, IsBytes, initial_span}
use Rattle.laz_range.proofs.Reach.{initial_span-IsSpan}
use Rattle.laz_range.proofs.Begin.{Begins-after}
use Rattle.laz_range.proofs.Decodings.{number-four}
use Rattle.laz_range.proofs.decoder.Decoder.new.Goals as goal

pub returns-then-value-clause-none : goal.returns-then-value-clause-none
returns-then-value-clause-none c events all begins =
    let bytes = c.args.bytes.now in
    let small : IsBytes bytes = λ i. omega (arith, c.type_inv.bytes i) in
    let first : Begins initial_span bytes = Begins-after initial_span events bytes initial_span-IsSpan all small begins in
    omega (arith, first.high, number-four bytes c.if-bytes-lt4.false, c.from_be_bytes-value.ensures)
