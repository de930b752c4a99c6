use Rattle.std.proofs.Common.{◌≡◌, length, take, arith}
use Rattle.std.proofs.lemmas.List.{length-take-le}
use Rattle.laz_range.specs.Span.{bytes_of}
use Rattle.laz_range.specs.Output.{span_of}
use Rattle.laz_range.proofs.Reach.{bytes-fit}
use Rattle.laz_range.proofs.Streams.{written_after}
use Rattle.laz_range.proofs.encoder.Encoder.finish.Goals as goal

pub returns-clause-fits : goal.returns-clause-fits
returns-clause-fits c = rw (← c.self.view_is) (bytes-fit (span_of c.self.inside.output) c.self.invariant.1)

pub returns-clause-front : goal.returns-clause-front
returns-clause-front c =
    let output = c.self.inside.output in
    let count : length (take output.at output.bytes.items) ≡ output.at = length-take-le output.at output.bytes.items (omega (arith, c.self.invariant.0.from, c.self.invariant.0.room)) in
    rw (← c.self.view_is, count) (written_after output.at c.end.result.1 c.end.result.0.items (take output.at output.bytes.items) (bytes_of (span_of output)) c.end.ensures.before c.end.ensures.bytes)
