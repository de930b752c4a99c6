use Rattle.std.proofs.Common.{◌+◌, ap, length, arith}
use Rattle.laz_reader.specs.Reading.{ReaderSeen}
use Rattle.laz_reader.proofs.PieceLists.{length-pieces}
use Rattle.laz_reader.proofs.reader.Reader.chunks.Goals as goal

pub returns : goal.returns
returns c =
    let r = c.self.inside in
    omega (arith, r.points.ok.0, length-pieces (length r.head.bytes + 8) r.points.items r.bytes.items c.self.invariant.0.same, ap (λ (s : ReaderSeen). length s.pieces) c.self.view_is)
