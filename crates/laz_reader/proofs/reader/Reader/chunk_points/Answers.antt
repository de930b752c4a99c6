use Rattle.std.proofs.Common.{◌<◌, ◌+◌, ◌∙◌, ap, sym, length, get_or, arith}
use Rattle.std.proofs.lemmas.List.{get_or_default}
use Rattle.laz_forms.specs.Pieces.{Piece}
use Rattle.laz_reader.specs.Reading.{ReaderSeen}
use Rattle.laz_reader.proofs.InputLists.{piece_at}
use Rattle.laz_reader.proofs.PieceLists.{length-pieces}
use Rattle.laz_reader.proofs.reader.Reader.chunk_points.Goals as goal

pub index-requires : goal.index-requires
index-requires c =
    let r = c.self.inside in
    let chunks = length-pieces (length r.head.bytes + 8) r.points.items r.bytes.items c.self.invariant.0.same in
    omega (arith, c.requires.within, ap (λ (s : ReaderSeen). length s.pieces) c.self.view_is, chunks, r.points.ok.0)

pub returns : goal.returns
returns c = λ d.
    let r = c.self.inside in
    let same = c.self.invariant.0.same in
    let place = length r.head.bytes + 8 in
    let chunks = length-pieces place r.points.items r.bytes.items same in
    let below : c.args.i < length r.points.items = omega (arith, c.requires.within, ap (λ (s : ReaderSeen). length s.pieces) c.self.view_is, chunks) in
    let at = ap (λ (s : ReaderSeen). get_or s.pieces c.args.i d) (sym c.self.view_is) ∙ piece_at place r.points.items r.bytes.items c.args.i d same below in
    c.index.ensures ∙ get_or_default r.points.items c.args.i c.index.result.now 0 below ∙ sym (ap (λ (p : Piece). p.count) at)
