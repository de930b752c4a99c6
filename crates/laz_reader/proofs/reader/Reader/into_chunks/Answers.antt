use Rattle.std.proofs.Common.{◌+◌, ◌∙◌, ap, sym, length, map}
use Rattle.laz_forms.specs.Pieces.{Piece}
use Rattle.laz_reader.specs.Reading.{ReaderSeen}
use Rattle.laz_reader.proofs.PieceLists.{piece_counts, piece_sizes}
use Rattle.laz_reader.proofs.reader.Reader.into_chunks.Goals as goal

pub returns-clause-points : goal.returns-clause-points
returns-clause-points c =
    let r = c.self.inside in
    sym (piece_counts (length r.head.bytes + 8) r.points.items r.bytes.items c.self.invariant.0.same) ∙ ap (λ (s : ReaderSeen). map (λ (p : Piece). p.count) s.pieces) c.self.view_is

pub returns-clause-bytes : goal.returns-clause-bytes
returns-clause-bytes c =
    let r = c.self.inside in
    sym (piece_sizes (length r.head.bytes + 8) r.points.items r.bytes.items c.self.invariant.0.same) ∙ ap (λ (s : ReaderSeen). map (λ (p : Piece). p.size) s.pieces) c.self.view_is
