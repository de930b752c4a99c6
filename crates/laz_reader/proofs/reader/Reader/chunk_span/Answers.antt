use Rattle.std.proofs.Common.{◌<◌, ◌≤◌, ◌+◌, ◌∙◌, ap, sym, length, get_or, take, ℕ, List, arith}
use Rattle.std.specs.Prelude.{sum}
use Rattle.std.proofs.lemmas.List.{get_or_default, length-take-le}
use Rattle.laz_forms.specs.Pieces.{Piece}
use Rattle.laz_reader.specs.Reading.{ReaderSeen}
use Rattle.laz_reader.proofs.InputLists.{piece_at}
use Rattle.laz_reader.proofs.PieceLists.{length-pieces}
use Rattle.laz_reader.proofs.reader.Reader.chunk_span.Goals as goal

pub slice_bounds-total-end : goal.slice_bounds-total-end
slice_bounds-total-end c =
    let r = c.self.inside in
    let same = c.self.invariant.0.same in
    let chunks = length-pieces (length r.head.bytes + 8) r.points.items r.bytes.items same in
    let within : c.args.i ≤ length c.deref.result.now = omega (arith, c.requires.within, ap (λ (s : ReaderSeen). length s.pieces) c.self.view_is, chunks, same, ap (λ (l : List ℕ). length l) c.deref.ensures.value) in
    sym (length-take-le c.args.i c.deref.result.now within)

pub index-requires : goal.index-requires
index-requires c =
    let r = c.self.inside in
    let same = c.self.invariant.0.same in
    let chunks = length-pieces (length r.head.bytes + 8) r.points.items r.bytes.items same in
    omega (arith, c.requires.within, ap (λ (s : ReaderSeen). length s.pieces) c.self.view_is, chunks, same, c.deref.ensures.len, ap (λ (l : List ℕ). length l) c.deref.ensures.value)

pub returns-clause-start : goal.returns-clause-start
returns-clause-start c = λ d.
    let r = c.self.inside in
    let same = c.self.invariant.0.same in
    let place = length r.head.bytes + 8 in
    let chunks = length-pieces place r.points.items r.bytes.items same in
    let below : c.args.i < length r.points.items = omega (arith, c.requires.within, ap (λ (s : ReaderSeen). length s.pieces) c.self.view_is, chunks) in
    let at = ap (λ (s : ReaderSeen). get_or s.pieces c.args.i d) (sym c.self.view_is) ∙ piece_at place r.points.items r.bytes.items c.args.i d same below in
    omega (arith, ap (λ (p : Piece). p.start) at, ap (λ (l : List ℕ). length l) c.bytes.ensures.bytes, c.total.ensures, ap (λ (l : List ℕ). sum (take c.args.i l)) c.deref.ensures.value)

pub returns-clause-size : goal.returns-clause-size
returns-clause-size c = λ d.
    let r = c.self.inside in
    let same = c.self.invariant.0.same in
    let place = length r.head.bytes + 8 in
    let chunks = length-pieces place r.points.items r.bytes.items same in
    let below : c.args.i < length r.points.items = omega (arith, c.requires.within, ap (λ (s : ReaderSeen). length s.pieces) c.self.view_is, chunks) in
    let at = ap (λ (s : ReaderSeen). get_or s.pieces c.args.i d) (sym c.self.view_is) ∙ piece_at place r.points.items r.bytes.items c.args.i d same below in
    c.index.ensures ∙ get_or_default r.bytes.items c.args.i c.index.result.now 0 (omega (arith, below, same)) ∙ sym (ap (λ (p : Piece). p.size) at)
