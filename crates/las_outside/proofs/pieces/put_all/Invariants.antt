use Rattle.std.proofs.Common.{◌≡◌, take}
use Rattle.las_outside.specs.Sinks.{PutLater, with_more}
use Rattle.las_outside.proofs.Texts.{text_of}
use Rattle.las_outside.proofs.pieces.put_all.Given as goal

abbrev pub invariant-loop-piece : goal.invariant-loop-piece
invariant-loop-piece g l = record {
  put : g.S.Sink.seen l.sink ≡ with_more (g.S.Sink.seen l.fn.sink) (text_of (take l.piece-index l.pieces));
  later : PutLater (g.S.Sink.seen l.fn.sink) (g.S.Sink.seen l.sink);
}
