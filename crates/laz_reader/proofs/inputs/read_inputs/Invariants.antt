use Rattle.std.proofs.Common.{◌≡◌, ℕ, ◌+◌, ◌<◌, [], get_or, take}
use Rattle.std.specs.Prelude.{sum}
use Rattle.las_outside.specs.Files.{WhereKnown}
use Rattle.las_outside.specs.Frames.{IsCalm, Reads}
use Rattle.laz_workers.specs.Work.{texts}
use Rattle.laz_forms.specs.Pieces.{Piece, piece_bytes, pieces_from}
use Rattle.laz_reader.specs.Unpacking.{IsInput, unpack_input}
use Rattle.laz_reader.proofs.inputs.read_inputs.Given as goal

abbrev pub invariant-loop-i : goal.invariant-loop-i
invariant-loop-i g l = record {
  place : l.at ≡ l.fn.place + sum (take l.i l.bytes);
  shape : (k : ℕ) → k < l.i → IsInput (get_or l.points k 0) (get_or (texts l.inputs) k []);
  known : WhereKnown (g.F.Files.seen l.fn.files).held l.name (λ file. (k : ℕ) (d : Piece) → k < l.i → get_or (texts l.inputs) k [] ≡ unpack_input (get_or l.points k 0) (piece_bytes file (get_or (pieces_from l.fn.place l.points l.bytes) k d)));
  reads : Reads (sum (take l.i l.bytes)) (g.F.Files.seen l.fn.files) (g.F.Files.seen l.files);
  calm : IsCalm (g.F.Files.seen l.fn.files) (g.F.Files.seen l.files);
}
