use Rattle.std.proofs.Common.{◌≡◌, ◌<◌, ◌++◌, length, drop}
use Rattle.std.specs.Prelude.{All}
use Rattle.las_words.specs.Texts.{texts}
use Rattle.las_words.specs.Pieces.{cut_words}
use Rattle.las_words.proofs.pieces.pieces.Given as goal

abbrev pub invariant-loop-at : goal.invariant-loop-at
invariant-loop-at l = record {
  cut : l.pieces.items ++ cut_words l.fn.tool l.at l.skip (drop l.at (texts l.words)) ≡ cut_words l.fn.tool 1 0 (drop 1 (texts l.words));
  within : All (λ piece. piece.at < length l.words) l.pieces.items;
}
