use Rattle.std.proofs.Common.{◌≡◌, ◌+◌, ◌≤◌, drop}
use Rattle.std.specs.List.{count_by, list_any}
use Rattle.std.specs.Str.{bytes_eq}
use Rattle.las_words.specs.Texts.{texts, word_at}
use Rattle.las_words.specs.Table.{row_of}
use Rattle.las_words.proofs.faults.follows_too_many.Given as goal

abbrev pub invariant-loop-piece : goal.invariant-loop-piece
invariant-loop-piece l = record {
  counted : l.count + count_by (λ piece. list_any (bytes_eq (word_at (texts l.earlier.words.now) piece.at)) (row_of l.flag).rivals) (drop l.piece-index l.earlier.pieces.now)
      ≡ count_by (λ piece. list_any (bytes_eq (word_at (texts l.earlier.words.now) piece.at)) (row_of l.flag).rivals) l.earlier.pieces.now;
  few : l.count ≤ l.piece-index;
}
