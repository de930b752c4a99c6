use Rattle.std.proofs.Common.{◌≡◌, ◌++◌, drop}
use Rattle.las_words.specs.Texts.{texts}
use Rattle.las_words.specs.Plans.{filters_of}
use Rattle.las_words.proofs.options.Options.filters_of.Given as goal

abbrev pub invariant-loop-piece : goal.invariant-loop-piece
invariant-loop-piece l = l.keeps.items ++ filters_of (texts l.self.words.now) (drop l.piece-index l.self.pieces.now) ≡ filters_of (texts l.self.words.now) l.self.pieces.now
