use Rattle.std.proofs.Common.{◌≡◌, ◌++◌, drop}
use Rattle.las_words.specs.Texts.{texts}
use Rattle.las_words.specs.Tallies.{tallies_of}
use Rattle.las_words.proofs.options.Options.tallies_of.Given as goal

abbrev pub invariant-loop-piece : goal.invariant-loop-piece
invariant-loop-piece l = texts l.tallies.items ++ tallies_of (texts l.self.words.now) (drop l.piece-index l.self.pieces.now) ≡ tallies_of (texts l.self.words.now) l.self.pieces.now
