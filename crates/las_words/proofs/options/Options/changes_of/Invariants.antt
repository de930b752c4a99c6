use Rattle.std.proofs.Common.{◌≡◌, ◌++◌, drop}
use Rattle.las_words.specs.Texts.{texts}
use Rattle.las_words.specs.Plans.{changes_given}
use Rattle.las_words.proofs.options.Options.changes_of.Given as goal

abbrev pub invariant-loop-piece : goal.invariant-loop-piece
invariant-loop-piece l = l.changes.items ++ changes_given (texts l.self.words.now) (drop l.piece-index l.self.pieces.now) ≡ changes_given (texts l.self.words.now) l.self.pieces.now
