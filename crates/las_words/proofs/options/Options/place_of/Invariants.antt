use Rattle.std.proofs.Common.{◌≡◌, drop}
use Rattle.las_words.specs.Texts.{texts}
use Rattle.las_words.specs.Settings.{place_of}
use Rattle.las_words.proofs.options.Options.place_of.Given as goal

abbrev pub invariant-loop-piece : goal.invariant-loop-piece
invariant-loop-piece l = place_of (texts l.self.words.now) l.name (drop l.piece-index l.self.pieces.now) ≡ place_of (texts l.self.words.now) l.name l.self.pieces.now
