use Rattle.std.proofs.Common.{◌≡◌, drop}
use Rattle.std.specs.List.{list_any}
use Rattle.std.specs.Str.{bytes_eq}
use Rattle.las_words.specs.Texts.{texts}
use Rattle.las_words.specs.Tallies.{tallies_of}
use Rattle.las_words.proofs.options.Options.is_tallied.Given as goal

abbrev pub invariant-loop-piece : goal.invariant-loop-piece
invariant-loop-piece l =
    list_any (bytes_eq l.name) (tallies_of (texts l.self.words.now) (drop l.piece-index l.self.pieces.now)) ≡ list_any (bytes_eq l.name) (tallies_of (texts l.self.words.now) l.self.pieces.now)
