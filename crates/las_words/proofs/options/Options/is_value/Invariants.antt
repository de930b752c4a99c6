use Rattle.std.proofs.Common.{◌≡◌, drop}
use Rattle.std.specs.List.{list_any}
use Rattle.std.specs.Str.{bytes_eq}
use Rattle.las_words.specs.Texts.{texts}
use Rattle.las_words.specs.Settings.{texts_of}
use Rattle.las_words.proofs.options.Options.is_value.Given as goal

abbrev pub invariant-loop-piece : goal.invariant-loop-piece
invariant-loop-piece l =
    list_any (bytes_eq l.text) (texts_of (texts l.self.words.now) l.name (drop l.piece-index l.self.pieces.now)) ≡ list_any (bytes_eq l.text) (texts_of (texts l.self.words.now) l.name l.self.pieces.now)
