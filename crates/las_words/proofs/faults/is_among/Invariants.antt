use Rattle.std.proofs.Common.{◌≡◌, drop}
use Rattle.std.specs.List.{list_any}
use Rattle.std.specs.Str.{bytes_eq}
use Rattle.las_words.specs.Texts.{texts}
use Rattle.las_words.proofs.faults.is_among.Given as goal

abbrev pub invariant-loop-name : goal.invariant-loop-name
invariant-loop-name l =
    list_any (bytes_eq l.word) (texts (drop l.name-index l.names)) ≡ list_any (bytes_eq l.word) (texts l.names)
