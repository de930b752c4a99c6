use Rattle.std.proofs.Common.{◌≡◌, drop}
use Rattle.std.specs.List.{find}
use Rattle.std.specs.Str.{bytes_eq}
use Rattle.las_words.specs.Table.{row_of, flag_named}
use Rattle.las_words.proofs.table.Tool.flag.Given as goal

abbrev pub invariant-loop-flag : goal.invariant-loop-flag
invariant-loop-flag l =
    find (λ flag. bytes_eq l.word (row_of flag).name) (drop l.flag-index l.flag-items) ≡ flag_named l.fn.self l.fn.word
