-- The tallies that words ask for, in the order of the words.
use Rattle.std.specs.Prelude.{ℕ, ◌+◌, List, drop, Option, Some, None}
use Rattle.std.specs.List.{filter_map}
use Rattle.las_words.specs.declared.table.Flag.{Flag}
use Rattle.las_words.specs.declared.pieces.Piece.{Piece}
use Rattle.las_words.specs.Texts.{word_at}
use Rattle.las_words.specs.Table.{OptionMeaning, TallyNames, row_of}

-- the tally that an option names, of the words after it
abbrev pub tally_by : OptionMeaning → List (List ℕ) → Option (List ℕ)
tally_by TallyNames after = Some (word_at after 0)
tally_by _ after = None

-- the same of a word that may be no option
abbrev pub tally_in : Option Flag → List (List ℕ) → Option (List ℕ)
tally_in None after = None
tally_in (Some flag) after = tally_by (row_of flag).means after

-- the tallies of all options, in their order
abbrev pub tallies_of : List (List ℕ) → List Piece → List (List ℕ)
tallies_of words pieces = filter_map (λ piece. tally_in piece.flag (drop (piece.at + 1) words)) pieces
