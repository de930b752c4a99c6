-- The filters and the changes that words ask for, each in the order of the words.
use Rattle.std.specs.Prelude.{ℕ, ◌+◌, List, drop, Option, Some, None}
use Rattle.std.specs.List.{filter_map}
use Rattle.las_filter.specs.declared.keep.Keep.{Keep}
use Rattle.las_filter.specs.declared.change.Change.{Change}
use Rattle.las_filter.specs.Kept.{Steps}
use Rattle.las_words.specs.declared.table.Flag.{Flag}
use Rattle.las_words.specs.declared.pieces.Piece.{Piece}
use Rattle.las_words.specs.Table.{OptionMeaning, Filters, Changes, row_of}

-- the filter that an option means, of the words after it
abbrev pub filter_by : OptionMeaning → List (List ℕ) → Option Keep
filter_by (Filters filter) after = Some (filter after)
filter_by _ after = None

-- the change that an option means, of the words after it
abbrev pub change_by : OptionMeaning → List (List ℕ) → Option Change
change_by (Changes change) after = Some (change after)
change_by _ after = None

-- the same of a word that may be no option
abbrev pub filter_in : Option Flag → List (List ℕ) → Option Keep
filter_in None after = None
filter_in (Some flag) after = filter_by (row_of flag).means after

-- the same of a word that may be no option
abbrev pub change_in : Option Flag → List (List ℕ) → Option Change
change_in None after = None
change_in (Some flag) after = change_by (row_of flag).means after

-- the filters of all options, in their order
abbrev pub filters_of : List (List ℕ) → List Piece → List Keep
filters_of words pieces = filter_map (λ piece. filter_in piece.flag (drop (piece.at + 1) words)) pieces

-- the changes of all options, in their order
abbrev pub changes_given : List (List ℕ) → List Piece → List Change
changes_given words pieces = filter_map (λ piece. change_in piece.flag (drop (piece.at + 1) words)) pieces

-- the plan of all options
abbrev pub plan_of : List (List ℕ) → List Piece → Steps
plan_of words pieces = record { keeps = filters_of words pieces; changes = changes_given words pieces }
