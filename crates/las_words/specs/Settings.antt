-- What options that are looked up by name say, and the settings that they make.
use Rattle.std.specs.Prelude.{ℕ, ◌+◌, Bool, if◌then◌else◌, List, [], Option, Some, None}
use Rattle.std.specs.Prelude.{find, is_some, unwrap_or, codes}
use Rattle.std.specs.List.{filter_map}
use Rattle.std.specs.Option.{option_map, option_map_or, option_or}
use Rattle.std.specs.Str.{bytes_eq}
use Rattle.las_filter.specs.declared.rule.Rule.{Rule}
use Rattle.las_filter.specs.declared.rule.Rule.TheVariants.{Every, Class, Source, Return}
use Rattle.las_thin.specs.declared.pick.Pick.{Pick}
use Rattle.las_thin.specs.declared.pick.Pick.TheVariants as pick
use Rattle.las_thin.specs.Sieving as thin
use Rattle.las_words.specs.declared.table.Flag.{Flag}
use Rattle.las_words.specs.declared.table.Flag.TheVariants.{ChunkSize, Cores, Split, Format, Extra}
use Rattle.las_words.specs.declared.table.Flag.TheVariants.{StartAtPoint, StopAtPoint, ThinRaw}
use Rattle.las_words.specs.declared.table.Values.{Values}
use Rattle.las_words.specs.declared.table.Values.TheVariants.{Number}
use Rattle.las_words.specs.declared.pieces.Piece.{Piece}
use Rattle.las_words.specs.Texts.{word_at}
use Rattle.las_words.specs.Numbers.{number_in_range}
use Rattle.las_words.specs.Table.{row_of}

-- the index of the first option of a name
abbrev pub place_of : List (List ℕ) → List ℕ → List Piece → Option ℕ
place_of words name pieces =
    option_map (λ piece. piece.at) (find (λ piece. bytes_eq (word_at words piece.at) name) pieces)

-- an option of a name is given
abbrev pub is_given : List (List ℕ) → List ℕ → List Piece → Bool
is_given words name pieces = is_some (place_of words name pieces)

-- the first value of an option, and no bytes if it is not given
abbrev pub text_given : List (List ℕ) → List ℕ → List Piece → List ℕ
text_given words name pieces = option_map_or (λ at. word_at words (at + 1)) (place_of words name pieces) []

-- the first value of a word, if it is an option of a name
abbrev pub value_by : List (List ℕ) → List ℕ → Piece → Option (List ℕ)
value_by words name piece =
    if bytes_eq (word_at words piece.at) name then Some (word_at words (piece.at + 1)) else None

-- the first values of all options of a name, in their order
abbrev pub texts_of : List (List ℕ) → List ℕ → List Piece → List (List ℕ)
texts_of words name pieces = filter_map (value_by words name) pieces

-- a number of the range that an option has
abbrev pub number_for : Values → List ℕ → Option ℕ
number_for (Number low high) word = number_in_range low high word
number_for _ word = None

-- the number that a value of an option is, or the one that stands for it if it is none
abbrev pub number_said : Flag → ℕ → List ℕ → ℕ
number_said flag default word = unwrap_or (number_for (row_of flag).values word) default

-- the number that an option says, or the one that stands for it if it is not given
abbrev pub number_given : List (List ℕ) → Flag → ℕ → List Piece → ℕ
number_given words flag default pieces = number_said flag default (text_given words (row_of flag).name pieces)

-- the number of records of a chunk, 50,000 unless it is given
abbrev pub chunk_given : List (List ℕ) → List Piece → ℕ
chunk_given words pieces = number_given words ChunkSize 50000 pieces

-- the number of workers, one unless it is given
abbrev pub workers_of : List (List ℕ) → List Piece → ℕ
workers_of words pieces = number_given words Cores 1 pieces

-- the place of the first record that is taken, 0 unless it is given
abbrev pub start_of : List (List ℕ) → List Piece → ℕ
start_of words pieces = number_given words StartAtPoint 0 pieces

-- the place of the first one after it that is not taken, the greatest unless it is given
abbrev pub stop_given : List (List ℕ) → List Piece → ℕ
stop_given words pieces = number_given words StopAtPoint 4294967295 pieces

-- the side of a cell, if one record of each cell is to stay
abbrev pub step_of : List (List ℕ) → List Piece → Option ℕ
step_of words pieces =
    if is_given words (codes "-thin_raw") pieces then Some (number_given words ThinRaw 1 pieces) else None

-- which record of a cell stays, the first unless it is said
abbrev pub pick_of : List (List ℕ) → List Piece → Pick
pick_of words pieces =
    if is_given words (codes "-lowest") pieces then pick.Lowest
    else if is_given words (codes "-highest") pieces then pick.Highest
    else pick.First

-- the index of an option that says which record of a cell stays, if there are no cells
abbrev pub pick_alone : List (List ℕ) → List Piece → Option ℕ
pick_alone words pieces =
    if is_given words (codes "-thin_raw") pieces
    then None
    else option_or (place_of words (codes "-lowest") pieces) (place_of words (codes "-highest") pieces)

-- how records are sieved: into cells, and whether those that repeat a position are dropped
abbrev pub sieve_of : List (List ℕ) → List Piece → thin.Settings
sieve_of words pieces = record {
  step = step_of words pieces;
  pick = pick_of words pieces;
  unique = is_given words (codes "-drop_repeated") pieces;
}

-- the point data format, 0 unless it is given
abbrev pub format_given : List (List ℕ) → List Piece → ℕ
format_given words pieces = number_given words Format 0 pieces

-- the number of extra bytes of a record, none unless it is given
abbrev pub extra_given : List (List ℕ) → List Piece → ℕ
extra_given words pieces = number_given words Extra 0 pieces

-- the rule by which a file is split
abbrev pub rule_of : List (List ℕ) → List Piece → Rule
rule_of words pieces =
    if is_given words (codes "-by_classification") pieces then Class
    else if is_given words (codes "-by_flightline") pieces then Source
    else if is_given words (codes "-by_return") pieces then Return
    else Every (number_given words Split 1 pieces)
