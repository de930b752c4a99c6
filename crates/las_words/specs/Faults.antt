-- The first word that is wrong by the options and their values, from left to right.
use Rattle.std.specs.Prelude.{ℕ, zero, suc, ◌+◌, Bool, true, not, nat_lt, if◌then◌else◌, List, [], ◌∷◌, ◌++◌, drop}
use Rattle.std.specs.Prelude.{Option, Some, None, is_some}
use Rattle.std.specs.Option.{option_or}
use Rattle.std.specs.List.{count_by, list_any}
use Rattle.std.specs.Str.{bytes_eq}
use Rattle.las_words.specs.declared.table.Values.{Values}
use Rattle.las_words.specs.declared.table.Values.TheVariants.{Nothing, Name, Number, Bounds, Several, Signed, Tap}
use Rattle.las_words.specs.declared.table.Flag.{Flag}
use Rattle.las_words.specs.declared.table.Flag.TheVariants.{StartAtPoint, StopAtPoint}
use Rattle.las_words.specs.declared.pieces.Piece.{Piece}
use Rattle.las_words.specs.Texts.{word_at}
use Rattle.las_words.specs.Numbers.{number_in_range, signed_in}
use Rattle.las_words.specs.Counts.{values_of}
use Rattle.las_words.specs.Table.{row_of, first_number, second_number}
use Rattle.las_words.specs.Settings.{number_said, start_of, stop_given}
use Rattle.las_words.specs.Tallies.{tallies_of}

-- a word has the form of a value; a tap's name is one of these
abbrev pub fits : (names : List (List ℕ)) → Values → List ℕ → Bool
fits names Nothing word = true
fits names Name word = not (bytes_eq word [])
fits names (Number low high) word = is_some (number_in_range low high word)
fits names (Bounds most) word = is_some (number_in_range 0 most word)
fits names (Several most) word = is_some (number_in_range 0 most word)
fits names (Signed count) word = is_some (signed_in word)
fits names Tap word = list_any (bytes_eq word) names

-- of this many values, in words that begin at an index, the index of the first that is missing or not of its form
abbrev pub first_wrong : (names : List (List ℕ)) → Values → (at count : ℕ) → List (List ℕ) → Option ℕ
first_wrong names values at zero words = None
first_wrong names values at (suc count) [] = Some at
first_wrong names values at (suc count) (word ∷ words) =
    if fits names values word then first_wrong names values (at + 1) count words else Some at

-- the index of a high number that is below its low one, or of a tap that one of these tallies names already
abbrev pub misplaced : (tallies : List (List ℕ)) → Values → (at : ℕ) → List (List ℕ) → Option ℕ
misplaced tallies (Bounds most) at words =
    if nat_lt (second_number most words) (first_number most words) then Some (at + 1) else None
misplaced tallies Tap at words =
    if list_any (bytes_eq (word_at words 0)) tallies then Some at else None
misplaced tallies _ at words = None

-- the index of the first value that is wrong, in words that begin at an index
abbrev pub value_fault : (names tallies : List (List ℕ)) → Values → (at : ℕ) → List (List ℕ) → Option ℕ
value_fault names tallies values at words =
    option_or (first_wrong names values at (values_of values words) words) (misplaced tallies values at words)

-- an option stands after more of its rivals than it may
abbrev pub follows_too_many : List (List ℕ) → List Piece → Flag → Bool
follows_too_many words earlier flag =
    nat_lt (row_of flag).before
    (count_by (λ piece. list_any (bytes_eq (word_at words piece.at)) (row_of flag).rivals) earlier)

-- the index of a place, of a range of records, that cannot stand beside the one before it: the start is above the stop
abbrev pub crossed : List (List ℕ) → List Piece → Flag → (at : ℕ) → Option ℕ
crossed words earlier StartAtPoint at =
    if nat_lt (stop_given words earlier) (number_said StartAtPoint 0 (word_at words at)) then Some at else None
crossed words earlier StopAtPoint at =
    if nat_lt (number_said StopAtPoint 4294967295 (word_at words at)) (start_of words earlier) then Some at else None
crossed words earlier _ at = None

-- what is wrong with an option of a command, after the options before it, or with its values
abbrev pub option_fault : (names : List (List ℕ)) → List (List ℕ) → List Piece → (at : ℕ) → Option Flag → Option ℕ
option_fault names words earlier at None = Some at
option_fault names words earlier at (Some flag) =
    if follows_too_many words earlier flag
    then Some at
    else
    option_or (value_fault names (tallies_of words earlier) (row_of flag).values (at + 1) (drop (at + 1) words))
    (crossed words earlier flag (at + 1))

-- what is wrong with a word that should be an option, or with its values
abbrev pub word_fault_of : (names : List (List ℕ)) → List (List ℕ) → List Piece → Piece → Option ℕ
word_fault_of names words earlier piece = option_fault names words earlier piece.at piece.flag

-- the first fault of the options that are left, after those before them
abbrev pub first_fault : (names : List (List ℕ)) → List (List ℕ) → List Piece → List Piece → Option ℕ
first_fault names words earlier [] = None
first_fault names words earlier (piece ∷ pieces) =
    option_or (word_fault_of names words earlier piece) (first_fault names words (earlier ++ piece ∷ []) pieces)
