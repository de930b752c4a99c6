-- The names that a command has, and which of them it may not have.
use Rattle.std.specs.Prelude.{ℕ, ◌+◌, ◌-◌, Bool, not, ◌&&◌, ◌||◌, nat_eq, if◌then◌else◌, List, [], length, take}
use Rattle.std.specs.Prelude.{Option, None, codes, drop}
use Rattle.std.specs.Option.{option_map, option_or}
use Rattle.std.specs.List.{ends_with, list_any}
use Rattle.std.specs.Str.{bytes_eq}
use Rattle.las_filter.specs.Parts.{part_name}
use Rattle.las_words.specs.declared.table.Tool.{Tool}
use Rattle.las_words.specs.declared.table.Tool.TheVariants.{Lasmerge, Lassplit, Make}
use Rattle.las_words.specs.declared.pieces.Piece.{Piece}
use Rattle.las_words.specs.Texts.{is_packed_name}
use Rattle.las_words.specs.Numbers.{number_or_zero}
use Rattle.las_words.specs.Settings.{is_given, place_of, text_given, texts_of}

-- the ending that parts have by the name of the output
abbrev pub extension_of : List ℕ → List ℕ
extension_of output =
    if ends_with nat_eq output (codes ".las") then codes ".las"
    else if ends_with nat_eq output (codes ".LAS") then codes ".LAS"
    else []

-- the stem that they have: the name without that ending
abbrev pub stem_of : List ℕ → List ℕ
stem_of output = take (length output - length (extension_of output)) output

-- the number that a name has between a stem with an underscore and an ending, or 0
abbrev pub number_within : (stem end name : List ℕ) → ℕ
number_within stem end name =
    number_or_zero 4294967295 (take (length name - length end - (length stem + 1)) (drop (length stem + 1) name))

-- a name is that of a part: of the one whose number it has
abbrev pub is_part_name : (stem end name : List ℕ) → Bool
is_part_name stem end name = bytes_eq name (part_name stem end (number_within stem end name))

-- the index of the name after an option
abbrev pub name_after : List (List ℕ) → List ℕ → List Piece → Option ℕ
name_after words name pieces = option_map (λ at. at + 1) (place_of words name pieces)

-- the index of the output's name, if it is that of an input
abbrev pub overwritten_name : List (List ℕ) → List Piece → Option ℕ
overwritten_name words pieces =
    if list_any (bytes_eq (text_given words (codes "-o") pieces)) (texts_of words (codes "-i") pieces)
    then name_after words (codes "-o") pieces
    else None

-- the index of the output's name, if parts cannot be named after it: packed ones, or the input
abbrev pub unfit_parts : List (List ℕ) → List Piece → Option ℕ
unfit_parts words pieces =
    let output = text_given words (codes "-o") pieces in
    if is_packed_name output || is_part_name (stem_of output) (extension_of output) (text_given words (codes "-i") pieces)
    then name_after words (codes "-o") pieces
    else None

-- the index of the packed output's name, if it is that of the plain one
abbrev pub same_output : List (List ℕ) → List Piece → Option ℕ
same_output words pieces =
    if bytes_eq (text_given words (codes "-z") pieces) (text_given words (codes "-o") pieces)
    then name_after words (codes "-z") pieces
    else None

-- the index of the output's name, if chunks are copied into it and it is that of a plain file
abbrev pub plain_copy : List (List ℕ) → List Piece → Option ℕ
plain_copy words pieces =
    if is_given words (codes "-copy_chunks") pieces
    && (not (is_given words (codes "-olaz") pieces) && not (is_packed_name (text_given words (codes "-o") pieces)))
    then name_after words (codes "-o") pieces
    else None

-- the index of the name that a command may not have
abbrev pub wrong_name : Tool → List (List ℕ) → List Piece → Option ℕ
wrong_name Lassplit words pieces = option_or (overwritten_name words pieces) (unfit_parts words pieces)
wrong_name Lasmerge words pieces = option_or (overwritten_name words pieces) (plain_copy words pieces)
wrong_name Make words pieces = same_output words pieces
wrong_name _ words pieces = overwritten_name words pieces
