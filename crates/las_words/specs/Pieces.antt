-- Words cut into options and their values.
use Rattle.std.specs.Prelude.{ℕ, zero, suc, ◌+◌, ◌<◌, List, [], ◌∷◌, length, Option, Some, None, All}
use Rattle.las_words.specs.declared.table.Tool.{Tool}
use Rattle.las_words.specs.declared.table.Flag.{Flag}
use Rattle.las_words.specs.declared.pieces.Piece.{Piece}
use Rattle.las_words.specs.Counts.{values_of}
use Rattle.las_words.specs.Table.{row_of, flag_named}

-- how many words after an option are its values, or should be; after a word that is no option it does not matter
abbrev pub values_after : Option Flag → List (List ℕ) → ℕ
values_after None words = 0
values_after (Some flag) words = values_of (row_of flag).values words

-- the words from an index on, cut into options, after this many words that are values of an option before
abbrev pub cut_words : Tool → (at values : ℕ) → List (List ℕ) → List Piece
cut_words tool at values [] = []
cut_words tool at zero (word ∷ words) =
    record { at = at; flag = flag_named tool word } ∷ cut_words tool (at + 1) (values_after (flag_named tool word) words) words
cut_words tool at (suc values) (word ∷ words) = cut_words tool (at + 1) values words

-- each option stands among the words
abbrev pub StandIn : {X : Type 0} → List X → List Piece → Type 0
StandIn words pieces = All (λ piece. piece.at < length words) pieces
