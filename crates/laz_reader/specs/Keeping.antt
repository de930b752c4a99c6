-- How a reader keeps a range of a packed file: which chunks it reads, and what is left out of the first and the
-- last.
use Rattle.std.specs.Prelude.{◌≡◌, ℕ, ◌+◌, ◌-◌, ◌≤◌, ◌==◌, if◌then◌else◌, List, [], ◌∷◌, length, take, drop, sum}
use Rattle.std.specs.Prelude.{slice_index_or}
use Rattle.laz_reader.specs.declared.seeking.Ends.{Ends}
use Rattle.laz_forms.specs.Pieces.{Piece, pieces_from}
use Rattle.laz_forms.specs.Ranges.{Range, first_in, parts_in}

-- how many records are left out at the front and at the end of the chunk of a number
abbrev pub skip_at : Ends → (number : ℕ) → ℕ
skip_at ends number = if number == ends.first then ends.skip else 0

abbrev pub tail_at : Ends → (number : ℕ) → ℕ
tail_at ends number = if number + 1 == ends.last then ends.tail else 0

-- how many are taken of the chunk of a number, which has this many
abbrev pub taken_at : Ends → (number count : ℕ) → ℕ
taken_at ends number count = count - skip_at ends number - tail_at ends number

-- the pieces of these chunks, the first of which has this number and begins here, as far as they are read
abbrev pub pieces_kept : Ends → (number at : ℕ) → (points bytes : List ℕ) → List Piece
pieces_kept ends number at [] bytes = []
pieces_kept ends number at (n ∷ points) [] = []
pieces_kept ends number at (n ∷ points) (s ∷ bytes) =
    record { start = at; size = s; count = n; skip = skip_at ends number; taken = taken_at ends number n }
    ∷ pieces_kept ends (number + 1) (at + s) points bytes

-- the pieces that are left to read of the chunks of a file, from the one of this number on, which begins here
abbrev pub left_of : Ends → (number at : ℕ) → (points bytes : List ℕ) → List Piece
left_of ends number at points bytes =
    pieces_kept ends number at (take (ends.last - number) (drop number points))
    (take (ends.last - number) (drop number bytes))

-- of each of these chunks, the first of which has this number, how many records are left out at its front, and how many
-- are taken then
abbrev pub cuts_from : Ends → (number : ℕ) → (points : List ℕ) → List (ℕ × ℕ)
cuts_from ends number [] = []
cuts_from ends number (n ∷ points) =
    (skip_at ends number, taken_at ends number n) ∷ cuts_from ends (number + 1) points

-- What seeking finds among chunks, the first of which begins at `place`: from the first chunk that is read, which
-- begins at `at`, the pieces left are those of the range.
pub record IsSought (range : Range) (place : ℕ) (points bytes : List ℕ) (ends : Ends) (at : ℕ) : Type 0 where
  pub order : ends.first ≤ ends.last
  pub within : ends.last ≤ length points
  pub front : ends.skip ≤ slice_index_or points ends.first 0
  pub near : at + sum (take (ends.last - ends.first) (drop ends.first bytes)) ≤ place + sum bytes
  pub left : left_of ends ends.first at points bytes ≡ parts_in range 0 (pieces_from place points bytes)
  pub number : ends.first ≡ first_in range 0 (pieces_from place points bytes)
