-- Ranges of records: the parts of a file's pieces that hold them.
use Rattle.std.specs.Prelude.{ℕ, ◌+◌, ◌-◌, ◌*◌, nat_lt, min, max, Bool, true, false, if◌then◌else◌, List, [], ◌∷◌}
use Rattle.las_header.specs.Fields.{head_of, is_packed, point_offset_of, points_of, record_length_of}
use Rattle.laz_forms.specs.Pieces.{Piece, plain_from}

-- places of records, from 0: from `start` on, and before `stop`
pub record Range : Type 0 where
  pub start : ℕ
  pub stop : ℕ

-- the places of all records that a head counts
abbrev pub whole_range : (head : List ℕ) → Range
whole_range head = record { start = 0; stop = points_of head }

-- how many of the records of places from `at` on, `count` of them, are in a range
abbrev pub taken_of : Range → (at count : ℕ) → ℕ
taken_of range at count = min (at + count) range.stop - max at range.start

-- a piece whose first record has this place, with the records of it that are in a range
abbrev pub part_in : Range → (at : ℕ) → Piece → Piece
part_in range at piece = record piece { skip = range.start - at; taken = taken_of range at piece.count }

-- Those of some pieces that meet a range, each with its records in the range. The first record of the first of them has
-- this place.
abbrev pub parts_in : Range → (at : ℕ) → List Piece → List Piece
parts_in range at [] = []
parts_in range at (p ∷ pieces) =
    if nat_lt 0 (taken_of range at p.count) then part_in range at p ∷ parts_in range (at + p.count) pieces
    else parts_in range (at + p.count) pieces

-- the number of the first piece that meets a range; the number of pieces, if none does
abbrev pub first_in : Range → (at : ℕ) → List Piece → ℕ
first_in range at [] = 0
first_in range at (p ∷ pieces) =
    if nat_lt 0 (taken_of range at p.count) then 0 else 1 + first_in range (at + p.count) pieces

-- What is read of a file with these pieces for a range: of a packed file those of its chunks that meet the range, and
-- of a plain one blocks of 50,000 records, from the first of the range on.
abbrev pub parts_if : (packed : Bool) → (head : List ℕ) → (offset : ℕ) → Range → List Piece → List Piece
parts_if true head offset range pieces = parts_in range 0 pieces
parts_if false head offset range pieces =
    let size = record_length_of head in plain_from size (offset + size * range.start) (range.stop - range.start)

abbrev pub parts_of : (file : List ℕ) → Range → List Piece → List Piece
parts_of file range pieces = parts_if (is_packed (head_of file)) (head_of file) (point_offset_of file) range pieces

-- the number in the file of the first of them; those of a plain file are counted from the first of the range on
abbrev pub first_if : (packed : Bool) → Range → List Piece → ℕ
first_if true range pieces = first_in range 0 pieces
first_if false range pieces = 0

abbrev pub first_of : (file : List ℕ) → Range → List Piece → ℕ
first_of file range pieces = first_if (is_packed (head_of file)) range pieces
