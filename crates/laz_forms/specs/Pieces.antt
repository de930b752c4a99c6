-- The pieces in which the records of a file are read: the chunks of a packed file, and blocks of 50,000 records of a
-- plain one.
use Rattle.std.specs.Prelude.{◌≡◌, ℕ, ◌+◌, ◌*◌, ◌-◌, Bool, true, false, List, [], ◌∷◌, take, drop, map, sum}
use Rattle.las_header.specs.Fields.{head_of, is_packed, point_offset_of, points_of, record_length_of}
use Rattle.laz_table.specs.Chunks.{IsAccepted, fixed_sizes}
use Rattle.laz_forms.specs.declared.limits.TheConstants.{PLAIN_BLOCK}
use Rattle.laz_forms.specs.Refusing.{blocks_in, chunks_place, table_part, table_place}

-- A piece of a file: where it begins, its number of bytes and of records, and which of these are taken: how many are
-- left out at its front, and how many are taken then.
pub record Piece : Type 0 where
  pub start : ℕ
  pub size : ℕ
  pub count : ℕ
  pub skip : ℕ
  pub taken : ℕ

-- a piece of which all records are taken
abbrev pub whole_piece : (start size count : ℕ) → Piece
whole_piece start size count = record { start = start; size = size; count = count; skip = 0; taken = count }

-- pieces one after another from a place on, with these numbers of points and of bytes, all taken whole
abbrev pub pieces_from : ℕ → (points bytes : List ℕ) → List Piece
pieces_from at [] bytes = []
pieces_from at (n ∷ points) [] = []
pieces_from at (n ∷ points) (s ∷ bytes) =
    whole_piece at s n ∷ pieces_from (at + s) points bytes

-- the bytes of a piece
abbrev pub piece_bytes : (file : List ℕ) → Piece → List ℕ
piece_bytes file piece = take piece.size (drop piece.start file)

-- how many bytes pieces have, in all
abbrev pub bytes_in : List Piece → ℕ
bytes_in pieces = sum (map (λ piece. piece.size) pieces)

-- the pieces of this many records of a plain file, from a place on
abbrev pub plain_from : (size at records : ℕ) → List Piece
plain_from size at records =
    let points = fixed_sizes PLAIN_BLOCK records in pieces_from at points (map (λ n. size * n) points)

-- the pieces of a plain file
abbrev pub plain_pieces : (file : List ℕ) → List Piece
plain_pieces file =
    plain_from (record_length_of (head_of file)) (point_offset_of file) (points_of (head_of file))

-- the pieces of a packed file: its chunks, as its table has them
abbrev pub ArePackedPieces : (file : List ℕ) → List Piece → Type 0
ArePackedPieces file pieces =
    (points : List ℕ) × (bytes : List ℕ)
    × IsAccepted (table_part file) (blocks_in (head_of file)) (table_place file - chunks_place file) points bytes
    × (pieces ≡ pieces_from (chunks_place file) points bytes)

-- the pieces of an accepted file
abbrev pub ArePiecesIf : (packed : Bool) → (file : List ℕ) → List Piece → Type 0
ArePiecesIf true file pieces = ArePackedPieces file pieces
ArePiecesIf false file pieces = pieces ≡ plain_pieces file

abbrev pub ArePieces : (file : List ℕ) → List Piece → Type 0
ArePieces file pieces = ArePiecesIf (is_packed (head_of file)) file pieces
