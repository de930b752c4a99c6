-- The records of a file, piece by piece, and its plain form.
use Rattle.std.specs.Prelude.{◌≡◌, ℕ, ◌+◌, ◌*◌, Bool, true, false, List, [], ◌∷◌, ◌++◌, take, drop, Option, Some, None}
use Rattle.std.specs.Prelude.{slice_get}
use Rattle.std.specs.List.{concat}
use Rattle.las_header.specs.Fields.{head_of, is_packed}
use Rattle.las_header.specs.Plain.{plain_head}
use Rattle.laz_chunk.specs.Chunks.{AreRecords, Holds}
use Rattle.laz_chunk.specs.Layouts.{record_length}
use Rattle.laz_forms.specs.Packing.{record_layout}
use Rattle.laz_forms.specs.Pieces.{ArePieces, Piece, piece_bytes}
use Rattle.laz_forms.specs.Ranges.{Range, first_of, parts_of}

-- A chunk holds this block of records: as many as its count, and some spelling of them fits it.
pub record HoldsChunk (head : List ℕ) (count : ℕ) (bytes block : List ℕ) : Type 0 where
  pub are : AreRecords (record_layout head) count block
  pub holds : Holds (record_layout head) bytes block

-- what a piece takes of the block of all of its records, which have this many bytes each
abbrev pub cut_block : (size : ℕ) → Piece → (block : List ℕ) → List ℕ
cut_block size piece block = take (size * piece.taken) (drop (size * piece.skip) block)

-- A piece holds this block of records: that of a packed file what it takes of the block that its bytes hold as a chunk,
-- and that of a plain file its bytes as they stand.
abbrev pub HoldsIf : (packed : Bool) → (file : List ℕ) → Piece → List ℕ → Type 0
HoldsIf true file piece block =
    (whole : List ℕ) × HoldsChunk (head_of file) piece.count (piece_bytes file piece) whole
    × (block ≡ cut_block (record_length (record_layout (head_of file))) piece whole)
HoldsIf false file piece block = block ≡ piece_bytes file piece

abbrev pub HoldsBlock : (file : List ℕ) → Piece → List ℕ → Type 0
HoldsBlock file piece block = HoldsIf (is_packed (head_of file)) file piece block

-- each piece holds its block
abbrev pub HoldBlocks : (file : List ℕ) → List Piece → List (List ℕ) → Type 0
HoldBlocks file [] [] = Unit {0}
HoldBlocks file [] (b ∷ blocks) = ⊥
HoldBlocks file (p ∷ pieces) [] = ⊥
HoldBlocks file (p ∷ pieces) (b ∷ blocks) = HoldsBlock file p b × HoldBlocks file pieces blocks

-- The pieces of a file hold these blocks, and no others.
pub record HoldOnly (file : List ℕ) (pieces : List Piece) (blocks : List (List ℕ)) : Type 0 where
  pub hold : HoldBlocks file pieces blocks
  pub only : (others : List (List ℕ)) → HoldBlocks file pieces others → others ≡ blocks

-- The piece of this number is the first that holds no records of its count.
abbrev pub IsBadPiece : (file : List ℕ) → List Piece → ℕ → Type 0
IsBadPiece file pieces i =
    (piece : Piece) × (slice_get pieces i ≡ Some piece) × ((block : List ℕ) → HoldsBlock file piece block → ⊥)

-- The pieces hold these blocks: all of them, or those before the first that holds no records of its count.
abbrev pub AreRead : (file : List ℕ) → List Piece → (blocks : List (List ℕ)) → (bad : Option ℕ) → Type 0
AreRead file pieces blocks None = HoldBlocks file pieces blocks
AreRead file pieces blocks (Some i) = HoldBlocks file (take i pieces) blocks × IsBadPiece file pieces i

-- The records of an accepted file: all of them, or those before its first bad chunk.
abbrev pub AreRecordsOf : (file : List ℕ) → (blocks : List (List ℕ)) → (bad : Option ℕ) → Type 0
AreRecordsOf file blocks bad = (pieces : List Piece) × ArePieces file pieces × AreRead file pieces blocks bad

-- a number of a piece in all pieces, by its number in those from the n-th on
abbrev pub moved : (n : ℕ) → Option ℕ → Option ℕ
moved n None = None
moved n (Some i) = Some (n + i)

-- The records of a range of an accepted file: all of them, or those before the first bad chunk that meets the range,
-- which has this number in the file.
abbrev pub AreRecordsIn : (file : List ℕ) → Range → (blocks : List (List ℕ)) → (bad : Option ℕ) → Type 0
AreRecordsIn file range blocks bad =
    (pieces : List Piece) × (found : Option ℕ) × ArePieces file pieces
    × AreRead file (parts_of file range pieces) blocks found × (bad ≡ moved (first_of file range pieces) found)

-- the plain form of a packed file: its plain head, and its records
abbrev pub Unpacks : (file output : List ℕ) → Type 0
Unpacks file output =
    (blocks : List (List ℕ)) × AreRecordsOf file blocks None × (output ≡ plain_head file ++ concat blocks)
