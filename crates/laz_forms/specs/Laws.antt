-- Laws of files.
use Rattle.std.specs.Prelude.{◌≡◌, ℕ, ◌-◌, ◌*◌, ◌^◌, ◌<◌, ◌≤◌, ◌↔◌, true, false, if◌then◌else◌, List, [], ◌++◌, length}
use Rattle.std.specs.Prelude.{map, take, drop, Option, Some, None}
use Rattle.std.specs.List.{concat}
use Rattle.las_header.specs.declared.limits.TheConstants.{MAX_PLAIN_OFFSET}
use Rattle.las_header.specs.declared.refusal.Refusal.{Refusal}
use Rattle.las_header.specs.Counting.{with_counts}
use Rattle.las_header.specs.Fields.{head_of, is_packed, point_offset_of, points_of, record_length_of}
use Rattle.las_header.specs.Heads.{IsHead}
use Rattle.las_header.specs.Plain.{plain_head}
use Rattle.las_header.specs.Vlrs.{laszip_vlrs_of}
use Rattle.las_header.specs.Limits.{IsChunkSize}
use Rattle.las_points.specs.Tally.{counted_file, counts_of}
use Rattle.laz_range.specs.Span.{IsBytes}
use Rattle.laz_table.specs.Chunks.{fixed_sizes}
use Rattle.laz_forms.specs.Outputs.{Output, finished, records_after}
use Rattle.laz_forms.specs.Packing.{chunk_blocks, chunks_of, pack, packed_file}
use Rattle.laz_forms.specs.Pieces.{ArePieces, Piece, piece_bytes, pieces_from}
use Rattle.laz_forms.specs.Ranges.{Range, first_of, parts_of, whole_range}
use Rattle.laz_forms.specs.Records.{HoldOnly, AreRecordsIn, AreRecordsOf, HoldBlocks, HoldsBlock, IsBadPiece, Unpacks}
use Rattle.laz_forms.specs.Records.{moved}
use Rattle.laz_forms.specs.Refusing.{IsAcceptedFile, IsRefusal, chunks_place}

-- A file is refused for at most one cause.
abbrev pub IsRefusedOnce : Type 0
IsRefusedOnce = (file : List ℕ) (one other : Option Refusal) → IsRefusal file one → IsRefusal file other → one ≡ other

-- A file has at most one list of pieces.
abbrev pub HasOnePieces : Type 0
HasOnePieces = (file : List ℕ) (one other : List Piece) → ArePieces file one → ArePieces file other → one ≡ other

-- the head of a finished output: with the counts of its records, if they are counted
abbrev pub final_head : Output → (records : List ℕ) → List ℕ
final_head out records =
    if out.counted then with_counts (counts_of (records_after out.head records)) out.head else out.head

-- a plain head and its records, packed in chunks of this many records, or plain
abbrev pub file_of : Option ℕ → (head records : List ℕ) → List ℕ
file_of None head records = head ++ records
file_of (Some chunk) head records = pack head records chunk

-- A finished output is its head and its records, in the form that was asked for.
abbrev pub IsFinished : Type 0
IsFinished = (out : Output) (records : List ℕ) → IsHead out.head
    → finished out records ≡ file_of out.chunk (final_head out records) records

-- A finished output that is plain, and whose records are counted, is the head with their counts, and the records.
abbrev pub IsCountedFile : Type 0
IsCountedFile = (out : Output) (count : ℕ) (records : List ℕ) → IsHead out.head → out.counted ≡ true
    → out.chunk ≡ None → length records ≡ record_length_of out.head * count
    → finished out records ≡ counted_file out.head (records_after out.head records)

-- An accepted plain file, and a number of records that its chunks may have.
pub record CanBePacked (file : List ℕ) (chunk : ℕ) : Type 0 where
  pub accepted : IsAcceptedFile file
  pub plain : is_packed (head_of file) ≡ false
  pub bytes : IsBytes file
  pub size : IsChunkSize chunk

-- The packed form of such a file is accepted.
abbrev pub IsPackedAccepted : Type 0
IsPackedAccepted = (file : List ℕ) (chunk : ℕ) → CanBePacked file chunk → IsAcceptedFile (packed_file file chunk)

-- The pieces of a file, which are these chunks, hold these blocks.
pub record HasChunks (file : List ℕ) (pieces : List Piece) (chunks blocks : List (List ℕ)) : Type 0 where
  pub pieces_are : ArePieces file pieces
  pub chunks_are : map (piece_bytes file) pieces ≡ chunks
  pub hold : HoldBlocks file pieces blocks

-- the pieces of a packed form: its chunks, one after another, each with its number of records
abbrev pub pieces_of : (head records : List ℕ) → (chunk : ℕ) → List Piece
pieces_of head records chunk =
    pieces_from (chunks_place (pack head records chunk)) (fixed_sizes chunk (points_of head))
    (map length (chunks_of head (chunk_blocks head records chunk)))

-- a packed form has its chunks, which hold the blocks of the records
abbrev pub HasItsChunks : (head records : List ℕ) → (chunk : ℕ) → Type 0
HasItsChunks head records chunk =
    let blocks = chunk_blocks head records chunk in
    HasChunks (pack head records chunk) (pieces_of head records chunk) (chunks_of head blocks) blocks

-- The pieces of the packed form of such a file are its chunks, which hold the blocks of its records.
abbrev pub ArePackedChunks : Type 0
ArePackedChunks = (file : List ℕ) (chunk : ℕ) → CanBePacked file chunk
    → HasItsChunks (plain_head file) (drop (point_offset_of file) file) chunk

-- The plain form of the packed form of such a file is the file again.
abbrev pub UnpacksAgain : Type 0
UnpacksAgain = (file : List ℕ) (chunk : ℕ) → CanBePacked file chunk → Unpacks (packed_file file chunk) file

-- the pieces before the bad one, or all pieces if none is bad
abbrev pub pieces_before : (bad : Option ℕ) → List Piece → List Piece
pieces_before None pieces = pieces
pieces_before (Some i) pieces = take i pieces

-- the piece of this number is bad, if there is a number
abbrev pub IsBadIf : (bad : Option ℕ) → (file : List ℕ) → List Piece → Type 0
IsBadIf None file pieces = Unit {0}
IsBadIf (Some i) file pieces = IsBadPiece file pieces i

-- Records that are read piece by piece are the only ones of the file, and so is the first bad piece: a reader finds
-- that each piece before it holds one block alone.
abbrev pub IsReadOnce : Type 0
IsReadOnce = (file : List ℕ) (pieces : List Piece) (blocks : List (List ℕ)) (bad : Option ℕ) → ArePieces file pieces
    → HoldOnly file (pieces_before bad pieces) blocks → IsBadIf bad file pieces
    → (others : List (List ℕ)) (worse : Option ℕ) → AreRecordsOf file others worse
    → (others ≡ blocks) × (worse ≡ bad)

-- Whatever the bytes of a file are, each piece of it holds at most one block of records.
abbrev pub HasOneBlock : Type 0
HasOneBlock = (file : List ℕ) (piece : Piece) (one other : List ℕ) → IsBytes file
    → HoldsBlock file piece one → HoldsBlock file piece other → one ≡ other

-- So a file has at most one list of records, and one first bad piece,
abbrev pub HasOneRecords : Type 0
HasOneRecords = (file : List ℕ) (blocks others : List (List ℕ)) (bad worse : Option ℕ) → IsBytes file
    → AreRecordsOf file blocks bad → AreRecordsOf file others worse → (others ≡ blocks) × (worse ≡ bad)

-- and so has each range of it.
abbrev pub HasOneInRange : Type 0
HasOneInRange = (file : List ℕ) (range : Range) (blocks others : List (List ℕ)) (bad worse : Option ℕ) → IsBytes file
    → AreRecordsIn file range blocks bad → AreRecordsIn file range others worse → (others ≡ blocks) × (worse ≡ bad)

-- The records of the range of all places are the records of the file.
abbrev pub IsWholeOfAll : Type 0
IsWholeOfAll = (file : List ℕ) (blocks : List (List ℕ)) (bad : Option ℕ)
    → AreRecordsIn file (whole_range (head_of file)) blocks bad ↔ AreRecordsOf file blocks bad

-- Records of a range that are read piece by piece are its only ones, and so is the first bad piece that meets it.
abbrev pub IsRangeReadOnce : Type 0
IsRangeReadOnce = (file : List ℕ) (range : Range) (pieces : List Piece) (blocks : List (List ℕ)) (bad : Option ℕ)
    → ArePieces file pieces → HoldOnly file (pieces_before bad (parts_of file range pieces)) blocks
    → IsBadIf bad file (parts_of file range pieces)
    → (others : List (List ℕ)) (worse : Option ℕ) → AreRecordsIn file range others worse
    → (others ≡ blocks) × (worse ≡ moved (first_of file range pieces) bad)

-- The records of a range of an accepted file, all of whose chunks hold records, are that slice of its records.
abbrev pub IsSliceOfRecords : Type 0
IsSliceOfRecords = (file : List ℕ) (range : Range) (blocks : List (List ℕ)) → IsAcceptedFile file → IsBytes file
    → range.start ≤ range.stop → range.stop ≤ points_of (head_of file) → AreRecordsOf file blocks None
    → let size = record_length_of (head_of file) in
    (parts : List (List ℕ)) × AreRecordsIn file range parts None
    × (concat parts ≡ take (size * (range.stop - range.start)) (drop (size * range.start) (concat blocks)))

-- No chunk meets an empty range: it has no records, and no bad chunk.
abbrev pub IsEmptyRange : Type 0
IsEmptyRange = (file : List ℕ) (range : Range) (blocks : List (List ℕ)) (bad : Option ℕ)
    → range.stop ≤ range.start → AreRecordsIn file range blocks bad → (blocks ≡ []) × (bad ≡ None)

-- The packed form of an accepted plain file has no bad piece.
abbrev pub HasNoBadPiece : Type 0
HasNoBadPiece = (file : List ℕ) (chunk : ℕ) → CanBePacked file chunk → (pieces : List Piece) (i : ℕ)
    → ArePieces (packed_file file chunk) pieces → IsBadPiece (packed_file file chunk) pieces i → ⊥

-- What is read of the packed form of an accepted plain file is its records: a reader finds that each piece holds one
-- block alone.
abbrev pub ReadsBack : Type 0
ReadsBack = (file : List ℕ) (chunk : ℕ) → CanBePacked file chunk → (pieces : List Piece) (blocks : List (List ℕ))
    → ArePieces (packed_file file chunk) pieces → HoldOnly (packed_file file chunk) pieces blocks
    → plain_head (packed_file file chunk) ++ concat blocks ≡ file

-- An accepted plain file is its own plain form.
abbrev pub IsItsPlainForm : Type 0
IsItsPlainForm = (file : List ℕ) → IsAcceptedFile file → is_packed (head_of file) ≡ false → IsBytes file
    → Unpacks file file

-- What is read of an accepted plain file is its records.
abbrev pub ReadsPlain : Type 0
ReadsPlain = (file : List ℕ) → IsAcceptedFile file → is_packed (head_of file) ≡ false → IsBytes file
    → (pieces : List Piece) (blocks : List (List ℕ)) → ArePieces file pieces → HoldBlocks file pieces blocks
    → concat blocks ≡ drop (point_offset_of file) file

-- a plain head and the point records that it counts, as bytes
pub record AreHeadAndRecords (head records : List ℕ) : Type 0 where
  pub head_is : IsHead head
  pub plain : is_packed head ≡ false
  pub none : laszip_vlrs_of head ≡ []
  pub near : length head ≤ MAX_PLAIN_OFFSET
  pub head_bytes : IsBytes head
  pub whole : length records ≡ record_length_of head * points_of head
  pub record_bytes : IsBytes records

-- They are an accepted file, and so is their packed form, which unpacks to them.
abbrev pub IsAcceptedPlain : Type 0
IsAcceptedPlain = (head records : List ℕ) → AreHeadAndRecords head records → IsAcceptedFile (head ++ records)

abbrev pub IsAcceptedPack : Type 0
IsAcceptedPack = (head records : List ℕ) (chunk : ℕ) → AreHeadAndRecords head records → IsChunkSize chunk
    → IsAcceptedFile (pack head records chunk) × Unpacks (pack head records chunk) (head ++ records)

-- A plain head with the counts of whole records, as that of a finished output has, is a head that counts them.
abbrev pub AreCounted : Type 0
AreCounted = (head records : List ℕ) (count : ℕ) → IsHead head → is_packed head ≡ false → laszip_vlrs_of head ≡ []
    → length head ≤ MAX_PLAIN_OFFSET → IsBytes head → IsBytes records → length records ≡ record_length_of head * count
    → count < 2 ^ 32 → AreHeadAndRecords (with_counts (counts_of (records_after head records)) head) records
