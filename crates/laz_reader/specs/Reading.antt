-- What contracts see of a reader, for which file it stands, and what calls that read leave.
use Rattle.std.specs.Prelude.{◌≡◌, ◌⊎◌, ℕ, ◌+◌, ◌-◌, ◌*◌, ◌≤◌, ◌<◌, ◌^◌, Bool, true, false, if◌then◌else◌, List, []}
use Rattle.std.specs.Prelude.{◌∷◌, ◌++◌, drop, length, map, min, sum, take, Option, Some, None, All, slice_index_or}
use Rattle.std.specs.Option.{is_some}
use Rattle.las_header.specs.Heads.{HeadView}
use Rattle.las_header.specs.Fields.{head_of, is_packed, points_of, record_length_of}
use Rattle.las_header.specs.Refusals.{causes_of, first_cause}
use Rattle.las_header.specs.Vlrs.{laszip_vlrs_of}
use Rattle.las_outside.specs.Faults.{Rose}
use Rattle.las_outside.specs.Files.{WhereKnown}
use Rattle.las_outside.specs.Outside.{Outside}
use Rattle.las_header.specs.Numbers.{number_at}
use Rattle.laz_table.specs.declared.chunks.Blocks.{Blocks}
use Rattle.laz_table.specs.declared.chunks.Blocks.TheVariants.{Fixed, Counted}
use Rattle.laz_table.specs.declared.limits.TheConstants.{MAX_CHUNK_BYTES, MAX_CHUNKS, MIN_TABLE_BYTES}
use Rattle.laz_table.specs.Chunks.{IsChunkCount}
use Rattle.laz_table.specs.VlrCauses.{chunk_size_of}
use Rattle.laz_chunk.specs.Layouts.{Format, record_length}
use Rattle.laz_workers.specs.Numbers.{times}
use Rattle.laz_workers.specs.Rooms.{HandSeen, RoomSeen, answer_in, lengths_of, number_of, numbers_in, rooms_of}
use Rattle.laz_forms.specs.declared.fault.Fault.{Fault}
use Rattle.laz_forms.specs.declared.fault.Fault.TheVariants.{Refused, Read, Write, Memory}
use Rattle.laz_forms.specs.Packing.{format_in, record_layout}
use Rattle.laz_forms.specs.Pieces.{ArePieces, Piece, pieces_from, plain_from}
use Rattle.laz_forms.specs.Ranges.{Range, first_if, first_of, parts_if, parts_of, whole_range}
use Rattle.laz_reader.specs.Keeping.{left_of}
use Rattle.laz_reader.specs.declared.seeking.Ends.{Ends}
use Rattle.laz_forms.specs.Records.{AreRead, HoldBlocks, IsBadPiece, moved}
use Rattle.laz_forms.specs.Refusing.{IsAcceptedFile, has_bad_pointer, table_end, table_place}

-- What a call that only reads leaves of the outside, if it ends with this fault. A missing name is an outside as
-- before; after a refusal or out of memory no count of faults has moved, and no call that reads ends with `Write`.
abbrev pub EndsReading : (missing : Type 0) → (old new : Outside) → Fault → Type 0
EndsReading missing old new (Refused cause) = new.read_faults ≡ old.read_faults
EndsReading missing old new Read = missing ⊎ Rose old.read_faults new.read_faults
EndsReading missing old new Write = ⊥
EndsReading missing old new Memory = new.read_faults ≡ old.read_faults

-- The same of a call that reads bytes of a file that is there: it ends with `Read` or `Memory` alone.
abbrev pub FailsReading : (old new : Outside) → Fault → Type 0
FailsReading old new (Refused cause) = ⊥
FailsReading old new Read = Rose old.read_faults new.read_faults
FailsReading old new Write = ⊥
FailsReading old new Memory = new.read_faults ≡ old.read_faults

-- The head is that of the file, and none of the conditions that front and head decide holds.
pub record IsHeadOf (file : List ℕ) (head : HeadView) : Type 0 where
  pub bytes : head.bytes ≡ head_of file
  pub size : head.size ≡ length file
  pub none : first_cause (causes_of file) ≡ None

-- The chunk table of the file lies between these places.
pub record IsTablePlace (file : List ℕ) (start end : ℕ) : Type 0 where
  pub fine : has_bad_pointer file ≡ false
  pub starts : start ≡ table_place file
  pub ends : end ≡ table_end file

-- how many bytes of what is left of a file decide which table it begins with
abbrev pub table_size : (part : List ℕ) → ℕ
table_size part = MIN_TABLE_BYTES + MAX_CHUNK_BYTES * min (number_at 4 4 part) MAX_CHUNKS

-- there may be at most 2^24 chunks
abbrev pub AreFewChunks : Blocks → Type 0
AreFewChunks blocks = (n : ℕ) → IsChunkCount blocks n → n ≤ MAX_CHUNKS

-- how many points the chunks of a table have, in all
abbrev pub points_listed : Blocks → ℕ
points_listed (Fixed chunk points) = points
points_listed (Counted points) = points

-- the lists of a table's chunks, whose bytes take this many in all
pub record AreChunkLists (points bytes : List ℕ) (total : ℕ) : Type 0 where
  pub same : length points ≡ length bytes
  pub few : length points ≤ MAX_CHUNKS
  pub whole : sum bytes ≡ total

-- the chunk size of a packed file, and none of a plain one
abbrev pub chunk_of : (head : List ℕ) → Option ℕ
chunk_of head = if is_packed head then Some (chunk_size_of head) else None

-- the pieces of a file with this head, in which a packed file lists its chunks so, after the eight bytes of the pointer
abbrev pub pieces_listed : (chunk : Option ℕ) → (head : List ℕ) → (points bytes : List ℕ) → List Piece
pieces_listed None head points bytes = plain_from (record_length_of head) (length head) (points_of head)
pieces_listed (Some chunk) head points bytes = pieces_from (length head + 8) points bytes

-- Where a reader stands: where the next piece begins; how many blocks of a plain file were read, and how many of its
-- records are left; of a packed file which chunks are read, the number of the next one, that of the first one of the
-- last batch, and whether the next one is known to be bad.
pub record Position : Type 0 where
  pub at : ℕ
  pub blocks : ℕ
  pub records : ℕ
  pub ends : Ends
  pub next : ℕ
  pub batch : ℕ
  pub bad : Bool

-- the pieces that are left to read: of a packed file of those that are listed, of a plain one those of its records
abbrev pub pieces_left : (chunk : Option ℕ) → (size : ℕ) → Position → (points bytes : List ℕ) → List Piece
pieces_left None size position points bytes = plain_from size position.at position.records
pieces_left (Some chunk) size position points bytes = left_of position.ends position.next position.at points bytes

-- the chunks of a file with these pieces: none, if it is plain
abbrev pub chunks_in : (chunk : Option ℕ) → (pieces : List Piece) → List Piece
chunks_in None pieces = []
chunks_in (Some chunk) pieces = pieces

-- What contracts see of a reader: the file's name, its head and its chunk size; all chunks of a packed file, and none
-- of a plain one; the places of the records that it reads, and the number of the first piece that has some of them; the
-- number of the next piece, and the pieces that are left to read; whether the next one is known to be bad, and whether
-- the reader has failed; for how many inputs it has buffers; of each chunk of the last batch how many records are left
-- out at its front, and how many are lent; and the block of a plain file that it lends.
pub record ReaderSeen : Type 0 where
  pub name : List ℕ
  pub head : HeadView
  pub chunk : Option ℕ
  pub pieces : List Piece
  pub range : Range
  pub first : ℕ
  pub next : ℕ
  pub left : List Piece
  pub bad : Bool
  pub failed : Bool
  pub buffers : ℕ
  pub cuts : List (ℕ × ℕ)
  pub lent : List ℕ

-- a new reader of a file with this head, in which a packed file lists its chunks so
abbrev pub new_reader : (name : List ℕ) → HeadView → (chunk : Option ℕ) → (points bytes : List ℕ) → ReaderSeen
new_reader name head chunk points bytes = record {
  name = name;
  head = head;
  chunk = chunk;
  pieces = pieces_from (length head.bytes + 8) points bytes;
  range = whole_range head.bytes;
  first = 0;
  next = 0;
  left = pieces_listed chunk head.bytes points bytes;
  bad = false;
  failed = false;
  buffers = 0;
  cuts = [];
  lent = [];
}

-- a reader that reads a range of its file
abbrev pub with_range : ReaderSeen → Range → ReaderSeen
with_range reader range = record reader {
  range = range;
  first = first_if (is_some reader.chunk) range reader.pieces;
  next = first_if (is_some reader.chunk) range reader.pieces;
  left = parts_if (is_some reader.chunk) reader.head.bytes (length reader.head.bytes) range reader.pieces;
}

-- a reader that has read n pieces more; of what it is now it has what it lends, and whether the next piece is bad
abbrev pub moved_by : ReaderSeen → (n : ℕ) → (now : ReaderSeen) → ReaderSeen
moved_by reader n now = record reader {
  next = reader.next + n;
  left = drop n reader.left;
  bad = now.bad;
  cuts = now.cuts;
  lent = now.lent;
}

-- The chunks of a reader: their lists, after a head that ends at `offset`. A packed file has as many points in them as
-- its head counts, and a plain file has none.
pub record AreListed (chunk : Option ℕ) (offset total : ℕ) (points bytes : List ℕ) : Type 0 where
  pub same : length points ≡ length bytes
  pub few : length points ≤ MAX_CHUNKS
  pub near : (size : ℕ) → chunk ≡ Some size → offset + 8 + sum bytes < 2 ^ 64
  pub some : All (λ n. 0 < n) points
  pub all : (size : ℕ) → chunk ≡ Some size → sum points ≡ total
  pub plain : chunk ≡ None → points ≡ []

-- How the numbers of a reader belong together.
pub record IsInPlace (size : ℕ) (position : Position) (points bytes : List ℕ) : Type 0 where
  pub first : position.ends.first ≤ position.batch
  pub batch : position.batch ≤ position.next
  pub next : position.next ≤ position.ends.last
  pub last : position.ends.last ≤ length points
  pub front : position.ends.skip ≤ slice_index_or points position.ends.first 0
  pub near : position.at + sum (take (position.ends.last - position.next) (drop position.next bytes))
      + size * position.records < 2 ^ 64
  pub number : length points + position.blocks + position.records < 2 ^ 32
  pub bad : position.bad ≡ true → (position.ends.first < position.next) × (position.next < position.ends.last)

-- a piece lies in the file
abbrev pub LiesIn : (file : List ℕ) → Piece → Type 0
LiesIn file piece = piece.start + piece.size ≤ length file

-- The reader stands for the file: this is accepted, its head is the reader's, and the pieces that are left to read are
-- those of the range from the next one on. A chunk that is known to be bad holds no records of its count.
pub record StandsFor (reader : ReaderSeen) (file : List ℕ) : Type 0 where
  pub accepted : IsAcceptedFile file
  pub head : reader.head ≡ record { bytes = head_of file; size = length file }
  pub chunk : reader.chunk ≡ chunk_of (head_of file)
  pub pieces : List Piece
  pub are : ArePieces file pieces
  pub chunks : reader.pieces ≡ chunks_in reader.chunk pieces
  pub all_lie : All (LiesIn file) pieces
  pub begun : reader.first ≤ reader.next
  pub first : reader.first ≡ first_of file reader.range pieces
  pub left : reader.left ≡ drop (reader.next - reader.first) (parts_of file reader.range pieces)
  pub lie : All (LiesIn file) reader.left
  pub bad : reader.bad ≡ true → IsBadPiece file reader.left 0

-- If the files are known, the reader's file is there, and its bytes have P.
abbrev pub OfFile : ReaderSeen → Outside → (P : List ℕ → Type 0) → Type 0
OfFile reader outside P = WhereKnown outside.held reader.name P

-- The file is accepted, its pieces are these, and each lies in it.
pub record ListsPieces (file : List ℕ) (chunk : Option ℕ) (head points bytes : List ℕ) : Type 0 where
  pub accepted : IsAcceptedFile file
  pub are : ArePieces file (pieces_listed chunk head points bytes)
  pub lie : All (LiesIn file) (pieces_listed chunk head points bytes)

-- A fresh reader has read nothing, has not failed, and has no buffers yet: it may have sought a range.
pub record IsFreshReader (name : List ℕ) (reader : ReaderSeen) : Type 0 where
  pub named : reader.name ≡ name
  pub unread : reader.next ≡ reader.first
  pub sound : reader.failed ≡ false
  pub unprepared : reader.buffers ≡ 0
  pub empty : reader.lent ≡ []

-- A reader is to read all records of its file, and has read none of them.
pub record ReadsAll (reader : ReaderSeen) : Type 0 where
  pub all : reader.range ≡ whole_range reader.head.bytes
  pub first : reader.next ≡ 0

-- A new reader is fresh, and is to read all records of its file.
pub record IsNewReader (name : List ℕ) (reader : ReaderSeen) : Type 0 where
  pub named : reader.name ≡ name
  pub unread : reader.next ≡ reader.first
  pub sound : reader.failed ≡ false
  pub unprepared : reader.buffers ≡ 0
  pub empty : reader.lent ≡ []
  pub whole : ReadsAll reader

-- how many records are taken of pieces, in all
abbrev pub records_in : List Piece → ℕ
records_in pieces = sum (map (λ piece. piece.taken) pieces)

-- A fresh reader agrees with its head, whether the files are known or not: it has the chunk size of the head; there is
-- one laszip VLR if the file is packed, and none if it is plain; the range is one of records that the head counts, and
-- the pieces have as many records as the range.
pub record AgreesWithHead (reader : ReaderSeen) : Type 0 where
  pub chunk : reader.chunk ≡ chunk_of reader.head.bytes
  pub one : is_packed reader.head.bytes ≡ true → length (laszip_vlrs_of reader.head.bytes) ≡ 1
  pub none : is_packed reader.head.bytes ≡ false → laszip_vlrs_of reader.head.bytes ≡ []
  pub order : reader.range.start ≤ reader.range.stop
  pub within : reader.range.stop ≤ points_of reader.head.bytes
  pub records : records_in reader.left ≡ reader.range.stop - reader.range.start

-- Blocks are whole records of one length, each as many as its piece takes.
abbrev pub AreWholeBlocks : (size : ℕ) → List Piece → (blocks : List (List ℕ)) → Type 0
AreWholeBlocks size [] [] = Unit {0}
AreWholeBlocks size [] (b ∷ blocks) = ⊥
AreWholeBlocks size (p ∷ pieces) [] = ⊥
AreWholeBlocks size (p ∷ pieces) (b ∷ blocks) = (length b ≡ size * p.taken) × AreWholeBlocks size pieces blocks

-- Rooms of these lengths are enough for the records of each piece.
abbrev pub HaveRoom : (size : ℕ) → List Piece → (lengths : List ℕ) → Type 0
HaveRoom size pieces lengths = All (λ n. All (λ piece. size * piece.count ≤ n) pieces) lengths

-- A crew of this reader: it has at least one hand, as many as the reader has buffers for, two each; spaces of the
-- reader's format; and rooms for each chunk of the file.
pub record IsCrewOf (reader : ReaderSeen) (crew : List (HandSeen Format)) : Type 0 where
  pub hands : 0 < length crew
  pub buffers : reader.buffers ≡ 2 * length crew
  pub spaces : All (λ hand. hand.space ≡ format_in reader.head.bytes) crew
  pub rooms : HaveRoom (record_length (record_layout reader.head.bytes)) reader.pieces (lengths_of (rooms_of crew))

-- Blocks stand in rooms as answers, each under its number: the number of each of them stands in exactly one room.
pub record StandInRooms (rooms : List RoomSeen) (blocks : List (List ℕ)) : Type 0 where
  pub once : (k : ℕ) → k < length blocks → times k (numbers_in rooms) ≡ 1
  pub answers : (k : ℕ) → k < length blocks → All (λ room. number_of room.held ≡ Some k
      → answer_in room.bytes room.held ≡ Some (slice_index_or blocks k [])) rooms

-- Blocks are parts of others: of each some records, of this many bytes, are left out at its front, and some are taken.
pub record AreCutFrom (size : ℕ) (cuts : List (ℕ × ℕ)) (wholes blocks : List (List ℕ)) : Type 0 where
  pub same : length wholes ≡ length blocks
  pub cut : length cuts ≡ length blocks
  pub within : (k : ℕ) (d : ℕ × ℕ) → k < length blocks → let cut = slice_index_or cuts k d in
      size * (cut.0 + cut.1) ≤ length (slice_index_or wholes k [])
  pub parts : (k : ℕ) (d : ℕ × ℕ) → k < length blocks → let cut = slice_index_or cuts k d in
      slice_index_or blocks k [] ≡ take (size * cut.1) (drop (size * cut.0) (slice_index_or wholes k []))

-- The reader and the crew lend these blocks: they are parts of answers in the crew's rooms, and a plain file's block
-- stands in the reader.
abbrev pub LendsIf : (chunk : Option ℕ) → ReaderSeen → List RoomSeen → (blocks : List (List ℕ)) → Type 0
LendsIf None reader rooms blocks = (k : ℕ) → k < length blocks → slice_index_or blocks k [] ≡ reader.lent
LendsIf (Some chunk) reader rooms blocks =
    (wholes : List (List ℕ)) × StandInRooms rooms wholes
    × AreCutFrom (record_length_of reader.head.bytes) reader.cuts wholes blocks

abbrev pub Lends : ReaderSeen → List (HandSeen Format) → (blocks : List (List ℕ)) → Type 0
Lends reader crew blocks = LendsIf reader.chunk reader (rooms_of crew) blocks

-- how many pieces are read at once: two for each hand, and one of a plain file
abbrev pub batch_size : (chunk : Option ℕ) → (hands : ℕ) → ℕ
batch_size None hands = 1
batch_size (Some chunk) hands = 2 * hands

-- Batches, one after another, are what is read up to the first piece that holds no records of its count: if the first
-- n pieces hold some blocks, and of the others more are read, then of all pieces both are read.
abbrev pub BatchesJoin : Type 0
BatchesJoin = (file : List ℕ) (pieces : List Piece) (n : ℕ) (blocks more : List (List ℕ)) (bad : Option ℕ)
    → HoldBlocks file (take n pieces) blocks → AreRead file (drop n pieces) more bad
    → AreRead file pieces (blocks ++ more) (moved n bad)
