-- How many bytes of a file calls ask for.
use Rattle.std.specs.Prelude.{ℕ, ◌+◌, ◌*◌, ◌≤◌, max, if◌then◌else◌, List, [], ◌∷◌, map, sum, Option, Some, None}
use Rattle.las_header.specs.Fields.{head_of, is_packed, point_offset_of}
use Rattle.las_outside.specs.Outside.{Later, Outside}
use Rattle.laz_table.specs.declared.limits.TheConstants.{MAX_CHUNK_BYTES, MIN_TABLE_BYTES}
use Rattle.laz_chunk.specs.Layouts.{Layout}
use Rattle.laz_reader.specs.Reading.{ReaderSeen, chunk_of, table_size}
use Rattle.laz_reader.specs.Unpacking.{may_hold}
use Rattle.laz_forms.specs.Packing.{record_layout}
use Rattle.laz_forms.specs.Pieces.{Piece}
use Rattle.laz_forms.specs.Refusing.{table_part}

-- A call asks for at most this many bytes.
abbrev pub AsksAtMost : (most : ℕ) → (old new : Outside) → Type 0
AsksAtMost most old new = new.asked ≤ old.asked + most

-- Reads and writes were done, and the reads asked for at most this many bytes.
pub record ReadsAndWrites (most : ℕ) (old new : Outside) : Type 0 where
  pub asked : AsksAtMost most old new
  -- no count fell
  pub later : Later old new

-- at most, of a packed file with this many chunks when it is opened, beside its head: the pointer, the pointer at the
-- end, and the chunk table
abbrev pub asked_for_chunks : (chunks : ℕ) → ℕ
asked_for_chunks chunks = 16 + (MIN_TABLE_BYTES + MAX_CHUNK_BYTES * chunks)

abbrev pub asked_for_list : (chunk : Option ℕ) → (chunks : ℕ) → ℕ
asked_for_list None chunks = 0
asked_for_list (Some chunk) chunks = asked_for_chunks chunks

-- at most, for the head of a file: its first 227 bytes, and then those up to the point data
abbrev pub asked_for_head : (file : List ℕ) → ℕ
asked_for_head file = max 227 (point_offset_of file)

-- at most, for the list of its chunks: of a packed file the pointer, the pointer at the end, and the table of as many
-- chunks as it begins with
abbrev pub asked_for_table : (file : List ℕ) → ℕ
asked_for_table file = if is_packed (head_of file) then 16 + table_size (table_part file) else 0

-- at most, when a file is opened, also if it is refused
abbrev pub asked_to_open : (file : List ℕ) → ℕ
asked_to_open file = asked_for_head file + asked_for_table file

-- how many bytes are asked for to read each of these chunks, with these numbers of records and of bytes: none of one
-- that may not hold that many records
abbrev pub size_asked : Layout → (count size : ℕ) → ℕ
size_asked l count size = if may_hold l count size then size else 0

abbrev pub sizes_asked : Layout → (points bytes : List ℕ) → List ℕ
sizes_asked l [] bytes = []
sizes_asked l (n ∷ points) [] = []
sizes_asked l (n ∷ points) (s ∷ bytes) = size_asked l n s ∷ sizes_asked l points bytes

-- how many are asked for to read pieces: of a packed file those of the chunks that may hold their records
abbrev pub asked_for_piece : (chunk : Option ℕ) → Layout → Piece → ℕ
asked_for_piece None l piece = piece.size
asked_for_piece (Some chunk) l piece = size_asked l piece.count piece.size

abbrev pub asked_for_pieces : (chunk : Option ℕ) → Layout → List Piece → ℕ
asked_for_pieces chunk l pieces = sum (map (asked_for_piece chunk l) pieces)

-- how many are asked for to read these pieces of a file
abbrev pub asked_in : (file : List ℕ) → List Piece → ℕ
asked_in file pieces = asked_for_pieces (chunk_of (head_of file)) (record_layout (head_of file)) pieces

-- how many bytes a reader may still ask for: those of the pieces that are left, but of a chunk that may not hold its
-- records none, and none at all if the next one is known to be bad
abbrev pub bytes_left : ReaderSeen → ℕ
bytes_left reader =
    if reader.bad then 0 else asked_for_pieces reader.chunk (record_layout reader.head.bytes) reader.left
