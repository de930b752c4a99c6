-- The job of unpacking chunks: its inputs, and which blocks of records it may answer.
use Rattle.std.specs.Prelude.{◌≡◌, ℕ, ◌+◌, ◌*◌, ◌≤◌, nat_le, Bool, ◌&&◌, List, ◌++◌, length, drop, Option, Some, None}
use Rattle.byteorder.specs.Endian.{little_bytes}
use Rattle.las_header.specs.Numbers.{number_at}
use Rattle.laz_chunk.specs.Layouts.{Layout, record_length, room_for}
use Rattle.laz_chunk.specs.Chunks.{AreRecords, Holds}

-- the input for a chunk: its number of records as four bytes, then its bytes
abbrev pub unpack_input : (count : ℕ) → (chunk : List ℕ) → List ℕ
unpack_input count chunk = little_bytes 4 count ++ chunk

-- the number of records in an input
abbrev pub count_before : (input : List ℕ) → ℕ
count_before input = number_at 4 0 input

-- the chunk's bytes in an input
abbrev pub chunk_in : (input : List ℕ) → List ℕ
chunk_in input = drop 4 input

-- An input has a number of records, which is this one.
abbrev pub IsInput : (count : ℕ) → (input : List ℕ) → Type 0
IsInput count input = (4 ≤ length input) × (count_before input ≡ count)

-- whether a chunk of this many bytes may hold this many records: it has the first record and the four bytes that end
-- its stream, and no more bytes than are enough for that many records. A chunk of no record may not be
abbrev pub may_hold : (l : Layout) → (count size : ℕ) → Bool
may_hold l count size = nat_le (record_length l + 4) size && nat_le size (room_for l count)

-- An input is one for a chunk of at least one record, and a room of this many bytes is enough for its records.
pub record FitsUnpacked (l : Layout) (input : List ℕ) (room : ℕ) : Type 0 where
  pub counted : 4 ≤ length input
  pub some : 1 ≤ count_before input
  pub enough : record_length l * count_before input ≤ room

-- The bytes hold this block of as many records, and no other one.
pub record HoldsOnly (l : Layout) (count : ℕ) (bytes block : List ℕ) : Type 0 where
  pub are : AreRecords l count block
  pub holds : Holds l bytes block
  pub only : (other : List ℕ) → AreRecords l count other → Holds l bytes other → other ≡ block

-- The bytes hold no block of as many records.
abbrev pub HoldsNone : (l : Layout) → (count : ℕ) → (bytes : List ℕ) → Type 0
HoldsNone l count bytes = (block : List ℕ) → AreRecords l count block → Holds l bytes block → ⊥

-- what may be answered to an input: the one block that its chunk holds, or none, if it holds none
abbrev pub UnpackAnswer : (l : Layout) → (input : List ℕ) → Option (List ℕ) → Type 0
UnpackAnswer l input None = HoldsNone l (count_before input) (chunk_in input)
UnpackAnswer l input (Some block) = HoldsOnly l (count_before input) (chunk_in input) block
