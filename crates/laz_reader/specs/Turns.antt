-- What a reader has read, and which of its blocks were reached.
use Rattle.std.specs.Prelude.{◌≡◌, ℕ, ◌+◌, ◌-◌, ◌*◌, ◌%◌, ◌<◌, ◌≤◌, false, List, [], ◌∷◌, ◌++◌, length, take, drop}
use Rattle.std.specs.Prelude.{slice_index_or, Option, Some, None, IsSome}
use Rattle.std.specs.FinMap as map
use Rattle.las_header.specs.declared.refusal.Refusal.{Refusal}
use Rattle.las_header.specs.declared.refusal.Refusal.TheVariants.{BadChunk}
use Rattle.las_header.specs.Fields.{record_length_of}
use Rattle.las_outside.specs.Files.{FileMap, WhereKnown}
use Rattle.laz_chunk.specs.Layouts.{Format}
use Rattle.laz_workers.specs.Rooms.{HandSeen}
use Rattle.laz_forms.specs.Records.{HoldOnly, IsBadPiece}
use Rattle.laz_reader.specs.declared.turn.Turn.{Turn}
use Rattle.laz_reader.specs.Reading.{AreWholeBlocks, IsCrewOf, Lends, ReaderSeen, StandsFor, records_in}

-- The first n pieces that a reader has left hold these blocks of records, and no others.
pub record HoldFirst (held : Option FileMap) (reader : ReaderSeen) (n : ℕ) (blocks : List (List ℕ)) : Type 0 where
  pub within : n ≤ length reader.left
  pub whole : AreWholeBlocks (record_length_of reader.head.bytes) (take n reader.left) blocks
  pub hold : WhereKnown held reader.name (λ file. HoldOnly file (take n reader.left) blocks)

-- The records of a reader end after n pieces: these are all, or the next chunk is the first bad one.
abbrev pub EndsAfter : (held : Option FileMap) → ReaderSeen → (n : ℕ) → Option Refusal → Type 0
EndsAfter held reader n None = n ≡ length reader.left
EndsAfter held reader n (Some cause) =
    (cause ≡ BadChunk (reader.next + n)) × IsSome reader.chunk
    × WhereKnown held reader.name (λ file. IsBadPiece file reader.left n)

-- what is known of the file of a name: that it holds some bytes, or that there is none
abbrev pub file_at : Option FileMap → (name : List ℕ) → Option (Option (List ℕ))
file_at None name = None
file_at (Some files) name = Some (map.get files name)

-- A reader has read its first pieces: they hold these blocks.
pub record HasRead (held : Option FileMap) (first reader : ReaderSeen) (n : ℕ) (blocks : List (List ℕ)) : Type 0 where
  pub hold : HoldFirst held first n blocks
  pub named : reader.name ≡ first.name
  pub head : reader.head ≡ first.head
  pub chunk : reader.chunk ≡ first.chunk
  pub left : reader.left ≡ drop n first.left
  pub next : reader.next ≡ first.next + n

-- The first n pieces that a reader had left were reached, and hold these blocks; the others of the last batch are lent.
pub record HasComeTo (held : Option FileMap) (first reader : ReaderSeen) (crew : List (HandSeen Format)) (turn : Turn)
    (n : ℕ) (blocks : List (List ℕ)) : Type 0 where
  pub before : ℕ
  pub all : List (List ℕ)
  pub here : n ≡ before + turn.next
  pub within : turn.next ≤ turn.count
  pub read : HasRead held first reader (before + turn.count) all
  pub many : length all ≡ before + turn.count
  pub are : blocks ≡ take n all
  pub lends : turn.next < turn.count → Lends reader crew (drop before all)
  pub one : reader.chunk ≡ None → turn.count ≤ 1
  pub sound : reader.failed ≡ false
  pub crew_is : IsCrewOf reader crew
  pub stands : WhereKnown held reader.name (StandsFor reader)

-- P of each state in which blocks of a reader were reached, if its file is as it was then: the files then, the reader
-- before its first block, and the blocks, with their number.
abbrev pub OfReached : (now : Option FileMap) → ReaderSeen → List (HandSeen Format) → Turn
    → (P : Option FileMap → (first : ReaderSeen) → (n : ℕ) → (blocks : List (List ℕ)) → Type 0) → Type 0
OfReached now reader crew turn P =
    (held : Option FileMap) (first : ReaderSeen) (n : ℕ) (blocks : List (List ℕ))
    → HasComeTo held first reader crew turn n blocks → file_at now first.name ≡ file_at held first.name
    → P held first n blocks

-- A reader and its crew lend this block, under this number.
abbrev pub LendsAt : ReaderSeen → List (HandSeen Format) → (number : ℕ) → (block : List ℕ) → Type 0
LendsAt reader crew number block =
    (blocks : List (List ℕ)) × Lends reader crew blocks × (number < length blocks)
    × (slice_index_or blocks number [] ≡ block)

-- After these blocks the next one is lent under a number, or there is none.
abbrev pub ComesTo : (held : Option FileMap) → (first reader : ReaderSeen) → List (HandSeen Format) → Turn → (n : ℕ)
    → (blocks : List (List ℕ)) → (number : Option ℕ) → Type 0
ComesTo held first reader crew turn n blocks None = EndsAfter held first n None
ComesTo held first reader crew turn n blocks (Some number) =
    (block : List ℕ) × LendsAt reader crew number block
    × HasComeTo held first reader crew turn (n + 1) (blocks ++ block ∷ [])
    × (reader.chunk ≡ None → turn.next ≡ turn.count)

-- how many blocks there are yet
abbrev pub blocks_left : ReaderSeen → Turn → ℕ
blocks_left reader turn = length reader.left + (turn.count - turn.next)

-- Records and a block after them may come from a reader: both are whole records of its file, and in all they are no
-- more than it has left.
pub record MayCome (reader : ReaderSeen) (records block : List ℕ) : Type 0 where
  pub before : length records % record_length_of reader.head.bytes ≡ 0
  pub whole : length block % record_length_of reader.head.bytes ≡ 0
  pub within : length records + length block ≤ record_length_of reader.head.bytes * records_in reader.left
