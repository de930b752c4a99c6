-- What a batch of chunks gives, which are read together and unpacked by a crew.
use Rattle.std.specs.Prelude.{◌≡◌, ℕ, ◌+◌, ◌*◌, ◌^◌, ◌<◌, ◌≤◌, List, [], length, sum, All, Option}
use Rattle.std.specs.Prelude.{slice_index, slice_index_or}
use Rattle.las_outside.specs.Files.{FileMap, WhereKnown}
use Rattle.laz_chunk.specs.Layouts.{Format, Layout, layout, record_length}
use Rattle.laz_workers.specs.Rooms.{HandSeen, RoomSeen, lengths_of, rooms_of}
use Rattle.laz_reader.specs.declared.chunks.ChunkRun.{ChunkRun}
use Rattle.laz_forms.specs.Pieces.{Piece, piece_bytes, pieces_from}
use Rattle.laz_reader.specs.Reading.{LiesIn, StandInRooms}
use Rattle.laz_reader.specs.Unpacking.{HoldsNone, HoldsOnly}

-- the pieces of a run of chunks
abbrev pub run_pieces : ChunkRun → List Piece
run_pieces run = pieces_from run.place run.points.now run.bytes.now

-- The run lies in its file, if the files are known.
pub record IsRun (held : Option FileMap) (run : ChunkRun) : Type 0 where
  pub same : length run.points.now ≡ length run.bytes.now
  pub near : run.place + sum run.bytes.now < 2 ^ 64
  pub lie : WhereKnown held run.name.now (λ file. All (LiesIn file) (run_pieces run))

-- A crew can unpack the run: its spaces are of this format, and each room is enough for the records of each chunk.
pub record CanUnpack (format : Format) (run : ChunkRun) (crew : List (HandSeen Format)) : Type 0 where
  pub hands : 0 < length crew
  pub spaces : All (λ hand. hand.space ≡ format) crew
  pub rooms : All (λ n. All (λ count. record_length (layout format) * count ≤ n) run.points.now)
      (lengths_of (rooms_of crew))

-- The first n chunks of the run hold these blocks, and no others, and the blocks stand in a crew's rooms.
pub record BlocksAre (l : Layout) (held : Option FileMap) (run : ChunkRun) (rooms : List RoomSeen) (n : ℕ)
    : Type 0 where
  pub blocks : List (List ℕ)
  pub count : length blocks ≡ n
  pub in_rooms : StandInRooms rooms blocks
  pub lengths : (k : ℕ) → k < n
      → length (slice_index_or blocks k []) ≡ record_length l * slice_index run.points.now k
  pub only : WhereKnown held run.name.now (λ file. (k : ℕ) (d : Piece) → k < n
      → HoldsOnly l (slice_index run.points.now k) (piece_bytes file (slice_index_or (run_pieces run) k d))
      (slice_index_or blocks k []))

-- Chunk k of the run holds no records of its count, if the files are known.
abbrev pub IsBadChunk : (l : Layout) → (held : Option FileMap) → ChunkRun → (k : ℕ) → Type 0
IsBadChunk l held run k = WhereKnown held run.name.now (λ file. (d : Piece)
    → HoldsNone l (slice_index run.points.now k) (piece_bytes file (slice_index_or (run_pieces run) k d)))
