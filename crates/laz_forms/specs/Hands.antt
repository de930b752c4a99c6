-- How many hands of a crew some work calls for.
use Rattle.std.specs.Prelude.{ℕ, max, min, Option, Some, None}
use Rattle.laz_table.specs.VlrCauses.{chunk_count}

-- how many of some workers this many pieces of work keep busy: one a piece, and at least one
abbrev pub hands_for : (pieces workers : ℕ) → ℕ
hands_for pieces workers = max 1 (min pieces workers)

-- how many chunks are packed of this many records: none, if the output is plain
abbrev pub chunks_packed : (chunk : Option ℕ) → (records : ℕ) → ℕ
chunks_packed None records = 0
chunks_packed (Some chunk) records = chunk_count records chunk
