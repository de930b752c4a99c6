-- The bytes of a chunk table, and which chunks some bytes hold as a table.
use Rattle.std.specs.Prelude.{◌≡◌, ℕ, ◌≤◌, ◌++◌, Bool, if◌then◌else◌, List, [], ◌∷◌, length, drop}
use Rattle.byteorder.specs.Endian.{little_bytes}
use Rattle.las_header.specs.Numbers.{number_at}
use Rattle.laz_range.specs.Span.{Begins, bytes_of, span}
use Rattle.laz_integer.specs.Events.{Event, cuts_of}
use Rattle.laz_table.specs.declared.limits.TheConstants.{TABLE_START}
use Rattle.laz_table.specs.Entries.{Entry, SpellsEntries, entries_of, events_of, no_entry}

-- the stream of entries as it is written; there is none without entries
abbrev pub stream_of : List Entry → List ℕ
stream_of [] = []
stream_of (e ∷ entries) = bytes_of (span (cuts_of (events_of no_entry (e ∷ entries))))

-- A table as it is written: version 0, the number of chunks, the stream of the entries.
abbrev pub table_bytes : (sizes counts : List ℕ) → List ℕ
table_bytes sizes counts = (little_bytes 4 0 ++ little_bytes 4 (length counts)) ++ stream_of (entries_of sizes counts)

-- The front of some bytes fits some events that spell the entries. Without entries there is no stream.
abbrev pub HoldsEntries : List ℕ → List Entry → Type 0
HoldsEntries bytes [] = Unit {0}
HoldsEntries bytes (e ∷ entries) =
    (events : List Event) × SpellsEntries no_entry events (e ∷ entries) × Begins (span (cuts_of events)) bytes

-- Bytes begin with a table of n chunks, with these numbers of points, if they are counted, and these numbers of bytes.
-- What follows the stream is not read.
pub record TableHolds (bytes : List ℕ) (n : ℕ) (counted : Bool) (sizes counts : List ℕ) : Type 0 where
  pub long : TABLE_START ≤ length bytes
  pub version : number_at 4 0 bytes ≡ 0
  pub number : number_at 4 4 bytes ≡ n
  pub byte_counts : length counts ≡ n
  pub point_counts : length sizes ≡ (if counted then n else 0)
  pub coded : HoldsEntries (drop TABLE_START bytes) (entries_of sizes counts)
