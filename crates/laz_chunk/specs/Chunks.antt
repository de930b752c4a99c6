-- The bytes of a chunk, and which records bytes hold.
use Rattle.std.specs.Prelude.{◌≡◌, ℕ, ◌*◌, ◌-◌, ◌/◌, ◌≤◌, List, [], ◌∷◌, ◌++◌, length, map, take, drop}
use Rattle.laz_range.specs.Cut.{Cut}
use Rattle.laz_range.specs.Choice.{AllAsked}
use Rattle.laz_range.specs.Span.{Fits, IsBytes, bytes_of, span}
use Rattle.laz_integer.specs.Events.{Event, cuts_of}
use Rattle.laz_integer.specs.Spelled.{spelled_cuts}
use Rattle.laz_chunk.specs.Layouts.{Layout, record_length}
use Rattle.laz_chunk.specs.Records.{ChunkPoint, Record, SpellsRecord, record_at, record_events, records_in}

-- What came before a record: the events of its stream, and the points of its chunk, the latest one first.
abbrev pub History : Type 0
History = List Event × List ChunkPoint

-- Events, and the record that they spell.
abbrev pub Spelling : Type 0
Spelling = List Event × Record

-- The history after one more record.
abbrev pub grown : History → Spelling → History
grown h x = (h.0 ++ x.0, record { fields = x.1; events = x.0 } ∷ h.1)

-- The events spell the record after what came before.
abbrev pub IsSpelled : Layout → History → Spelling → Type 0
IsSpelled l h x = SpellsRecord l h.1 x.0 x.1

-- The parts of a spelling of a record.
abbrev pub record_cuts : History → Spelling → List Cut
record_cuts h x = spelled_cuts h.0 x

-- The history after a chunk's first record, which has no events.
abbrev pub initial_history : Record → History
initial_history first = ([], record { fields = first; events = [] } ∷ [])

-- The records of spellings, and all their events.
abbrev pub spelled_records : List Spelling → List Record
spelled_records xs = map (λ x. x.1) xs

abbrev pub joined : List Spelling → List Event
joined [] = []
joined (x ∷ xs) = x.0 ++ joined xs

-- The events that a writer makes of a record, and the record.
abbrev pub writing : Layout → History → Record → Spelling
writing l h r = (record_events l h.1 r, r)

-- Those of several records, each after the ones before it.
abbrev pub written : Layout → History → List Record → List Spelling
written l h [] = []
written l h (r ∷ rs) = writing l h r ∷ written l (grown h (writing l h r)) rs

-- How many records there are.
abbrev pub count_of : Layout → List ℕ → ℕ
count_of l records = length records / record_length l

-- The first record, and the further ones.
abbrev pub first_of : Layout → List ℕ → Record
first_of l bytes = record_at l (take (record_length l) bytes)

abbrev pub further : Layout → List ℕ → List Record
further l records = records_in l (count_of l records - 1) (drop (record_length l) records)

-- A chunk's bytes: the first record as it stands, and then one stream of all further ones.
abbrev pub chunk_bytes : Layout → List ℕ → List ℕ
chunk_bytes l records =
    take (record_length l) records
    ++ bytes_of (span (cuts_of (joined (written l (initial_history (first_of l records)) (further l records)))))

-- The bytes hold the records: they begin with the first one as it stands, and the rest fits the events of some list of
-- spellings, each of which spells its record after those before it.
pub record Holds (l : Layout) (bytes records : List ℕ) : Type 0 where
  pub enough : record_length l ≤ length bytes
  pub first : take (record_length l) bytes ≡ take (record_length l) records
  pub spellings : List Spelling
  pub spell : AllAsked grown (IsSpelled l) (initial_history (first_of l records)) spellings
  pub are : spelled_records spellings ≡ further l records
  pub fits : Fits (span (cuts_of (joined spellings))) (drop (record_length l) bytes)

-- This many whole records, as bytes.
pub record AreRecords (l : Layout) (count : ℕ) (records : List ℕ) : Type 0 where
  pub length : length records ≡ record_length l * count
  pub bytes : IsBytes records
