-- The entries of a chunk table, and the events that spell them. They are integers of 32 bits with two contexts
-- (Isenburg, LASzip, PE&RS 2013).
use Rattle.std.specs.Prelude.{◌≡◌, ℕ, ℤ, ◌<◌, ◌^◌, Bool, true, false, if◌then◌else◌, List, [], ◌∷◌, ◌++◌, map}
use Rattle.std.specs.Int.{w32, cast_signed}
use Rattle.laz_integer.specs.Events.{Event}
use Rattle.laz_integer.specs.Integer.{IntEvents, IntSpell}

-- an entry: the number of points of a chunk, or its size in bytes
pub record Entry : Type 0 where
  pub counts_points : Bool
  pub number : ℕ

abbrev pub points_entry : ℕ → Entry
points_entry n = record { counts_points = true; number = n }

abbrev pub bytes_entry : ℕ → Entry
bytes_entry n = record { counts_points = false; number = n }

-- The entries of a table, in order. `sizes` are the chunks' numbers of points, and there are none if every chunk has
-- the same; `counts` are the chunks' numbers of bytes.
abbrev pub entries_of : (sizes counts : List ℕ) → List Entry
entries_of [] counts = map bytes_entry counts
entries_of (s ∷ sizes) [] = []
entries_of (s ∷ sizes) (c ∷ counts) = points_entry s ∷ bytes_entry c ∷ entries_of sizes counts

-- the latest number of points and the latest number of bytes, each 0 at first
pub record Latest : Type 0 where
  pub points : ℕ
  pub bytes : ℕ

abbrev pub no_entry : Latest
no_entry = record { points = 0; bytes = 0 }

-- what an entry is predicted as: the number of the entry before it of its kind
abbrev pub prediction : (counts_points : Bool) → Latest → ℕ
prediction true l = l.points
prediction false l = l.bytes

abbrev pub after_entry : Latest → Entry → Latest
after_entry l e =
    if e.counts_points then record { points = e.number; bytes = l.bytes }
    else record { points = l.points; bytes = e.number }

-- the context of an entry
abbrev pub context_of : (counts_points : Bool) → ℕ
context_of true = 0
context_of false = 1

-- the use of the models of a table: "table"
abbrev pub table_use : List ℕ
table_use = 116 ∷ 97 ∷ 98 ∷ 108 ∷ 101 ∷ []

-- a number of 32 bits as the integer compressor takes it
abbrev pub signed : ℕ → ℤ
signed n = cast_signed w32 n

-- the events that a writer makes of a number after one before it of its kind
abbrev pub number_events : (counts_points : Bool) → (before number : ℕ) → List Event
number_events counts_points before number =
    IntEvents table_use 32 (context_of counts_points) (signed before) (signed number)

-- the events that a writer makes of an entry
abbrev pub entry_events : Latest → Entry → List Event
entry_events l e = number_events e.counts_points (prediction e.counts_points l) e.number

-- the events that a writer makes of entries
abbrev pub events_of : Latest → List Entry → List Event
events_of l [] = []
events_of l (e ∷ entries) = entry_events l e ++ events_of (after_entry l e) entries

-- events that spell an entry, which a reader accepts
pub record SpellsEntry (l : Latest) (events : List Event) (e : Entry) : Type 0 where
  pub width : ℕ
  pub fits : e.number < 2 ^ 32
  pub spells : IntSpell table_use 32 (context_of e.counts_points) (signed (prediction e.counts_points l)) events
      (signed e.number) width

-- events that spell entries
abbrev pub SpellsEntries : Latest → List Event → List Entry → Type 0
SpellsEntries l events [] = events ≡ []
SpellsEntries l events (e ∷ entries) =
    (first : List Event) × (rest : List Event) × (events ≡ first ++ rest) × SpellsEntry l first e
    × SpellsEntries (after_entry l e) rest entries
