-- Which items the records of a chunk have, and how long their parts are.
use Rattle.std.specs.Prelude.{◌≡◌, ℕ, ◌+◌, ◌*◌, ◌-◌, ◌==◌, Bool, true, false, if◌then◌else◌}
use Rattle.las_header.specs.Fields.{format_size, has_colours, has_time}

-- What is chosen once for all records: whether they have times and colours, and how many extra bytes.
pub record Layout : Type 0 where
  pub times : Bool
  pub colours : Bool
  pub extra : ℕ

-- The layout of a point format, 0 to 3.
abbrev pub layout_of : ℕ → ℕ → Layout
layout_of format extra = record { times = has_time format; colours = has_colours format; extra = extra }

-- The length of a time's part.
abbrev pub time_length : Bool → ℕ
time_length true = 8
time_length false = 0

-- The length of a colour's part.
abbrev pub colour_length : Bool → ℕ
colour_length true = 6
colour_length false = 0

-- The length of a record: a point's 20 bytes, then the parts of its time, its colour and its extra bytes.
abbrev pub record_length : Layout → ℕ
record_length l = 20 + (time_length l.times + (colour_length l.colours + l.extra))

-- A record is as long as the LAS specification has it: its format's length, and its extra bytes.
abbrev pub HasFormatLength : ℕ → ℕ → Type 0
HasFormatLength format extra = record_length (layout_of format extra) ≡ format_size format + extra

-- How many events a record has at most.
abbrev pub most_events : Layout → ℕ
most_events l = 38 + l.extra

-- How many bytes are enough for a chunk: the first record, four bytes that end the stream, and three for each event of
-- the further records. A chunk of no record has none.
abbrev pub room_for : Layout → ℕ → ℕ
room_for l count = if count == 0 then 0 else record_length l + 4 + 3 * most_events l * (count - 1)

-- What contracts see of a workspace.
pub record Format : Type 0 where
  pub format : ℕ
  pub extra : ℕ

abbrev pub layout : Format → Layout
layout f = layout_of f.format f.extra
