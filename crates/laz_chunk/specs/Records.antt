-- A record as the values of its parts, and which events spell it after the earlier points of its chunk.
use Rattle.std.specs.Prelude.{◌≡◌, ℕ, zero, suc, Bool, true, false, List, [], ◌∷◌, ◌++◌, map, take, drop}
use Rattle.laz_integer.specs.Events.{Event}
use Rattle.laz_point10.specs.declared.point.Point.{Point}
use Rattle.laz_point10.specs.Points.{point_at}
use Rattle.laz_point10.specs.PointEvents.{SpellsPoint, point_events}
use Rattle.laz_gpstime.specs.Sequences as sequences
use Rattle.laz_gpstime.specs.Times.{time_at, time_events}
use Rattle.laz_gpstime.specs.Items.{point_with}
use Rattle.laz_gpstime.specs.Spelling.{SpellsTime}
use Rattle.laz_rgb.specs.declared.colour.Colour.{Colour}
use Rattle.laz_rgb.specs.Colours.{SpellsColour, colour_at, colour_events}
use Rattle.laz_rgb.specs.Extra.{SpellsExtra, extra_events}
use Rattle.laz_rgb.specs.Items.{latest_colour, latest_extra}
use Rattle.laz_chunk.specs.Layouts.{Layout, colour_length, record_length, time_length}

-- The values of a record's parts. A record without a time has time 0, and one without a colour is black.
pub record Record : Type 0 where
  pub point : Point
  pub time : ℕ
  pub colour : Colour
  pub extra : List ℕ

-- The time in its part, if records have one.
abbrev pub time_in : Bool → List ℕ → ℕ
time_in true part = time_at part
time_in false part = 0

-- The colour in its part, if records have one.
abbrev pub colour_in : Bool → List ℕ → Colour
colour_in true part = colour_at part
colour_in false part = colour_at []

-- The parts of a record's bytes, in order.
abbrev pub point_part : List ℕ → List ℕ
point_part bytes = take 20 bytes

abbrev pub time_part : Layout → List ℕ → List ℕ
time_part l bytes = take (time_length l.times) (drop 20 bytes)

abbrev pub colour_part : Layout → List ℕ → List ℕ
colour_part l bytes = take (colour_length l.colours) (drop (time_length l.times) (drop 20 bytes))

abbrev pub extra_part : Layout → List ℕ → List ℕ
extra_part l bytes = drop (colour_length l.colours) (drop (time_length l.times) (drop 20 bytes))

-- The record in its bytes.
abbrev pub record_at : Layout → List ℕ → Record
record_at l bytes =
    record {
      point = point_at (point_part bytes);
      time = time_in l.times (time_part l bytes);
      colour = colour_in l.colours (colour_part l bytes);
      extra = extra_part l bytes;
    }

-- The first n records of bytes.
abbrev pub records_in : Layout → ℕ → List ℕ → List Record
records_in l zero bytes = []
records_in l (suc n) bytes = record_at l (take (record_length l) bytes) ∷ records_in l n (drop (record_length l) bytes)

-- A point of a chunk: its record, and the events that spelled it. The chunk's first point has none.
pub record ChunkPoint : Type 0 where
  pub fields : Record
  pub events : List Event

-- ---- what each item sees of a chunk's points, the latest one first

abbrev pub points_of : List ChunkPoint → List Point
points_of points = map (λ p. p.fields.point) points

abbrev pub times_of : List ChunkPoint → List sequences.Point
times_of points = map (λ p. point_with p.fields.time p.events) points

abbrev pub colours_of : List ChunkPoint → List Colour
colours_of points = map (λ p. p.fields.colour) points

abbrev pub extras_of : List ChunkPoint → List (List ℕ)
extras_of points = map (λ p. p.fields.extra) points

-- ---- spelling

-- A part of a record that may be absent: without a time there are no events, and the time is 0.
abbrev pub SpellsTimeIf : Bool → List sequences.Point → List Event → ℕ → Type 0
SpellsTimeIf true points events time = SpellsTime points events time
SpellsTimeIf false points events time = (events ≡ []) × (time ≡ 0)

-- Without a colour there are no events, and the colour is black.
abbrev pub SpellsColourIf : Bool → List Colour → List Event → Colour → Type 0
SpellsColourIf true colours events colour = SpellsColour (latest_colour colours) events colour
SpellsColourIf false colours events colour = (events ≡ []) × (colour ≡ colour_at [])

-- Events that spell a record after a chunk's points: those of its parts in order, each spelling its part. There are no
-- events of no extra bytes.
pub record SpellsRecord (l : Layout) (points : List ChunkPoint) (events : List Event) (now : Record) : Type 0 where
  pub point_events : List Event
  pub time_events : List Event
  pub colour_events : List Event
  pub extra_events : List Event
  pub are : events ≡ point_events ++ (time_events ++ (colour_events ++ extra_events))
  pub point : SpellsPoint (points_of points) point_events now.point
  pub time : SpellsTimeIf l.times (times_of points) time_events now.time
  pub colour : SpellsColourIf l.colours (colours_of points) colour_events now.colour
  pub extra : SpellsExtra (latest_extra (extras_of points)) extra_events now.extra

-- ---- what a writer makes

abbrev pub time_events_if : Bool → List sequences.Point → ℕ → List Event
time_events_if true points time = time_events points time
time_events_if false points time = []

abbrev pub colour_events_if : Bool → List Colour → Colour → List Event
colour_events_if true colours colour = colour_events (latest_colour colours) colour
colour_events_if false colours colour = []

-- The events that a writer makes of a record after a chunk's points.
abbrev pub record_events : Layout → List ChunkPoint → Record → List Event
record_events l points now =
    point_events (points_of points) now.point
    ++ (time_events_if l.times (times_of points) now.time
    ++ (colour_events_if l.colours (colours_of points) now.colour
    ++ extra_events (latest_extra (extras_of points)) now.extra))
