-- What the items of a chunk stand for: the events of its stream, and its points so far, the latest one first.
use Rattle.std.specs.Prelude.{◌≡◌, ℕ, ◌<◌, ◌≤◌, All, Bool, true, false, List, [], Option, Some, None, length, ◌∷◌, ◌++◌}
use Rattle.std.specs.Prelude.{MatchResult, Result}
use Rattle.laz_range.specs.Decoding.{Decoding, Takes, Refuses}
use Rattle.laz_range.specs.Span.{IsBytes}
use Rattle.laz_integer.specs.Events.{Event, cuts_after}
use Rattle.laz_point10.specs.Points.{IsPoint}
use Rattle.laz_point10.specs.Items.{PointStands, PointState}
use Rattle.laz_gpstime.specs.Sequences as sequences
use Rattle.laz_gpstime.specs.Items.{TimeStands, point_with}
use Rattle.laz_gpstime.specs.Slots.{TimeState}
use Rattle.laz_rgb.specs.declared.colour.Colour.{Colour}
use Rattle.laz_rgb.specs.Colours.{colour_bytes}
use Rattle.laz_rgb.specs.Items.{ExtraStands, ExtraState, RgbStands, RgbState, latest_extra}
use Rattle.laz_chunk.specs.declared.items.Items.{Items}
use Rattle.laz_chunk.specs.Layouts.{Layout}
use Rattle.laz_chunk.specs.Records.{ChunkPoint, Record, colours_of, extras_of, points_of, times_of, SpellsColourIf}
use Rattle.laz_chunk.specs.Records.{SpellsTimeIf, colour_events_if, colour_in, time_events_if, time_in}
use Rattle.laz_integer.specs.Spelled.{spelled_cuts}
use Rattle.laz_range.specs.Coding.{Codes, Coding}
use Rattle.laz_rgb.specs.Extra.{SpellsExtra, extra_events}

-- Whether there is an item.
abbrev pub has : {X : Type 0} → Option X → Bool
has None = false
has (Some x) = true

-- How many extra bytes an item is for: none without one.
abbrev pub extra_length : Option ExtraState → ℕ
extra_length None = 0
extra_length (Some st) = length st.last

-- The items that a loop over records was given, of which those of times and colours may be absent.
abbrev pub items_of : PointState → Option TimeState → Option RgbState → Option ExtraState → Items
items_of point time colour extra = record { point10 = point; gps_time = time; rgb = colour; extra = extra }

-- The layout of the records that the items are for.
abbrev pub layout_in : Items → Layout
layout_in items = record { times = has items.gps_time; colours = has items.rgb; extra = extra_length items.extra }

-- An item that may be absent stands for the chunk's parts, if it is there.
abbrev pub TimesStand : List Event → List sequences.Point → Option TimeState → Type 0
TimesStand events points None = Unit {0}
TimesStand events points (Some st) = TimeStands events points st

abbrev pub ColoursStand : List Event → List Colour → Option RgbState → Type 0
ColoursStand events colours None = Unit {0}
ColoursStand events colours (Some st) = RgbStands events colours st

abbrev pub ExtrasStand : List Event → List (List ℕ) → Option ExtraState → Type 0
ExtrasStand events extras None = latest_extra extras ≡ []
ExtrasStand events extras (Some st) = ExtraStands events extras st

-- All items stand for the events and points.
pub record ItemsStand (events : List Event) (points : List ChunkPoint) (items : Items) : Type 0 where
  pub point : PointStands events (points_of points) items.point10
  pub time : TimesStand events (times_of points) items.gps_time
  pub colour : ColoursStand events (colours_of points) items.rgb
  pub extra : ExtrasStand events (extras_of points) items.extra

-- The fields of a record hold what its bytes can.
pub record IsRecord (r : Record) : Type 0 where
  pub point : IsPoint r.point
  pub time : r.time < 18446744073709551616
  pub colour : IsBytes (colour_bytes r.colour)
  pub extra : IsBytes r.extra

-- A chunk's points: at least one, each with fields that its bytes can hold, and all with this many extra bytes.
pub record AreChunkPoints (extra : ℕ) (points : List ChunkPoint) : Type 0 where
  pub some : 1 ≤ length points
  pub fields : All (λ p. IsRecord p.fields) points
  pub lengths : All (λ p. length p.fields.extra ≡ extra) points

-- The items stand for some chunk's events and points.
pub record StandSometime (items : Items) : Type 0 where
  pub history : List Event × List ChunkPoint
  pub points : AreChunkPoints (layout_in items).extra history.1
  pub stand : ItemsStand history.0 history.1 items

-- A part was read, by the one spelling that begins the rest of the bytes; what the item stands for then has it, too.
pub record ReadsPart {V : Type 0} (IsAsked : List Event × V → Type 0) (earlier : List Event) (value : V)
    (old new : Decoding) (Stands : List Event → Type 0) : Type 0 where
  pub events : List Event
  pub takes : Takes IsAsked (spelled_cuts earlier) old new (events, value)
  pub stands : Stands events

-- A part was read so, or no spelling of it begins the rest of the bytes.
abbrev pub ReadsPartOrNone : {V E : Type 0} → Result (Unit {0}) E → (IsAsked : List Event × V → Type 0)
    → (earlier : List Event) → V → Decoding → Decoding → (Stands : List Event → Type 0) → Type 0
ReadsPartOrNone result IsAsked earlier value old new Stands =
    MatchResult result (λ _. ReadsPart IsAsked earlier value old new Stands)
    (λ _. Refuses IsAsked (spelled_cuts earlier) old new)

-- ---- what coding and reading a part of a record promises, whatever stream and points its item stands for; an absent
-- item codes and reads nothing

abbrev pub CodesTimeIf : Option TimeState → (part : List ℕ) → Coding → Coding → Type 0
CodesTimeIf item part old new = (earlier : List Event) (points : List sequences.Point) → TimesStand earlier points item
    → Codes old new (cuts_after earlier (time_events_if (has item) points (time_in (has item) part)))

abbrev pub StandsWithTimeIf : (old : Option TimeState) → (part : List ℕ) → (new : Option TimeState) → Type 0
StandsWithTimeIf old part new = (earlier : List Event) (points : List sequences.Point) → TimesStand earlier points old
    → let time = time_in (has old) part
    in let events = time_events_if (has old) points time
    in TimesStand (earlier ++ events) (point_with time events ∷ points) new

abbrev pub ReadsTimeIf : {E : Type 0} → Result (Unit {0}) E → (old : Option TimeState) → (part : List ℕ) → Decoding
    → Decoding → (new : Option TimeState) → Type 0
ReadsTimeIf result item part old new next =
    (earlier : List Event) (points : List sequences.Point) → TimesStand earlier points item
    → old.taken ≤ length old.bytes
    → let time = time_in (has item) part
    in ReadsPartOrNone {V = ℕ} result (λ x. SpellsTimeIf (has item) points x.0 x.1) earlier time old new
    (λ events. TimesStand (earlier ++ events) (point_with time events ∷ points) next)

abbrev pub CodesColourIf : Option RgbState → (part : List ℕ) → Coding → Coding → Type 0
CodesColourIf item part old new = (earlier : List Event) (colours : List Colour) → ColoursStand earlier colours item
    → Codes old new (cuts_after earlier (colour_events_if (has item) colours (colour_in (has item) part)))

abbrev pub StandsWithColourIf : (old : Option RgbState) → (part : List ℕ) → (new : Option RgbState) → Type 0
StandsWithColourIf old part new = (earlier : List Event) (colours : List Colour) → ColoursStand earlier colours old
    → let colour = colour_in (has old) part
    in let events = colour_events_if (has old) colours colour
    in ColoursStand (earlier ++ events) (colour ∷ colours) new

abbrev pub ReadsColourIf : {E : Type 0} → Result (Unit {0}) E → (old : Option RgbState) → (part : List ℕ) → Decoding
    → Decoding → (new : Option RgbState) → Type 0
ReadsColourIf result item part old new next =
    (earlier : List Event) (colours : List Colour) → ColoursStand earlier colours item
    → old.taken ≤ length old.bytes
    → let colour = colour_in (has item) part
    in ReadsPartOrNone {V = Colour} result (λ x. SpellsColourIf (has item) colours x.0 x.1) earlier colour old new
    (λ events. ColoursStand (earlier ++ events) (colour ∷ colours) next)

abbrev pub CodesExtraIf : Option ExtraState → (part : List ℕ) → Coding → Coding → Type 0
CodesExtraIf item part old new = (earlier : List Event) (extras : List (List ℕ)) → ExtrasStand earlier extras item
    → Codes old new (cuts_after earlier (extra_events (latest_extra extras) part))

abbrev pub StandsWithExtraIf : (old : Option ExtraState) → (part : List ℕ) → (new : Option ExtraState) → Type 0
StandsWithExtraIf old part new = (earlier : List Event) (extras : List (List ℕ)) → ExtrasStand earlier extras old
    → ExtrasStand (earlier ++ extra_events (latest_extra extras) part) (part ∷ extras) new

abbrev pub ReadsExtraIf : {E : Type 0} → Result (Unit {0}) E → (old : Option ExtraState) → (part : List ℕ) → Decoding
    → Decoding → (new : Option ExtraState) → Type 0
ReadsExtraIf result item part old new next =
    (earlier : List Event) (extras : List (List ℕ)) → ExtrasStand earlier extras item
    → old.taken ≤ length old.bytes
    → ReadsPartOrNone {V = List ℕ} result (λ x. SpellsExtra (latest_extra extras) x.0 x.1) earlier part old new
    (λ events. ExtrasStand (earlier ++ events) (part ∷ extras) next)
