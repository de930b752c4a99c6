-- What the item stands for: the events of a stream, and the chunk's points so far, the latest one first. And what a
-- reader answers.
use Rattle.std.specs.Prelude.{◌≡◌, ℕ, List, ◌∷◌, ◌++◌, MatchResult, OnErr, OnOk, Result}
use Rattle.laz_range.specs.Coding.{Codes, Coding}
use Rattle.laz_range.specs.Decoding.{Decoding, NoneBegins, ReadsOn, Refuses, Takes}
use Rattle.laz_integer.specs.Events.{Event, Name, cuts_after}
use Rattle.laz_integer.specs.Ranged.{AreRanged, HasIntSizes}
use Rattle.laz_integer.specs.Uses.{own_name}
use Rattle.laz_gpstime.specs.Meanings.{time_kind}
use Rattle.laz_gpstime.specs.Sequences.{Point}
use Rattle.laz_gpstime.specs.Spelling.{SpellsTime}
use Rattle.laz_gpstime.specs.Slots.{AreSlots, ModelsStand, TimeState}
use Rattle.laz_gpstime.specs.Times.{time_events}
use Rattle.laz_integer.specs.Spelled.{OneBegins, spelled_cuts}
use Rattle.laz_gpstime.specs.declared.limits.TheConstants.{TOTAL}

-- Events, and the time that they spell after earlier points.
abbrev pub IsSpelledTime : List Point → List Event × ℕ → Type 0
IsSpelledTime points x = SpellsTime points x.0 x.1

-- The numbers of symbols under which the events of times are lawful.
pub record HasTimeSizes (sizes : Name → ℕ) : Type 0 where
  pub six : sizes (own_name time_kind 0) ≡ 6
  pub many : sizes (own_name time_kind 1) ≡ TOTAL
  pub integers : HasIntSizes sizes time_kind 32

-- A point that was spelled by these events.
abbrev pub point_with : ℕ → List Event → Point
point_with time events = record { time = time; events = events }

-- The models stand for the events of a stream, and the slots for points.
pub record TimeStands (events : List Event) (points : List Point) (st : TimeState) : Type 0 where
  pub models : ModelsStand events st
  pub slots : AreSlots points st.sequences

-- A time was read, by the one spelling that begins the rest of the bytes; the item then stands for its point, too.
pub record ReadsTime (earlier : List Event) (points : List Point) (time : ℕ) (old new : Decoding)
    (st : TimeState) : Type 0 where
  pub events : List Event
  pub takes : Takes (IsSpelledTime points) (spelled_cuts earlier) old new (events, time)
  pub reads : (sizes : Name → ℕ) → HasTimeSizes sizes → AreRanged sizes earlier
      → ReadsOn (cuts_after earlier events) old new
  pub stands : TimeStands (earlier ++ events) (point_with time events ∷ points) st

-- ---- what the calls of an item promise, whatever stream and points it stands for

-- The events of a time are coded.
abbrev pub CodesTime : TimeState → (time : ℕ) → Coding → Coding → Type 0
CodesTime st time old new = (earlier : List Event) (points : List Point) → TimeStands earlier points st
    → Codes old new (cuts_after earlier (time_events points time))

-- It then stands for the time's point, too.
abbrev pub StandsWithTime : (old : TimeState) → (time : ℕ) → (new : TimeState) → Type 0
StandsWithTime old time new = (earlier : List Event) (points : List Point) → TimeStands earlier points old
    → let events = time_events points time in TimeStands (earlier ++ events) (point_with time events ∷ points) new

-- A time is read by the one spelling that begins the rest of the bytes, or none of a time does.
abbrev pub ReadsNextTime : {E : Type 0} → Result (Unit {0}) E → (old : TimeState) → (time : ℕ) → Decoding → Decoding
    → (new : TimeState) → Type 0
ReadsNextTime result st time old new next =
    (earlier : List Event) (points : List Point) → TimeStands earlier points st
    → MatchResult result (λ _. ReadsTime earlier points time old new next)
    (λ _. Refuses (IsSpelledTime points) (spelled_cuts earlier) old new)

-- After lawful events, no spelling of another time begins what was left.
abbrev pub OnlyTimeBegins : {E : Type 0} → Result (Unit {0}) E → TimeState → (time : ℕ) → Decoding → Type 0
OnlyTimeBegins result st time old =
    (earlier : List Event) (points : List Point) → TimeStands earlier points st
    → (sizes : Name → ℕ) → HasTimeSizes sizes → AreRanged sizes earlier
    → OnOk result (OneBegins (IsSpelledTime points) earlier old time)

-- After lawful events, `Bad` means that no spelling of a time begins it.
abbrev pub NoTimeBegins : {E : Type 0} → Result (Unit {0}) E → TimeState → Decoding → Type 0
NoTimeBegins result st old =
    (earlier : List Event) (points : List Point) → TimeStands earlier points st
    → (sizes : Name → ℕ) → HasTimeSizes sizes → AreRanged sizes earlier
    → OnErr result (NoneBegins (IsSpelledTime points) (spelled_cuts earlier) old)
