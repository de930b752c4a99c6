-- The laws of the item that a chunk needs.
use Rattle.std.specs.Prelude.{◌≡◌, ℕ, ◌<◌, ◌≤◌, ◌==◌, ◌||◌, not, All, Bool, false, List, [], ◌∷◌, ◌++◌, length}
use Rattle.std.specs.Prelude.{count_by, filter, take_while}
use Rattle.laz_integer.specs.Events.{Event, Name, same_text}
use Rattle.laz_integer.specs.Ranged.{AreRanged}
use Rattle.laz_integer.specs.Uses.{Silent}
use Rattle.laz_gpstime.specs.Meanings.{is_extreme, is_new, is_one, sets, time_kind}
use Rattle.laz_gpstime.specs.Sequences.{Point, extremes, point_meaning, sequence}
use Rattle.laz_gpstime.specs.Slots.{TimeState}
use Rattle.laz_gpstime.specs.Items.{HasTimeSizes, TimeStands, point_with}
use Rattle.laz_gpstime.specs.Spelling.{SpellsTime}
use Rattle.laz_gpstime.specs.Times.{time_events}

-- Times are numbers of 64 bits.
abbrev pub AreTimes : List Point → Type 0
AreTimes points = All (λ p. p.time < 18446744073709551616) points

-- A writer's events spell the time.
abbrev pub TimesAreSpelled : Type 0
TimesAreSpelled = (points : List Point) (time : ℕ) → AreTimes points → time < 18446744073709551616
    → SpellsTime points (time_events points time) time

-- A spelling of a time is of lawful events, at most 8, and none under a name of another use.
pub record TimesAreLawful : Type 0 where
  pub ranged : (sizes : Name → ℕ) (points : List Point) (events : List Event) (time : ℕ) → HasTimeSizes sizes
      → SpellsTime points events time → AreRanged sizes events
  pub few : (points : List Point) (events : List Event) (time : ℕ) → SpellsTime points events time → length events ≤ 8
  pub silent : (other : List ℕ) (points : List Point) (events : List Event) (time : ℕ)
      → same_text other time_kind ≡ false → SpellsTime points events time → Silent other events

-- Events of other uses leave what a `GpsTime` stands for.
abbrev pub OthersLeaveTimes : Type 0
OthersLeaveTimes = (earlier others : List Event) (points : List Point) (st : TimeState) → Silent time_kind others
    → TimeStands earlier points st → TimeStands (earlier ++ others) points st

-- The newest point may hold all events of its record: those of other uses, before and after its time's, change nothing.
abbrev pub PointsHoldRecords : Type 0
PointsHoldRecords =
    (earlier before events after : List Event) (time : ℕ) (points : List Point) (st : TimeState)
    → Silent time_kind before → Silent time_kind after
    → TimeStands earlier (point_with time events ∷ points) st
    → TimeStands earlier (point_with time (before ++ (events ++ after)) ∷ points) st

-- The points of a chunk, the latest one first, each with those before it.
abbrev pub with_earlier : List Point → List (Point × List Point)
with_earlier [] = []
with_earlier (p ∷ earlier) = (p, earlier) ∷ with_earlier earlier

-- Those of a sequence.
abbrev pub points_of_sequence : ℕ → List Point → List (Point × List Point)
points_of_sequence s points = filter (λ x. sequence (x.0 ∷ x.1) == s) (with_earlier points)

-- A point of a sequence opens it, sets its difference, or has symbol 1.
abbrev pub begins_anew : ℕ → Point × List Point → Bool
begins_anew s x =
    let m = point_meaning x.0 in is_new m || (sets m (extremes x.1 s) || is_one m)

-- The count of extreme differences of a sequence is that of its points after the latest one that begins it anew.
abbrev pub ExtremesAreCounted : Type 0
ExtremesAreCounted = (points : List Point) (s : ℕ) → extremes points s
    ≡ count_by (λ x. is_extreme (point_meaning x.0)) (take_while (λ x. not (begins_anew s x)) (points_of_sequence s points))
