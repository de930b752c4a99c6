-- What the item stands for: the events of a stream, and the chunk's points so far, the latest one first. And what a
-- reader answers.
use Rattle.std.specs.Prelude.{◌≡◌, ℕ, List, ◌∷◌, ◌++◌, MatchResult, OnErr, OnOk, Result}
use Rattle.laz_range.specs.Decoding.{Decoding, ReadsOn, Takes, NoneBegins, Refuses}
use Rattle.laz_integer.specs.Events.{Event, Name, cuts_after}
use Rattle.laz_integer.specs.Uses.{own_name}
use Rattle.laz_integer.specs.Ranged.{AreRanged, HasIntSizes}
use Rattle.laz_point10.specs.declared.point.Point.{Point}
use Rattle.laz_point10.specs.declared.history.History.{History}
use Rattle.laz_point10.specs.declared.models.Models.{Models}
use Rattle.laz_point10.specs.PointEvents.{SpellsPoint, changes_kind, classification_kind, flags_kind, intensity_kind}
use Rattle.laz_point10.specs.PointEvents.{point_events}
use Rattle.laz_point10.specs.PointEvents.{point_source_kind, scan_angle_kind, user_data_kind, x_kind, y_kind, z_kind}
use Rattle.laz_point10.specs.Coded.{AreModels, HistoryStands, ModelsStand}
use Rattle.laz_integer.specs.Spelled.{spelled_cuts, OneBegins}
use Rattle.laz_range.specs.Coding.{Codes, Coding}

-- Numbers of symbols under which the events of points are lawful: 64 for the changes, 256 for each byte, and those of
-- integers.
pub record HasPointSizes (sizes : Name → ℕ) : Type 0 where
  pub changes : sizes (own_name changes_kind 0) ≡ 64
  pub flags : (m : ℕ) → sizes (own_name flags_kind m) ≡ 256
  pub intensity : HasIntSizes sizes intensity_kind 16
  pub classification : (m : ℕ) → sizes (own_name classification_kind m) ≡ 256
  pub scan_angle : (m : ℕ) → sizes (own_name scan_angle_kind m) ≡ 256
  pub user_data : (m : ℕ) → sizes (own_name user_data_kind m) ≡ 256
  pub point_source : HasIntSizes sizes point_source_kind 16
  pub dx : HasIntSizes sizes x_kind 32
  pub dy : HasIntSizes sizes y_kind 32
  pub z : HasIntSizes sizes z_kind 32

-- The models of a `Point10`, and the history of its chunk.
pub record PointState : Type 0 where
  pub models : Models
  pub history : History

-- What holds of it between any two calls.
abbrev pub IsPointState : PointState → Type 0
IsPointState st = AreModels st.models

-- The models stand for the events of a stream, and the history is that of the points.
pub record PointStands (events : List Event) (points : List Point) (st : PointState) : Type 0 where
  pub models : ModelsStand events st.models
  pub history : HistoryStands points st.history

-- Events, and the point that they spell after earlier ones.
abbrev pub IsSpelledPoint : List Point → List Event × Point → Type 0
IsSpelledPoint points x = SpellsPoint points x.0 x.1

-- A point was read, by the one spelling that begins the rest of the bytes; the item then stands for it, too.
pub record ReadsPoint (earlier : List Event) (points : List Point) (point : Point) (old new : Decoding)
    (st : PointState) : Type 0 where
  pub events : List Event
  pub takes : Takes (IsSpelledPoint points) (spelled_cuts earlier) old new (events, point)
  pub reads : (sizes : Name → ℕ) → HasPointSizes sizes → AreRanged sizes earlier
      → ReadsOn (cuts_after earlier events) old new
  pub stands : PointStands (earlier ++ events) (point ∷ points) st

-- ---- what the calls of an item promise, whatever stream and points it stands for

-- The events of a point are coded.
abbrev pub CodesPoint : PointState → Point → Coding → Coding → Type 0
CodesPoint st point old new = (earlier : List Event) (points : List Point) → PointStands earlier points st
    → Codes old new (cuts_after earlier (point_events points point))

-- The item then stands for the point, too.
abbrev pub StandsWithPoint : (old : PointState) → Point → (new : PointState) → Type 0
StandsWithPoint old point new = (earlier : List Event) (points : List Point) → PointStands earlier points old
    → PointStands (earlier ++ point_events points point) (point ∷ points) new

-- A point is read by the one spelling that begins the rest of the bytes, or none of a point does.
abbrev pub ReadsNextPoint : {E : Type 0} → Result (Unit {0}) E → (old : PointState) → Point → Decoding → Decoding
    → (new : PointState) → Type 0
ReadsNextPoint result st point old new next =
    (earlier : List Event) (points : List Point) → PointStands earlier points st
    → MatchResult result (λ _. ReadsPoint earlier points point old new next)
    (λ _. Refuses (IsSpelledPoint points) (spelled_cuts earlier) old new)

-- After lawful events, no spelling of another point begins what was left.
abbrev pub OnlyPointBegins : {E : Type 0} → Result (Unit {0}) E → PointState → Point → Decoding → Type 0
OnlyPointBegins result st point old =
    (earlier : List Event) (points : List Point) → PointStands earlier points st
    → (sizes : Name → ℕ) → HasPointSizes sizes → AreRanged sizes earlier
    → OnOk result (OneBegins (IsSpelledPoint points) earlier old point)

-- After lawful events, `Bad` means that no spelling of a point begins it.
abbrev pub NoPointBegins : {E : Type 0} → Result (Unit {0}) E → PointState → Decoding → Type 0
NoPointBegins result st old =
    (earlier : List Event) (points : List Point) → PointStands earlier points st
    → (sizes : Name → ℕ) → HasPointSizes sizes → AreRanged sizes earlier
    → OnErr result (NoneBegins (IsSpelledPoint points) (spelled_cuts earlier) old)
