-- The laws of the item that a chunk needs.
use Rattle.std.specs.Prelude.{◌≡◌, ℕ, ◌<◌, ◌≤◌, All, true, List, [], ◌∷◌, ◌++◌, length, slice_index}
use Rattle.laz_integer.specs.Events.{Event, Name}
use Rattle.laz_integer.specs.Ranged.{AreRanged}
use Rattle.laz_integer.specs.Uses.{AllSilent, Silent, absent}
use Rattle.laz_point10.specs.declared.point.Point.{Point}
use Rattle.laz_point10.specs.Points.{IsPoint, point_at}
use Rattle.laz_point10.specs.PointEvents.{SpellsPoint, changes_kind, classification_kind, flags_kind, intensity_kind}
use Rattle.laz_point10.specs.PointEvents.{point_events, point_source_kind, scan_angle_kind, user_data_kind, x_kind}
use Rattle.laz_point10.specs.PointEvents.{y_kind, z_kind}
use Rattle.laz_point10.specs.Items.{HasPointSizes, PointStands, PointState}

-- The uses of a point's models.
abbrev pub point_kinds : List (List ℕ)
point_kinds = changes_kind ∷ flags_kind ∷ intensity_kind ∷ classification_kind ∷ scan_angle_kind ∷ user_data_kind
    ∷ point_source_kind ∷ x_kind ∷ y_kind ∷ z_kind ∷ []

-- A writer's events spell the point.
abbrev pub PointsAreSpelled : Type 0
PointsAreSpelled = (points : List Point) (point : Point) → All IsPoint points → IsPoint point
    → SpellsPoint points (point_events points point) point

-- A spelling of a point is of lawful events, at most 23, and none under a name of another use.
pub record PointsAreLawful : Type 0 where
  pub ranged : (sizes : Name → ℕ) (points : List Point) (events : List Event) (point : Point) → HasPointSizes sizes
      → SpellsPoint points events point → AreRanged sizes events
  pub few : (points : List Point) (events : List Event) (point : Point) → SpellsPoint points events point
      → length events ≤ 23
  pub silent : (other : List ℕ) (points : List Point) (events : List Event) (point : Point)
      → absent other point_kinds ≡ true → SpellsPoint points events point → Silent other events

-- Events of other uses leave what a `Point10` stands for.
abbrev pub OthersLeavePoints : Type 0
OthersLeavePoints = (earlier others : List Event) (points : List Point) (st : PointState) → AllSilent point_kinds others
    → PointStands earlier points st → PointStands (earlier ++ others) points st

-- Twenty bytes.
pub record ArePart (part : List ℕ) : Type 0 where
  pub length : length part ≡ 20
  pub bytes : (k : ℕ) → slice_index part k < 256

-- Two parts of one point are one.
abbrev pub PartsAreOfPoints : Type 0
PartsAreOfPoints = (a b : List ℕ) → ArePart a → ArePart b → point_at a ≡ point_at b → a ≡ b
