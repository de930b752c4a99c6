-- The events of a point after others, and which events spell one (LASzip's POINT10, version 2).
use Rattle.std.specs.Prelude.{◌≡◌, ℕ, ℤ, ◌+◌, ◌-◌, ◌/◌, ◌%◌, ◌<◌, ◌==◌, min, nat_lt, if◌then◌else◌, List, [], ◌∷◌}
use Rattle.std.specs.Prelude.{◌++◌, codes}
use Rattle.std.specs.Int.{w32, int_wrapping_add, int_wrapping_sub}
use Rattle.laz_integer.specs.Events.{Event, Symbol}
use Rattle.laz_integer.specs.Uses.{own_name}
use Rattle.laz_integer.specs.Integer.{IntEvents, IntSpell, int_width}
use Rattle.laz_integer.specs.Fields.{SpellsByte, SpellsWord, byte_events, if_marked, word_events}
use Rattle.laz_point10.specs.declared.point.Point.{Point}
use Rattle.laz_point10.specs.declared.history.Predictions.{Predictions}
use Rattle.laz_point10.specs.Points.{direction_bit, one_return, predictions_of, return_map}
use Rattle.laz_integer.specs.Bytes.{byte_difference, byte_plus, has_bit}

-- The uses of the models.
abbrev pub changes_kind : List ℕ
changes_kind = codes "changes"

abbrev pub flags_kind : List ℕ
flags_kind = codes "flags"

abbrev pub intensity_kind : List ℕ
intensity_kind = codes "intensity"

abbrev pub classification_kind : List ℕ
classification_kind = codes "classification"

abbrev pub scan_angle_kind : List ℕ
scan_angle_kind = codes "scan angle"

abbrev pub user_data_kind : List ℕ
user_data_kind = codes "user data"

abbrev pub point_source_kind : List ℕ
point_source_kind = codes "point source"

abbrev pub x_kind : List ℕ
x_kind = codes "dx"

abbrev pub y_kind : List ℕ
y_kind = codes "dy"

abbrev pub z_kind : List ℕ
z_kind = codes "z"

-- ---- the symbol of changes

-- The bit of a field that differs from its prediction.
abbrev pub bit_if_changed : ℕ → ℕ → ℕ → ℕ
bit_if_changed bit predicted value = if value == predicted then 0 else bit

-- The symbol of 64: which fields differ from their predictions. Its bits are 32 for the flag byte, 16 for the
-- intensity, 8 for the classification byte, 4 for the scan angle, 2 for the user data and 1 for the point source.
unfoldable pub changes_of : Predictions → Point → ℕ
changes_of e p =
    bit_if_changed 32 e.previous.flags p.flags
    + bit_if_changed 16 e.intensity p.intensity
    + bit_if_changed 8 e.previous.classification p.classification
    + bit_if_changed 4 e.previous.scan_angle p.scan_angle
    + bit_if_changed 2 e.previous.user_data p.user_data
    + bit_if_changed 1 e.previous.point_source p.point_source

-- ---- contexts

abbrev pub intensity_context : ℕ → ℕ
intensity_context flags = min (return_map flags) 3

-- A width with bit 0 cleared, if it is below this number; else the number.
unfoldable pub even_below : ℕ → ℕ → ℕ
even_below most k = if nat_lt k most then k - k % 2 else most

-- Those of dy, by the width kx of dx, and of z, by half the sum of both widths.
abbrev pub y_context : ℕ → ℕ → ℕ
y_context flags kx = one_return flags + even_below 20 kx

abbrev pub z_context : ℕ → ℕ → ℕ → ℕ
z_context flags kx ky = one_return flags + even_below 18 ((kx + ky) / 2)

-- ---- what a writer makes

-- The events of a point with these predictions: the changes, each changed field, and dx, dy and z as integers.
abbrev pub events_by : Predictions → Point → List Event
events_by e p =
    let changes = changes_of e p in
    let dx = int_wrapping_sub w32 p.x e.previous.x in
    let dy = int_wrapping_sub w32 p.y e.previous.y in
    let kx = int_width 32 e.dx dx in
    let ky = int_width 32 e.dy dy in
    ((Symbol (own_name changes_kind 0) 64 changes ∷ [])
    ++ if_marked (has_bit 32 changes) (byte_events flags_kind e.previous.flags p.flags))
    ++ ((if_marked (has_bit 16 changes) (word_events intensity_kind (intensity_context p.flags) e.intensity p.intensity)
    ++ if_marked (has_bit 8 changes) (byte_events classification_kind e.previous.classification p.classification))
    ++ ((if_marked (has_bit 4 changes)
    (byte_events scan_angle_kind (direction_bit p.flags) (byte_difference e.previous.scan_angle p.scan_angle))
    ++ (if_marked (has_bit 2 changes) (byte_events user_data_kind e.previous.user_data p.user_data)
    ++ if_marked (has_bit 1 changes) (word_events point_source_kind 0 e.previous.point_source p.point_source)))
    ++ (IntEvents x_kind 32 (one_return p.flags) e.dx dx
    ++ (IntEvents y_kind 32 (y_context p.flags kx) e.dy dy
    ++ IntEvents z_kind 32 (z_context p.flags kx ky) e.z p.z))))

-- The events of a point after others.
abbrev pub point_events : List Point → Point → List Event
point_events points p = events_by (predictions_of points p.flags) p

-- ---- what a reader takes

-- Events that spell a point with these predictions: any symbol of changes that marks each field which differs, and any
-- correctors. A marked field may be the predicted one.
pub record SpellsBy (e : Predictions) (events : List Event) (p : Point) : Type 0 where
  pub changes : ℕ
  pub flags_part : List Event
  pub intensity_part : List Event
  pub classification_part : List Event
  pub angle_part : List Event
  pub user_part : List Event
  pub source_part : List Event
  pub x_part : List Event
  pub y_part : List Event
  pub z_part : List Event
  pub turned : ℕ
  pub dx : ℤ
  pub dy : ℤ
  pub kx : ℕ
  pub ky : ℕ
  pub kz : ℕ
  pub are : events ≡ ((Symbol (own_name changes_kind 0) 64 changes ∷ []) ++ flags_part)
      ++ ((intensity_part ++ classification_part)
      ++ ((angle_part ++ (user_part ++ source_part)) ++ (x_part ++ (y_part ++ z_part))))
  pub few : changes < 64
  pub flags : SpellsByte (has_bit 32 changes) flags_kind e.previous.flags e.previous.flags flags_part p.flags
  pub intensity : SpellsWord (has_bit 16 changes) intensity_kind
      (intensity_context p.flags) e.intensity intensity_part p.intensity
  pub classification : SpellsByte
      (has_bit 8 changes) classification_kind e.previous.classification e.previous.classification classification_part
      p.classification
  pub angle : SpellsByte (has_bit 4 changes) scan_angle_kind (direction_bit p.flags) 0 angle_part turned
  pub angle_is : p.scan_angle ≡ byte_plus e.previous.scan_angle turned
  pub user : SpellsByte (has_bit 2 changes) user_data_kind e.previous.user_data e.previous.user_data user_part
      p.user_data
  pub source : SpellsWord (has_bit 1 changes) point_source_kind 0 e.previous.point_source source_part p.point_source
  pub x : IntSpell x_kind 32 (one_return p.flags) e.dx x_part dx kx
  pub x_is : p.x ≡ int_wrapping_add w32 e.previous.x dx
  pub y : IntSpell y_kind 32 (y_context p.flags kx) e.dy y_part dy ky
  pub y_is : p.y ≡ int_wrapping_add w32 e.previous.y dy
  pub z : IntSpell z_kind 32 (z_context p.flags kx ky) e.z z_part p.z kz

-- Events that spell a point after others.
abbrev pub SpellsPoint : List Point → List Event → Point → Type 0
SpellsPoint points events p = SpellsBy (predictions_of points p.flags) events p
