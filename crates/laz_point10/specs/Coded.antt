-- What the code keeps of earlier points, and all that is read of a point: its parts, its events, the models after it,
-- and the point that it makes.
use Rattle.std.specs.Prelude.{◌≡◌, ℕ, pos, ◌<◌, ◌≤◌, List, [], ◌∷◌, ◌++◌, length, slice_index, slice_index_or, ℤ}
use Rattle.std.specs.Prelude.{MatchResult, Result}
use Rattle.std.specs.Prelude.{slice_set}
use Rattle.std.specs.Int.{w32, int_wrapping_add, int_wrapping_sub}
use Rattle.laz_range.specs.Cut.{Cut}
use Rattle.laz_integer.specs.Corrector.{corrected}
use Rattle.laz_integer.specs.Events.{Event, Symbol}
use Rattle.laz_integer.specs.Uses.{own_name}
use Rattle.laz_integer.specs.Integer.{IntStands, corrector_events}
use Rattle.laz_integer.specs.Fields.{BankStands, byte_events, if_marked, word_value}
use Rattle.laz_point10.specs.declared.point.Point.{Point}
use Rattle.laz_point10.specs.declared.median.Median.{Median}
use Rattle.laz_point10.specs.declared.history.Predictions.{Predictions}
use Rattle.laz_point10.specs.declared.history.History.{History}
use Rattle.laz_point10.specs.declared.models.HeadModels.{HeadModels}
use Rattle.laz_point10.specs.declared.models.SurfaceModels.{SurfaceModels}
use Rattle.laz_point10.specs.declared.models.ScanModels.{ScanModels}
use Rattle.laz_point10.specs.declared.models.PlaceModels.{PlaceModels}
use Rattle.laz_point10.specs.declared.models.Models.{Models}
use Rattle.laz_point10.specs.Medians.{IsSorted, median_of, middle, no_values, with_value}
use Rattle.laz_point10.specs.Points.{direction_bit, last_height, last_intensity, latest_point, one_return, return_level}
use Rattle.laz_point10.specs.Points.{return_map, x_steps, y_steps}
use Rattle.laz_point10.specs.PointEvents.{changes_kind, classification_kind, flags_kind, intensity_context}
use Rattle.laz_integer.specs.Bytes.{byte_plus, has_bit}
use Rattle.laz_point10.specs.PointEvents.{intensity_kind, point_source_kind, scan_angle_kind, user_data_kind, x_kind}
use Rattle.laz_point10.specs.PointEvents.{y_context, y_kind, z_context, z_kind}
use Rattle.laz_point10.specs.Groups.{AreHeadModels, ArePlaceModels, AreScanModels, AreSurfaceModels, HeadChoice, IsHead}
use Rattle.laz_point10.specs.Groups.{angle_in, classification_in, dx_in, dy_in, intensity_in, source_in, user_in, z_in}
use Rattle.laz_point10.specs.Groups.{IsPlace, IsScan, IsSurface, PlaceChoice, ScanChoice, SurfaceChoice, head_cuts}
use Rattle.laz_point10.specs.Groups.{head_next, head_written, place_cuts, place_next, place_written, scan_cuts}
use Rattle.laz_point10.specs.Groups.{scan_next, scan_written, surface_cuts, surface_next, surface_written}
use Rattle.laz_range.specs.Decoding.{Decoding, Takes, TakesNone}

-- ---- the history of a chunk

-- What it predicts of a point with this flag byte.
abbrev pub predicted : History → ℕ → Predictions
predicted h flags =
    record {
      previous = h.last;
      intensity = slice_index h.intensities (return_map flags);
      dx = middle (slice_index_or h.dx (return_map flags) no_values);
      dy = middle (slice_index_or h.dy (return_map flags) no_values);
      z = slice_index_or h.heights (return_level flags) (pos 0);
    }

-- The history with one point more.
abbrev pub with_point : History → Point → History
with_point h p =
    let m = return_map p.flags in
    record {
      last = p;
      intensities = slice_set h.intensities m p.intensity;
      heights = slice_set h.heights (return_level p.flags) p.z;
      dx = slice_set h.dx m (with_value (slice_index_or h.dx m no_values) (int_wrapping_sub w32 p.x h.last.x));
      dy = slice_set h.dy m (with_value (slice_index_or h.dy m no_values) (int_wrapping_sub w32 p.y h.last.y));
    }

-- The values of each median are sorted.
abbrev pub AreSorted : List Median → Type 0
AreSorted medians = (k : ℕ) → IsSorted (slice_index_or medians k no_values).values

-- The bytes of the last point that choose models are bytes.
pub record IsHistory (h : History) : Type 0 where
  pub flags : h.last.flags < 256
  pub classification : h.last.classification < 256
  pub user_data : h.last.user_data < 256

-- The history is that of a chunk's points so far, of which there is one at least.
pub record HistoryStands (points : List Point) (h : History) : Type 0 where
  pub some : 1 ≤ length points
  pub last : h.last ≡ latest_point points
  pub intensities : length h.intensities ≡ 16
  pub heights : length h.heights ≡ 8
  pub dx_count : length h.dx ≡ 16
  pub dy_count : length h.dy ≡ 16
  pub intensity : (m : ℕ) → m < 16 → slice_index h.intensities m ≡ last_intensity points m
  pub height : (level : ℕ) → level < 8 → slice_index_or h.heights level (pos 0) ≡ last_height points level
  pub dx : (m : ℕ) → m < 16 → slice_index_or h.dx m no_values ≡ median_of (x_steps points m)
  pub dy : (m : ℕ) → m < 16 → slice_index_or h.dy m no_values ≡ median_of (y_steps points m)

-- ---- the models

pub record AreModels (ms : Models) : Type 0 where
  pub head : AreHeadModels ms.head
  pub surface : AreSurfaceModels ms.surface
  pub scan : AreScanModels ms.scan
  pub place : ArePlaceModels ms.place

-- Each group stands for the events under its names.
abbrev pub HeadStands : List Event → HeadModels → Type 0
HeadStands events ms = BankStands changes_kind events ms.changes × BankStands flags_kind events ms.flags

abbrev pub SurfaceStands : List Event → SurfaceModels → Type 0
SurfaceStands events ms = IntStands intensity_kind events ms.intensity
    × BankStands classification_kind events ms.classifications

abbrev pub ScanStands : List Event → ScanModels → Type 0
ScanStands events ms = BankStands scan_angle_kind events ms.angles
    × (BankStands user_data_kind events ms.users × IntStands point_source_kind events ms.source)

abbrev pub PlaceStands : List Event → PlaceModels → Type 0
PlaceStands events ms = IntStands x_kind events ms.dx × (IntStands y_kind events ms.dy × IntStands z_kind events ms.z)

abbrev pub ModelsStand : List Event → Models → Type 0
ModelsStand events ms = HeadStands events ms.head
    × (SurfaceStands events ms.surface × (ScanStands events ms.scan × PlaceStands events ms.place))

-- ---- the events of each group
abbrev pub head_events : Point → HeadChoice → List Event
head_events previous x = (Symbol (own_name changes_kind 0) 64 x.0 ∷ [])
    ++ if_marked (has_bit 32 x.0) (byte_events flags_kind previous.flags x.1)

abbrev pub surface_events : Predictions → ℕ → ℕ → SurfaceChoice → List Event
surface_events e changes flags x =
    if_marked (has_bit 16 changes)
    (corrector_events intensity_kind 16 (intensity_context flags) (intensity_in x).0 (intensity_in x).1)
    ++ if_marked (has_bit 8 changes) (byte_events classification_kind e.previous.classification (classification_in x))

abbrev pub scan_events : Predictions → ℕ → ℕ → ScanChoice → List Event
scan_events e changes flags x =
    if_marked (has_bit 4 changes) (byte_events scan_angle_kind (direction_bit flags) (angle_in x))
    ++ (if_marked (has_bit 2 changes) (byte_events user_data_kind e.previous.user_data (user_in x))
    ++ if_marked (has_bit 1 changes) (corrector_events point_source_kind 16 0 (source_in x).0 (source_in x).1))

abbrev pub place_events : ℕ → PlaceChoice → List Event
place_events flags x =
    corrector_events x_kind 32 (one_return flags) (dx_in x).0 (dx_in x).1
    ++ (corrector_events y_kind 32 (y_context flags (dx_in x).0) (dy_in x).0 (dy_in x).1
    ++ corrector_events z_kind 32 (z_context flags (dx_in x).0 (dy_in x).0) (z_in x).0 (z_in x).1)

-- ---- all that is read of a point
abbrev pub PointChoice : Type 0
PointChoice = HeadChoice × (SurfaceChoice × (ScanChoice × PlaceChoice))

-- The parts of a choice: the symbol of changes and the flag byte, and what is read of each group.
abbrev pub head_in : PointChoice → HeadChoice
head_in x = x.0

abbrev pub changes_in : PointChoice → ℕ
changes_in x = x.0.0

abbrev pub flags_in : PointChoice → ℕ
flags_in x = x.0.1

abbrev pub surface_in : PointChoice → SurfaceChoice
surface_in x = x.1.0

abbrev pub scan_in : PointChoice → ScanChoice
scan_in x = x.1.1.0

abbrev pub place_in : PointChoice → PlaceChoice
place_in x = x.1.1.1

abbrev pub IsPointChoice : History → PointChoice → Type 0
IsPointChoice h x =
    let e = predicted h (flags_in x) in
    IsHead h.last (head_in x)
    × (IsSurface e (changes_in x) (surface_in x) × (IsScan e (changes_in x) (scan_in x) × IsPlace (place_in x)))

abbrev pub choice_cuts : Models → History → PointChoice → List Cut
choice_cuts ms h x =
    let e = predicted h (flags_in x) in
    head_cuts ms.head h.last (head_in x)
    ++ (surface_cuts ms.surface e (changes_in x) (flags_in x) (surface_in x)
    ++ (scan_cuts ms.scan e (changes_in x) (flags_in x) (scan_in x)
    ++ place_cuts ms.place (flags_in x) (place_in x)))

abbrev pub choice_events : History → PointChoice → List Event
choice_events h x =
    let e = predicted h (flags_in x) in
    head_events h.last (head_in x)
    ++ (surface_events e (changes_in x) (flags_in x) (surface_in x)
    ++ (scan_events e (changes_in x) (flags_in x) (scan_in x) ++ place_events (flags_in x) (place_in x)))

abbrev pub choice_next : Models → History → PointChoice → Models
choice_next ms h x =
    let e = predicted h (flags_in x) in
    record {
      head = head_next ms.head h.last (head_in x);
      surface = surface_next ms.surface e (changes_in x) (flags_in x) (surface_in x);
      scan = scan_next ms.scan e (changes_in x) (flags_in x) (scan_in x);
      place = place_next ms.place (flags_in x) (place_in x);
    }

-- The point that it makes.
abbrev pub point_made : History → PointChoice → Point
point_made h x =
    let e = predicted h (flags_in x) in
    record {
      x = int_wrapping_add w32 h.last.x (corrected 32 e.dx (dx_in (place_in x)).0 (dx_in (place_in x)).1);
      y = int_wrapping_add w32 h.last.y (corrected 32 e.dy (dy_in (place_in x)).0 (dy_in (place_in x)).1);
      z = corrected 32 e.z (z_in (place_in x)).0 (z_in (place_in x)).1;
      intensity = word_value (has_bit 16 (changes_in x)) e.intensity (intensity_in (surface_in x));
      flags = flags_in x;
      classification = classification_in (surface_in x);
      scan_angle = byte_plus h.last.scan_angle (angle_in (scan_in x));
      user_data = user_in (scan_in x);
      point_source = word_value (has_bit 1 (changes_in x)) h.last.point_source (source_in (scan_in x));
    }

-- What a writer takes.
abbrev pub choice_written : History → Point → PointChoice
choice_written h p =
    let e = predicted h p.flags in (head_written e p, (surface_written e p, (scan_written e p, place_written e p)))

-- ---- what is answered: what is read makes the answer and the models, or none of it begins the rest of the bytes

-- The intensity and the classification.
abbrev pub ReadsSurface : {E : Type 0} → Result (ℕ × ℕ) E → Predictions → (changes flags : ℕ) → (old : SurfaceModels)
    → Decoding → Decoding → (new : SurfaceModels) → Type 0
ReadsSurface result e changes flags models old new next =
    MatchResult result
    (λ r. (w : ℕ × ℕ) × Takes (IsSurface e changes) (surface_cuts models e changes flags) old new (w, r.1)
    × (r.0 ≡ word_value (has_bit 16 changes) e.intensity w) × (next ≡ surface_next models e changes flags (w, r.1)))
    (λ _. TakesNone (IsSurface e changes) (surface_cuts models e changes flags) old new)

-- The difference of the scan angle, the user data and the point source.
abbrev pub ReadsScan : {E : Type 0} → Result (ℕ × ℕ × ℕ) E → Predictions → (changes flags : ℕ) → (old : ScanModels)
    → Decoding → Decoding → (new : ScanModels) → Type 0
ReadsScan result e changes flags models old new next =
    MatchResult result
    (λ r. (w : ℕ × ℕ) × Takes (IsScan e changes) (scan_cuts models e changes flags) old new (r.0, (r.1, w))
    × (r.2 ≡ word_value (has_bit 1 changes) e.previous.point_source w)
    × (next ≡ scan_next models e changes flags (r.0, (r.1, w))))
    (λ _. TakesNone (IsScan e changes) (scan_cuts models e changes flags) old new)

-- dx, dy and z.
abbrev pub MakesPlace : Predictions → (place : ℤ × ℤ × ℤ) → PlaceChoice → Type 0
MakesPlace e r x =
    (r.0 ≡ corrected 32 e.dx x.0.0 x.0.1) × (r.1 ≡ corrected 32 e.dy x.1.0.0 x.1.0.1)
    × (r.2 ≡ corrected 32 e.z x.1.1.0 x.1.1.1)

abbrev pub ReadsPlace : {E : Type 0} → Result (ℤ × ℤ × ℤ) E → Predictions → (flags : ℕ) → (old : PlaceModels)
    → Decoding → Decoding → (new : PlaceModels) → Type 0
ReadsPlace result e flags models old new next =
    MatchResult result
    (λ r. (x : PlaceChoice) × Takes IsPlace (place_cuts models flags) old new x
    × MakesPlace e r x × (next ≡ place_next models flags x))
    (λ _. TakesNone IsPlace (place_cuts models flags) old new)

-- A whole point.
abbrev pub ReadsPointAfter : {E : Type 0} → Result Point E → History → (old : Models) → Decoding → Decoding
    → (new : Models) → Type 0
ReadsPointAfter result h models old new next =
    MatchResult result
    (λ p. (x : PointChoice) × Takes (IsPointChoice h) (choice_cuts models h) old new x
    × (p ≡ point_made h x) × (next ≡ choice_next models h x))
    (λ _. TakesNone (IsPointChoice h) (choice_cuts models h) old new)
