-- The models of a point in groups: what is read of it under each group, by the models as they are, and the models after
-- it.
use Rattle.std.specs.Prelude.{◌≡◌, ℕ, ◌<◌, List, [], ◌∷◌, ◌++◌, slice_set}
use Rattle.std.specs.Int.{w32, int_wrapping_sub}
use Rattle.laz_range.specs.Cut.{Cut}
use Rattle.laz_models.specs.Counting.{after_symbol}
use Rattle.laz_models.specs.Bank.{model_at, alphabet_sizes}
use Rattle.laz_integer.specs.Integer.{IsCorrector, IsInts, int_cuts, int_next, symbol_cut}
use Rattle.laz_integer.specs.Fields.{IsByte, IsWord, byte_cuts, byte_next, int_corrector, word_cuts, word_next}
use Rattle.laz_integer.specs.Fields.{word_corrector}
use Rattle.laz_point10.specs.declared.point.Point.{Point}
use Rattle.laz_point10.specs.declared.history.Predictions.{Predictions}
use Rattle.laz_point10.specs.declared.models.HeadModels.{HeadModels}
use Rattle.laz_point10.specs.declared.models.SurfaceModels.{SurfaceModels}
use Rattle.laz_point10.specs.declared.models.ScanModels.{ScanModels}
use Rattle.laz_point10.specs.declared.models.PlaceModels.{PlaceModels}
use Rattle.laz_point10.specs.Points.{direction_bit, one_return}
use Rattle.laz_point10.specs.PointEvents.{changes_of, intensity_context, y_context, z_context}
use Rattle.laz_integer.specs.Bytes.{byte_difference, has_bit}
use Rattle.laz_integer.specs.Bytes.{AreByteModels}

-- ---- the symbol of changes, and the flag byte
pub record AreHeadModels (ms : HeadModels) : Type 0 where
  pub changes : alphabet_sizes ms.changes ≡ 64 ∷ []
  pub flags : AreByteModels 256 ms.flags

abbrev pub HeadChoice : Type 0
HeadChoice = ℕ × ℕ

abbrev pub IsHead : Point → HeadChoice → Type 0
IsHead previous x = (x.0 < 64) × IsByte (has_bit 32 x.0) previous.flags x.1

abbrev pub head_cuts : HeadModels → Point → HeadChoice → List Cut
head_cuts ms previous x =
    (symbol_cut (model_at ms.changes 0) x.0 ∷ []) ++ byte_cuts (has_bit 32 x.0) ms.flags previous.flags x.1

abbrev pub head_next : HeadModels → Point → HeadChoice → HeadModels
head_next ms previous x =
    record {
      changes = slice_set ms.changes 0 (after_symbol (model_at ms.changes 0) x.0);
      flags = byte_next (has_bit 32 x.0) ms.flags previous.flags x.1;
    }

-- ---- intensity and classification
pub record AreSurfaceModels (ms : SurfaceModels) : Type 0 where
  pub intensity : IsInts 16 4 ms.intensity
  pub classifications : AreByteModels 256 ms.classifications

abbrev pub SurfaceChoice : Type 0
SurfaceChoice = (ℕ × ℕ) × ℕ

-- The corrector of the intensity, and the classification byte.
abbrev pub intensity_in : SurfaceChoice → ℕ × ℕ
intensity_in x = x.0

abbrev pub classification_in : SurfaceChoice → ℕ
classification_in x = x.1

abbrev pub IsSurface : Predictions → ℕ → SurfaceChoice → Type 0
IsSurface e changes x = IsWord (has_bit 16 changes) (intensity_in x)
    × IsByte (has_bit 8 changes) e.previous.classification (classification_in x)

abbrev pub surface_cuts : SurfaceModels → Predictions → ℕ → ℕ → SurfaceChoice → List Cut
surface_cuts ms e changes flags x =
    word_cuts (has_bit 16 changes) ms.intensity (intensity_context flags) (intensity_in x)
    ++ byte_cuts (has_bit 8 changes) ms.classifications e.previous.classification (classification_in x)

abbrev pub surface_next : SurfaceModels → Predictions → ℕ → ℕ → SurfaceChoice → SurfaceModels
surface_next ms e changes flags x =
    record {
      intensity = word_next (has_bit 16 changes) ms.intensity (intensity_context flags) (intensity_in x);
      classifications =
          byte_next (has_bit 8 changes) ms.classifications e.previous.classification (classification_in x);
    }

-- ---- scan angle, user data and point source
pub record AreScanModels (ms : ScanModels) : Type 0 where
  pub angles : AreByteModels 2 ms.angles
  pub users : AreByteModels 256 ms.users
  pub source : IsInts 16 1 ms.source

abbrev pub ScanChoice : Type 0
ScanChoice = ℕ × (ℕ × (ℕ × ℕ))

-- The difference of the scan angle, the user data, and the corrector of the point source.
abbrev pub angle_in : ScanChoice → ℕ
angle_in x = x.0

abbrev pub user_in : ScanChoice → ℕ
user_in x = x.1.0

abbrev pub source_in : ScanChoice → ℕ × ℕ
source_in x = x.1.1

abbrev pub IsScan : Predictions → ℕ → ScanChoice → Type 0
IsScan e changes x = IsByte (has_bit 4 changes) 0 (angle_in x)
    × (IsByte (has_bit 2 changes) e.previous.user_data (user_in x) × IsWord (has_bit 1 changes) (source_in x))

abbrev pub scan_cuts : ScanModels → Predictions → ℕ → ℕ → ScanChoice → List Cut
scan_cuts ms e changes flags x =
    byte_cuts (has_bit 4 changes) ms.angles (direction_bit flags) (angle_in x)
    ++ (byte_cuts (has_bit 2 changes) ms.users e.previous.user_data (user_in x)
    ++ word_cuts (has_bit 1 changes) ms.source 0 (source_in x))

abbrev pub scan_next : ScanModels → Predictions → ℕ → ℕ → ScanChoice → ScanModels
scan_next ms e changes flags x =
    record {
      angles = byte_next (has_bit 4 changes) ms.angles (direction_bit flags) (angle_in x);
      users = byte_next (has_bit 2 changes) ms.users e.previous.user_data (user_in x);
      source = word_next (has_bit 1 changes) ms.source 0 (source_in x);
    }

-- ---- dx, dy and z
pub record ArePlaceModels (ms : PlaceModels) : Type 0 where
  pub dx : IsInts 32 2 ms.dx
  pub dy : IsInts 32 22 ms.dy
  pub z : IsInts 32 20 ms.z

abbrev pub PlaceChoice : Type 0
PlaceChoice = (ℕ × ℕ) × ((ℕ × ℕ) × (ℕ × ℕ))

-- The correctors of dx, dy and z: each a width, and an index in that width.
abbrev pub dx_in : PlaceChoice → ℕ × ℕ
dx_in x = x.0

abbrev pub dy_in : PlaceChoice → ℕ × ℕ
dy_in x = x.1.0

abbrev pub z_in : PlaceChoice → ℕ × ℕ
z_in x = x.1.1

abbrev pub IsPlace : PlaceChoice → Type 0
IsPlace x = IsCorrector 32 (dx_in x) × (IsCorrector 32 (dy_in x) × IsCorrector 32 (z_in x))

abbrev pub place_cuts : PlaceModels → ℕ → PlaceChoice → List Cut
place_cuts ms flags x =
    int_cuts ms.dx (one_return flags) (dx_in x).0 (dx_in x).1
    ++ (int_cuts ms.dy (y_context flags (dx_in x).0) (dy_in x).0 (dy_in x).1
    ++ int_cuts ms.z (z_context flags (dx_in x).0 (dy_in x).0) (z_in x).0 (z_in x).1)

abbrev pub place_next : PlaceModels → ℕ → PlaceChoice → PlaceModels
place_next ms flags x =
    record {
      dx = int_next ms.dx (one_return flags) (dx_in x).0 (dx_in x).1;
      dy = int_next ms.dy (y_context flags (dx_in x).0) (dy_in x).0 (dy_in x).1;
      z = int_next ms.z (z_context flags (dx_in x).0 (dy_in x).0) (z_in x).0 (z_in x).1;
    }

-- ---- which of them a writer takes
abbrev pub head_written : Predictions → Point → HeadChoice
head_written e p = (changes_of e p, p.flags)

abbrev pub surface_written : Predictions → Point → SurfaceChoice
surface_written e p = (word_corrector e.intensity p.intensity, p.classification)

abbrev pub scan_written : Predictions → Point → ScanChoice
scan_written e p = (
  byte_difference e.previous.scan_angle p.scan_angle,
  (p.user_data, word_corrector e.previous.point_source p.point_source),
)

abbrev pub place_written : Predictions → Point → PlaceChoice
place_written e p = (
  int_corrector 32 e.dx (int_wrapping_sub w32 p.x e.previous.x),
  (int_corrector 32 e.dy (int_wrapping_sub w32 p.y e.previous.y), int_corrector 32 e.z p.z),
)
