-- What a group of calls has read, one after another: the fields of each group of models.
use Rattle.std.proofs.Common.{◌≡◌, ℕ, ℤ, ◌+◌, ◌/◌, List, ◌++◌, ap, ◌∙◌, subst, lit≤}
use Rattle.std.specs.Prelude.{FitsSigned}
use Rattle.std.specs.Int.{w32, cast_signed, cast_unsigned}
use Rattle.laz_range.specs.Cut.{Cut}
use Rattle.laz_range.specs.Coding.{Coding, Codes}
use Rattle.laz_range.specs.Decoding.{Decoding, Takes, TakesNone}
use Rattle.laz_range.proofs.Public.{Takes-then, TakesNone-first, TakesNone-second}
use Rattle.laz_models.specs.Counting.{Counting}
use Rattle.laz_integer.specs.Corrector.{corrected}
use Rattle.laz_integer.specs.Integer.{IntState, IsCorrector, int_cuts, int_next, int_width}
use Rattle.laz_integer.proofs.Public.{corrected-passed}
use Rattle.laz_point10.specs.declared.history.Predictions.{Predictions}
use Rattle.laz_point10.specs.declared.models.SurfaceModels.{SurfaceModels}
use Rattle.laz_point10.specs.declared.models.ScanModels.{ScanModels}
use Rattle.laz_point10.specs.declared.models.PlaceModels.{PlaceModels}
use Rattle.laz_point10.specs.Points.{direction_bit, one_return}
use Rattle.laz_point10.specs.PointEvents.{even_below, intensity_context, y_context, z_context}
use Rattle.laz_integer.specs.Bytes.{has_bit}
use Rattle.laz_integer.specs.Fields.{IsByte, IsWord, byte_cuts, int_corrector, word_cuts}
use Rattle.laz_point10.specs.Groups.{IsSurface, surface_cuts, IsScan, scan_cuts, IsPlace, place_cuts}

pub same-surface : (a b : IntState) (c d : List Counting) → a ≡ b → c ≡ d → (let x : SurfaceModels = record { intensity = a; classifications = c } in x) ≡ record { intensity = b; classifications = d }
same-surface a b c d e f = cc

pub same-scan : (a b c d : List Counting) (m n : IntState) → a ≡ b → c ≡ d → m ≡ n → (let x : ScanModels = record { angles = a; users = c; source = m } in x) ≡ record { angles = b; users = d; source = n }
same-scan a b c d m n e f g = cc

pub same-place : (a b c d m n : IntState) → a ≡ b → c ≡ d → m ≡ n → (let x : PlaceModels = record { dx = a; dy = c; z = m } in x) ≡ record { dx = b; dy = d; z = n }
same-place a b c d m n e f g = cc

-- ---- an integer of 32 bits
pub int-takes : (st : IntState) (other ctx : ℕ) (x : ℕ × ℕ) (a b : Decoding) → other ≡ ctx → Takes (IsCorrector 32) (λ y. int_cuts st other y.0 y.1) a b x → Takes (IsCorrector 32) (λ y. int_cuts st ctx y.0 y.1) a b x
int-takes st other ctx x a b same h = subst (λ (c : ℕ). Takes (IsCorrector 32) (λ y. int_cuts st c y.0 y.1) a b x) same h

pub int-none : (st : IntState) (other ctx : ℕ) (a b : Decoding) → other ≡ ctx → TakesNone (IsCorrector 32) (λ y. int_cuts st other y.0 y.1) a b → TakesNone (IsCorrector 32) (λ y. int_cuts st ctx y.0 y.1) a b
int-none st other ctx a b same h = subst (λ (c : ℕ). TakesNone (IsCorrector 32) (λ y. int_cuts st c y.0 y.1) a b) same h

pub int-counts : (st next : IntState) (other ctx k v : ℕ) → other ≡ ctx → next ≡ int_next st other k v → next ≡ int_next st ctx k v
int-counts st next other ctx k v same h = subst (λ (c : ℕ). next ≡ int_next st c k v) same h

pub int-value : (pred : ℤ) (k v : ℕ) (z : ℤ) → FitsSigned w32 pred → z ≡ corrected 32 (cast_signed w32 (cast_unsigned w32 pred)) k v → cast_signed w32 (cast_unsigned w32 z) ≡ corrected 32 pred k v
int-value pred k v z fits is = corrected-passed 32 pred k v z (lit≤ tt) fits is

pub sum-is : (a b c d : ℕ) → a ≡ c → b ≡ d → a + b ≡ c + d
sum-is a b c d e f = cc

-- ---- intensity and classification
module _ (ms : SurfaceModels) (e : Predictions) (changes flags : ℕ) (a b : Decoding) where
  abbrev word_of_bit : ℕ × ℕ → List Cut
  word_of_bit = word_cuts (has_bit 16 changes) ms.intensity (intensity_context flags)

  abbrev byte_of_bit : ℕ × ℕ → ℕ → List Cut
  byte_of_bit x = byte_cuts (has_bit 8 changes) ms.classifications e.previous.classification

  abbrev IsSecond : ℕ × ℕ → ℕ → Type 0
  IsSecond x = IsByte (has_bit 8 changes) e.previous.classification

  pub surface-none_first : TakesNone (IsWord (has_bit 16 changes)) word_of_bit a b → TakesNone (IsSurface e changes) (surface_cuts ms e changes flags) a b
  surface-none_first f = TakesNone-first {X = ℕ × ℕ} {Y = ℕ} (IsWord (has_bit 16 changes)) IsSecond word_of_bit byte_of_bit a b f

  module _ (x : ℕ × ℕ) (c : Decoding) (f : Takes (IsWord (has_bit 16 changes)) word_of_bit a b x) where
    pub surface-none_second : TakesNone (IsByte (has_bit 8 changes) e.previous.classification) (byte_cuts (has_bit 8 changes) ms.classifications e.previous.classification) b c
        → TakesNone (IsSurface e changes) (surface_cuts ms e changes flags) a c
    surface-none_second g = TakesNone-second {X = ℕ × ℕ} {Y = ℕ} (IsWord (has_bit 16 changes)) IsSecond word_of_bit byte_of_bit a b c x f g

    pub surface-takes : (y : ℕ) → Takes (IsByte (has_bit 8 changes) e.previous.classification) (byte_cuts (has_bit 8 changes) ms.classifications e.previous.classification) b c y
        → Takes (IsSurface e changes) (surface_cuts ms e changes flags) a c (x, y)
    surface-takes y g = Takes-then {X = ℕ × ℕ} {Y = ℕ} (IsWord (has_bit 16 changes)) IsSecond word_of_bit byte_of_bit a b c x y f g

-- ---- angle, user data and source
abbrev pub Rest : Predictions → ℕ → ℕ → ℕ × (ℕ × ℕ) → Type 0
Rest e changes s y = IsByte (has_bit 2 changes) e.previous.user_data y.0 × IsWord (has_bit 1 changes) y.1

abbrev pub rest : ScanModels → Predictions → ℕ → ℕ → ℕ × (ℕ × ℕ) → List Cut
rest ms e changes s y = byte_cuts (has_bit 2 changes) ms.users e.previous.user_data y.0 ++ word_cuts (has_bit 1 changes) ms.source 0 y.1

pub scan-takes : (ms : ScanModels) (e : Predictions) (changes flags s t : ℕ) (w : ℕ × ℕ) (a b c d : Decoding)
    → Takes (IsByte (has_bit 4 changes) 0) (byte_cuts (has_bit 4 changes) ms.angles (direction_bit flags)) a b s
    → Takes (IsByte (has_bit 2 changes) e.previous.user_data) (byte_cuts (has_bit 2 changes) ms.users e.previous.user_data) b c t
    → Takes (IsWord (has_bit 1 changes)) (word_cuts (has_bit 1 changes) ms.source 0) c d w
    → Takes (IsScan e changes) (scan_cuts ms e changes flags) a d (s, (t, w))
scan-takes ms e changes flags s t w a b c d f g h =
    Takes-then {X = ℕ} {Y = ℕ × (ℕ × ℕ)} (IsByte (has_bit 4 changes) 0) (Rest e changes) (byte_cuts (has_bit 4 changes) ms.angles (direction_bit flags)) (rest ms e changes) a b d s (t, w) f
    (Takes-then {X = ℕ} {Y = ℕ × ℕ} (IsByte (has_bit 2 changes) e.previous.user_data) (λ _. IsWord (has_bit 1 changes)) (byte_cuts (has_bit 2 changes) ms.users e.previous.user_data) (λ _. word_cuts (has_bit 1 changes) ms.source 0) b c d t w g h)

pub scan-none_first : (ms : ScanModels) (e : Predictions) (changes flags : ℕ) (a b : Decoding)
    → TakesNone (IsByte (has_bit 4 changes) 0) (byte_cuts (has_bit 4 changes) ms.angles (direction_bit flags)) a b → TakesNone (IsScan e changes) (scan_cuts ms e changes flags) a b
scan-none_first ms e changes flags a b f =
    TakesNone-first {X = ℕ} {Y = ℕ × (ℕ × ℕ)} (IsByte (has_bit 4 changes) 0) (Rest e changes) (byte_cuts (has_bit 4 changes) ms.angles (direction_bit flags)) (rest ms e changes) a b f

pub scan-none_second : (ms : ScanModels) (e : Predictions) (changes flags s : ℕ) (a b c : Decoding)
    → Takes (IsByte (has_bit 4 changes) 0) (byte_cuts (has_bit 4 changes) ms.angles (direction_bit flags)) a b s
    → TakesNone (IsByte (has_bit 2 changes) e.previous.user_data) (byte_cuts (has_bit 2 changes) ms.users e.previous.user_data) b c
    → TakesNone (IsScan e changes) (scan_cuts ms e changes flags) a c
scan-none_second ms e changes flags s a b c f g =
    TakesNone-second {X = ℕ} {Y = ℕ × (ℕ × ℕ)} (IsByte (has_bit 4 changes) 0) (Rest e changes) (byte_cuts (has_bit 4 changes) ms.angles (direction_bit flags)) (rest ms e changes) a b c s f
    (TakesNone-first {X = ℕ} {Y = ℕ × ℕ} (IsByte (has_bit 2 changes) e.previous.user_data) (λ _. IsWord (has_bit 1 changes)) (byte_cuts (has_bit 2 changes) ms.users e.previous.user_data) (λ _. word_cuts (has_bit 1 changes) ms.source 0) b c g)

pub scan-none_third : (ms : ScanModels) (e : Predictions) (changes flags s t : ℕ) (a b c d : Decoding)
    → Takes (IsByte (has_bit 4 changes) 0) (byte_cuts (has_bit 4 changes) ms.angles (direction_bit flags)) a b s
    → Takes (IsByte (has_bit 2 changes) e.previous.user_data) (byte_cuts (has_bit 2 changes) ms.users e.previous.user_data) b c t
    → TakesNone (IsWord (has_bit 1 changes)) (word_cuts (has_bit 1 changes) ms.source 0) c d
    → TakesNone (IsScan e changes) (scan_cuts ms e changes flags) a d
scan-none_third ms e changes flags s t a b c d f g h =
    TakesNone-second {X = ℕ} {Y = ℕ × (ℕ × ℕ)} (IsByte (has_bit 4 changes) 0) (Rest e changes) (byte_cuts (has_bit 4 changes) ms.angles (direction_bit flags)) (rest ms e changes) a b d s f
    (TakesNone-second {X = ℕ} {Y = ℕ × ℕ} (IsByte (has_bit 2 changes) e.previous.user_data) (λ _. IsWord (has_bit 1 changes)) (byte_cuts (has_bit 2 changes) ms.users e.previous.user_data) (λ _. word_cuts (has_bit 1 changes) ms.source 0) b c d t g h)

-- ---- the place
abbrev pub x_cuts : PlaceModels → ℕ → ℕ × ℕ → List Cut
x_cuts ms flags x = int_cuts ms.dx (one_return flags) x.0 x.1

abbrev pub y_cuts : PlaceModels → ℕ → ℕ → ℕ × ℕ → List Cut
y_cuts ms flags kx y = int_cuts ms.dy (y_context flags kx) y.0 y.1

abbrev pub z_cuts : PlaceModels → ℕ → ℕ → ℕ → ℕ × ℕ → List Cut
z_cuts ms flags kx ky z = int_cuts ms.z (z_context flags kx ky) z.0 z.1

abbrev Two : ℕ × ℕ → (ℕ × ℕ) × (ℕ × ℕ) → Type 0
Two x y = IsCorrector 32 y.0 × IsCorrector 32 y.1

abbrev two : PlaceModels → ℕ → ℕ × ℕ → (ℕ × ℕ) × (ℕ × ℕ) → List Cut
two ms flags x y = y_cuts ms flags x.0 y.0 ++ z_cuts ms flags x.0 y.0.0 y.1

pub place-takes : (ms : PlaceModels) (flags : ℕ) (x y z : ℕ × ℕ) (a b c d : Decoding)
    → Takes (IsCorrector 32) (x_cuts ms flags) a b x → Takes (IsCorrector 32) (y_cuts ms flags x.0) b c y → Takes (IsCorrector 32) (z_cuts ms flags x.0 y.0) c d z
    → Takes IsPlace (place_cuts ms flags) a d (x, (y, z))
place-takes ms flags x y z a b c d f g h =
    Takes-then {X = ℕ × ℕ} {Y = (ℕ × ℕ) × (ℕ × ℕ)} (IsCorrector 32) Two (x_cuts ms flags) (two ms flags) a b d x (y, z) f
    (Takes-then {X = ℕ × ℕ} {Y = ℕ × ℕ} (IsCorrector 32) (λ _. IsCorrector 32) (y_cuts ms flags x.0) (λ y. z_cuts ms flags x.0 y.0) b c d y z g h)

pub place-none_first : (ms : PlaceModels) (flags : ℕ) (a b : Decoding) → TakesNone (IsCorrector 32) (x_cuts ms flags) a b → TakesNone IsPlace (place_cuts ms flags) a b
place-none_first ms flags a b f = TakesNone-first {X = ℕ × ℕ} {Y = (ℕ × ℕ) × (ℕ × ℕ)} (IsCorrector 32) Two (x_cuts ms flags) (two ms flags) a b f

pub place-none_second : (ms : PlaceModels) (flags : ℕ) (x : ℕ × ℕ) (a b c : Decoding)
    → Takes (IsCorrector 32) (x_cuts ms flags) a b x → TakesNone (IsCorrector 32) (y_cuts ms flags x.0) b c → TakesNone IsPlace (place_cuts ms flags) a c
place-none_second ms flags x a b c f g =
    TakesNone-second {X = ℕ × ℕ} {Y = (ℕ × ℕ) × (ℕ × ℕ)} (IsCorrector 32) Two (x_cuts ms flags) (two ms flags) a b c x f
    (TakesNone-first {X = ℕ × ℕ} {Y = ℕ × ℕ} (IsCorrector 32) (λ _. IsCorrector 32) (y_cuts ms flags x.0) (λ y. z_cuts ms flags x.0 y.0) b c g)

pub place-none_third : (ms : PlaceModels) (flags : ℕ) (x y : ℕ × ℕ) (a b c d : Decoding)
    → Takes (IsCorrector 32) (x_cuts ms flags) a b x → Takes (IsCorrector 32) (y_cuts ms flags x.0) b c y → TakesNone (IsCorrector 32) (z_cuts ms flags x.0 y.0) c d
    → TakesNone IsPlace (place_cuts ms flags) a d
place-none_third ms flags x y a b c d f g h =
    TakesNone-second {X = ℕ × ℕ} {Y = (ℕ × ℕ) × (ℕ × ℕ)} (IsCorrector 32) Two (x_cuts ms flags) (two ms flags) a b d x f
    (TakesNone-second {X = ℕ × ℕ} {Y = ℕ × ℕ} (IsCorrector 32) (λ _. IsCorrector 32) (y_cuts ms flags x.0) (λ y. z_cuts ms flags x.0 y.0) b c d y g h)

-- ---- writing an integer
abbrev pub written_cuts : IntState → ℕ → ℤ → ℤ → List Cut
written_cuts st ctx pred real = let x = int_corrector 32 pred real in int_cuts st ctx x.0 x.1

abbrev pub written_next : IntState → ℕ → ℤ → ℤ → IntState
written_next st ctx pred real = let x = int_corrector 32 pred real in int_next st ctx x.0 x.1

same-cuts : (st : IntState) (other ctx : ℕ) (q pred r real : ℤ) → other ≡ ctx → q ≡ pred → r ≡ real → written_cuts st other q r ≡ written_cuts st ctx pred real
same-cuts st other ctx q pred r real e f g =
    ap (λ c. written_cuts st c q r) e ∙ (ap (λ p. written_cuts st ctx p r) f ∙ ap (λ z. written_cuts st ctx pred z) g)

same-next : (st : IntState) (other ctx : ℕ) (q pred r real : ℤ) → other ≡ ctx → q ≡ pred → r ≡ real → written_next st other q r ≡ written_next st ctx pred real
same-next st other ctx q pred r real e f g =
    ap (λ c. written_next st c q r) e ∙ (ap (λ p. written_next st ctx p r) f ∙ ap (λ z. written_next st ctx pred z) g)

pub int-put : (st : IntState) (other ctx : ℕ) (q pred r real : ℤ) (a b : Coding) → other ≡ ctx → q ≡ pred → r ≡ real
    → Codes a b (written_cuts st other q r) → Codes a b (written_cuts st ctx pred real)
int-put st other ctx q pred r real a b e f g h = subst (λ (l : List Cut). Codes a b l) (same-cuts st other ctx q pred r real e f g) h

pub int-next : (st new : IntState) (other ctx : ℕ) (q pred r real : ℤ) → other ≡ ctx → q ≡ pred → r ≡ real
    → new ≡ written_next st other q r → new ≡ written_next st ctx pred real
int-next st new other ctx q pred r real e f g h = h ∙ same-next st other ctx q pred r real e f g

pub width-is : (k : ℕ) (q pred r real : ℤ) → q ≡ pred → r ≡ real → k ≡ int_width 32 q r → k ≡ int_width 32 pred real
width-is k q pred r real f g h = h ∙ (ap (λ p. int_width 32 p r) f ∙ ap (λ z. int_width 32 pred z) g)

pub y-context-is : (s t k flags kx : ℕ) → s ≡ one_return flags → t ≡ even_below 20 k → k ≡ kx → s + t ≡ y_context flags kx
y-context-is s t k flags kx e f g = sum-is s t (one_return flags) (even_below 20 kx) e (f ∙ ap (λ n. even_below 20 n) g)

pub z-context-is : (s t k l flags kx ky : ℕ) → s ≡ one_return flags → t ≡ even_below 18 ((k + l) / 2) → k ≡ kx → l ≡ ky → s + t ≡ z_context flags kx ky
z-context-is s t k l flags kx ky e f g h =
    sum-is s t (one_return flags) (even_below 18 ((kx + ky) / 2)) e (f ∙ (ap (λ n. even_below 18 ((n + l) / 2)) g ∙ ap (λ n. even_below 18 ((kx + n) / 2)) h))
