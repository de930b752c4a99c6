-- The events of a point under its models: which parts they cut out, and what the models stand for after them.
use Rattle.std.proofs.Common.{◌≡◌, ℕ, pos, ◌+◌, ◌/◌, ◌<◌, ◌≤◌, List, [], ◌∷◌, ◌++◌, refl, arith, lit<, lit≤, Bool, true, false}
use Rattle.std.specs.Int.{w32, int_wrapping_sub}
use Rattle.laz_models.specs.Counting.{Counting}
use Rattle.laz_integer.specs.Integer.{IntState, IntStands, IsCorrector, IsInts, corrector_events}
use Rattle.laz_integer.specs.Fields.{BankStands, IsByte, IsWord, byte_cuts, byte_events, byte_next, if_marked, word_corrector, word_cuts, word_next}
use Rattle.laz_integer.proofs.Public.{Piece, Piece-both, Piece-byte, Piece-int, Piece-symbol, Piece-word, IsCorrector-written, byte-model, first-model}
use Rattle.laz_point10.specs.declared.point.Point.{Point}
use Rattle.laz_point10.specs.declared.history.Predictions.{Predictions}
use Rattle.laz_point10.specs.declared.history.History.{History}
use Rattle.laz_point10.specs.declared.models.HeadModels.{HeadModels}
use Rattle.laz_point10.specs.declared.models.SurfaceModels.{SurfaceModels}
use Rattle.laz_point10.specs.declared.models.ScanModels.{ScanModels}
use Rattle.laz_point10.specs.declared.models.PlaceModels.{PlaceModels}
use Rattle.laz_point10.specs.declared.models.Models.{Models}
use Rattle.laz_point10.specs.Points.{IsPoint, direction_bit, one_return}
use Rattle.laz_point10.specs.PointEvents.{even_below, bit_if_changed, changes_of, events_by, intensity_context, changes_kind, flags_kind, intensity_kind, classification_kind, scan_angle_kind, user_data_kind, point_source_kind, x_kind, y_kind, z_kind}
use Rattle.laz_integer.specs.Bytes.{byte_difference, has_bit}
use Rattle.laz_point10.specs.Groups.{HeadChoice, head_cuts, head_next, AreHeadModels, SurfaceChoice, surface_cuts, surface_next, AreSurfaceModels, ScanChoice, scan_cuts, scan_next, AreScanModels, PlaceChoice, IsPlace, place_cuts, place_next, ArePlaceModels}
use Rattle.laz_integer.specs.Bytes.{AreByteModels}
use Rattle.laz_point10.specs.Coded.{AreModels, HeadStands, SurfaceStands, ScanStands, PlaceStands, ModelsStand, PointChoice, IsPointChoice, choice_cuts, choice_events, choice_next, head_events, surface_events, scan_events, place_events, predicted, choice_written}
use Rattle.laz_point10.specs.Laws.{point_kinds}

-- ---- a field that is coded if it is marked: what can be coded of it
abbrev pub MayByte : Bool → ℕ → Type 0
MayByte true s = s < 256
MayByte false s = Unit {0}

abbrev pub MayWord : Bool → ℕ × ℕ → Type 0
MayWord true x = IsCorrector 16 x
MayWord false x = Unit {0}

may-byte : (marked : Bool) (expected s : ℕ) → IsByte marked expected s → MayByte marked s
may-byte true expected s h = h
may-byte false expected s h = tt

may-word : (marked : Bool) (x : ℕ × ℕ) → IsWord marked x → MayWord marked x
may-word true x h = h
may-word false x h = tt

may-byte_small : (marked : Bool) (s : ℕ) → s < 256 → MayByte marked s
may-byte_small true s h = h
may-byte_small false s h = tt

may-word_any : (marked : Bool) (x : ℕ × ℕ) → IsCorrector 16 x → MayWord marked x
may-word_any true x h = h
may-word_any false x h = tt

byte-piece : (marked : Bool) (kind : List ℕ) (bank : List Counting) (n m s : ℕ) → AreByteModels n bank → m < n → MayByte marked s
    → Piece (kind ∷ []) (if_marked marked (byte_events kind m s)) (byte_cuts marked bank m s) (λ l. BankStands kind l bank) (λ l. BankStands kind l (byte_next marked bank m s))
byte-piece true kind bank n m s has within asked = let model = byte-model n m bank has within in Piece-byte true kind bank m 0 s model.0 model.1 asked
byte-piece false kind bank n m s has within asked = let model = byte-model n m bank has within in Piece-byte false kind bank m s s model.0 model.1 refl

word-piece : (marked : Bool) (kind : List ℕ) (st : IntState) (n ctx : ℕ) (x : ℕ × ℕ) → IsInts 16 n st → ctx < n → MayWord marked x
    → Piece (kind ∷ []) (if_marked marked (corrector_events kind 16 ctx x.0 x.1)) (word_cuts marked st ctx x) (λ l. IntStands kind l st) (λ l. IntStands kind l (word_next marked st ctx x))
word-piece true kind st n ctx x is within asked = Piece-word true kind st n ctx x is within asked
word-piece false kind st n ctx x is within asked = Piece-word false kind st n ctx (0, 0) is within refl

-- ---- contexts
pub single-small : (flags : ℕ) → one_return flags ≤ 1
unfolding one_return
single-small flags = grind arith

pub even-small : (most k : ℕ) → even_below most k ≤ most
unfolding even_below
even-small most k = grind arith

abbrev pub head_kinds : List (List ℕ)
head_kinds = (changes_kind ∷ []) ++ (flags_kind ∷ [])

abbrev pub surface_kinds : List (List ℕ)
surface_kinds = (intensity_kind ∷ []) ++ (classification_kind ∷ [])

abbrev pub scan_kinds : List (List ℕ)
scan_kinds = (scan_angle_kind ∷ []) ++ ((user_data_kind ∷ []) ++ (point_source_kind ∷ []))

abbrev pub place_kinds : List (List ℕ)
place_kinds = (x_kind ∷ []) ++ ((y_kind ∷ []) ++ (z_kind ∷ []))

-- ---- what can be coded of a point
abbrev pub MayHead : HeadChoice → Type 0
MayHead x = (x.0 < 64) × MayByte (has_bit 32 x.0) x.1

abbrev pub MaySurface : ℕ → SurfaceChoice → Type 0
MaySurface changes x = MayWord (has_bit 16 changes) x.0 × MayByte (has_bit 8 changes) x.1

abbrev pub MayScan : ℕ → ScanChoice → Type 0
MayScan changes x = MayByte (has_bit 4 changes) x.0 × (MayByte (has_bit 2 changes) x.1.0 × MayWord (has_bit 1 changes) x.1.1)

abbrev pub MayChoice : PointChoice → Type 0
MayChoice x = MayHead x.0 × (MaySurface x.0.0 x.1.0 × (MayScan x.0.0 x.1.1.0 × IsPlace x.1.1.1))

-- that is what a reader asks for, and what a writer takes
pub may-asked : (m : History) (x : PointChoice) → IsPointChoice m x → MayChoice x
may-asked m x h =
    let e = predicted m x.0.1 in (
      (h.0.0, may-byte (has_bit 32 x.0.0) m.last.flags x.0.1 h.0.1),
      (
        (may-word (has_bit 16 x.0.0) x.1.0.0 h.1.0.0, may-byte (has_bit 8 x.0.0) e.previous.classification x.1.0.1 h.1.0.1),
        (
          (may-byte (has_bit 4 x.0.0) 0 x.1.1.0.0 h.1.1.0.0, (may-byte (has_bit 2 x.0.0) e.previous.user_data x.1.1.0.1.0 h.1.1.0.1.0, may-word (has_bit 1 x.0.0) x.1.1.0.1.1 h.1.1.0.1.1)),
          h.1.1.1,
        ),
      ),
    )

bit-small : (bit a b : ℕ) → bit_if_changed bit a b ≤ bit
bit-small bit a b = grind arith

pub changes-small : (e : Predictions) (p : Point) → changes_of e p < 64
unfolding changes_of
changes-small e p = grind (arith, bit-small)

pub may-written : (m : History) (p : Point) → IsPoint p → MayChoice (choice_written m p)
may-written m p is =
    let e = predicted m p.flags in
    let changes = changes_of e p in (
      (changes-small e p, may-byte_small (has_bit 32 changes) p.flags is.flags),
      (
        (may-word_any (has_bit 16 changes) (word_corrector e.intensity p.intensity) (IsCorrector-written 16 (pos e.intensity) (pos p.intensity) (lit≤ tt) (lit≤ tt)), may-byte_small (has_bit 8 changes) p.classification is.classification),
        (
          (may-byte_small (has_bit 4 changes) (byte_difference e.previous.scan_angle p.scan_angle) (omega arith), (may-byte_small (has_bit 2 changes) p.user_data is.user_data, may-word_any (has_bit 1 changes) (word_corrector e.previous.point_source p.point_source) (IsCorrector-written 16 (pos e.previous.point_source) (pos p.point_source) (lit≤ tt) (lit≤ tt)))),
          (IsCorrector-written 32 e.dx (int_wrapping_sub w32 p.x e.previous.x) (lit≤ tt) (lit≤ tt), (IsCorrector-written 32 e.dy (int_wrapping_sub w32 p.y e.previous.y) (lit≤ tt) (lit≤ tt), IsCorrector-written 32 e.z p.z (lit≤ tt) (lit≤ tt))),
        ),
      ),
    )

-- Its events are those of the definition.
pub events-written : (m : History) (p : Point) → choice_events m (choice_written m p) ≡ events_by (predicted m p.flags) p
events-written m p = refl

piece-head : (ms : HeadModels) (last : Point) (x : HeadChoice) → AreHeadModels ms → last.flags < 256 → MayHead x
    → Piece head_kinds (head_events last x) (head_cuts ms last x) (λ l. HeadStands l ms) (λ l. HeadStands l (head_next ms last x))
piece-head ms last x is small asked =
    Piece-both (changes_kind ∷ []) (flags_kind ∷ []) _ _ _ _ _ _ _ _ refl refl
    (Piece-symbol changes_kind ms.changes 0 64 x.0 (first-model ms.changes 64 [] is.changes).0 (first-model ms.changes 64 [] is.changes).1 (lit≤ tt) asked.0)
    (byte-piece (has_bit 32 x.0) flags_kind ms.flags 256 last.flags x.1 is.flags small asked.1)

piece-surface : (ms : SurfaceModels) (e : Predictions) (changes flags : ℕ) (x : SurfaceChoice) → AreSurfaceModels ms → e.previous.classification < 256 → MaySurface changes x
    → Piece surface_kinds (surface_events e changes flags x) (surface_cuts ms e changes flags x) (λ l. SurfaceStands l ms) (λ l. SurfaceStands l (surface_next ms e changes flags x))
piece-surface ms e changes flags x is small asked =
    Piece-both (intensity_kind ∷ []) (classification_kind ∷ []) _ _ _ _ _ _ _ _ refl refl
    (word-piece (has_bit 16 changes) intensity_kind ms.intensity 4 (intensity_context flags) x.0 is.intensity (omega arith) asked.0)
    (byte-piece (has_bit 8 changes) classification_kind ms.classifications 256 e.previous.classification x.1 is.classifications small asked.1)

piece-scan : (ms : ScanModels) (e : Predictions) (changes flags : ℕ) (x : ScanChoice) → AreScanModels ms → e.previous.user_data < 256 → MayScan changes x
    → Piece scan_kinds (scan_events e changes flags x) (scan_cuts ms e changes flags x) (λ l. ScanStands l ms) (λ l. ScanStands l (scan_next ms e changes flags x))
piece-scan ms e changes flags x is small asked =
    Piece-both (scan_angle_kind ∷ []) ((user_data_kind ∷ []) ++ (point_source_kind ∷ [])) _ _ _ _ _ _ _ _ refl refl
    (byte-piece (has_bit 4 changes) scan_angle_kind ms.angles 2 (direction_bit flags) x.0 is.angles (omega arith) asked.0)
    (Piece-both (user_data_kind ∷ []) (point_source_kind ∷ []) _ _ _ _ _ _ _ _ refl refl
    (byte-piece (has_bit 2 changes) user_data_kind ms.users 256 e.previous.user_data x.1.0 is.users small asked.1.0)
    (word-piece (has_bit 1 changes) point_source_kind ms.source 1 0 x.1.1 is.source (lit< tt) asked.1.1))

piece-place : (ms : PlaceModels) (flags : ℕ) (x : PlaceChoice) → ArePlaceModels ms → IsPlace x
    → Piece place_kinds (place_events flags x) (place_cuts ms flags x) (λ l. PlaceStands l ms) (λ l. PlaceStands l (place_next ms flags x))
piece-place ms flags x is asked =
    let one = single-small flags in
    let fewer = even-small 20 x.0.0 in
    let few = even-small 18 ((x.0.0 + x.1.0.0) / 2) in
    Piece-both (x_kind ∷ []) ((y_kind ∷ []) ++ (z_kind ∷ [])) _ _ _ _ _ _ _ _ refl refl
    (Piece-int x_kind ms.dx 32 _ x.0.0 x.0.1 is.dx.state is.dx.bits (omega (arith, one, is.dx.contexts)) asked.0)
    (Piece-both (y_kind ∷ []) (z_kind ∷ []) _ _ _ _ _ _ _ _ refl refl
    (Piece-int y_kind ms.dy 32 _ x.1.0.0 x.1.0.1 is.dy.state is.dy.bits (omega (arith, one, fewer, is.dy.contexts)) asked.1.0)
    (Piece-int z_kind ms.z 32 _ x.1.1.0 x.1.1.1 is.z.state is.z.bits (omega (arith, one, few, is.z.contexts)) asked.1.1))

pub piece-point : (ms : Models) (m : History) (x : PointChoice) → AreModels ms → m.last.flags < 256 → m.last.classification < 256 → m.last.user_data < 256 → MayChoice x
    → Piece point_kinds (choice_events m x) (choice_cuts ms m x) (λ l. ModelsStand l ms) (λ l. ModelsStand l (choice_next ms m x))
piece-point ms m x is flags class user asked =
    let e = predicted m x.0.1 in
    Piece-both head_kinds (surface_kinds ++ (scan_kinds ++ place_kinds)) _ _ _ _ _ _ _ _ refl refl
    (piece-head ms.head m.last x.0 is.head flags asked.0)
    (Piece-both surface_kinds (scan_kinds ++ place_kinds) _ _ _ _ _ _ _ _ refl refl
    (piece-surface ms.surface e x.0.0 x.0.1 x.1.0 is.surface class asked.1.0)
    (Piece-both scan_kinds place_kinds _ _ _ _ _ _ _ _ refl refl
    (piece-scan ms.scan e x.0.0 x.0.1 x.1.1.0 is.scan user asked.1.1.0)
    (piece-place ms.place x.0.1 x.1.1.1 is.place asked.1.1.1)))
