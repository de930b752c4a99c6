-- The events that a writer makes of a point spell it.
use Rattle.std.proofs.Common.{◌≡◌, ℕ, zero, suc, ℤ, pos, ◌+◌, ◌-◌, ◌*◌, ◌%◌, ◌<◌, ◌≤◌, eqb, cond, Bool, true, false, List, [], ◌∷◌, map, take, drop, get_or, refl, sym, ap, ◌∙◌, arith, ⊎_elim, lit≤}
use Rattle.std.specs.Prelude.{All, FitsSigned, int_le}
use Rattle.std.specs.List.{AllByRecursion, filter}
use Rattle.std.specs.Int.{w32, cast_signed, cast_unsigned, int_wrapping_add, int_wrapping_sub}
use Rattle.std.proofs.lemmas.Int.{of_z-to_z, to_z-of_z}
use Rattle.std.proofs.lemmas.Bool.{cases_eq, eq-eqb}
use Rattle.std.proofs.Math.Facts.{sfits_to_z}
use Rattle.laz_integer.specs.Integer.{IntEvents, IntSpell, int_width}
use Rattle.laz_integer.specs.Fields.{SpellsByte, SpellsWord, byte_events, if_marked, word_events}
use Rattle.laz_integer.proofs.Public.{word_of, word-bits, word-fits, spells-written}
use Rattle.laz_point10.specs.declared.point.Point.{Point}
use Rattle.laz_point10.specs.declared.median.Median.{Median}
use Rattle.laz_point10.specs.declared.history.Predictions.{Predictions}
use Rattle.laz_point10.specs.Medians.{median_of, middle, put_in, with_value}
use Rattle.laz_point10.specs.Points.{IsPoint, latest_or, latest_point, one_return, predictions_of, return_level, return_map, steps, steps_at, zero_point, direction_bit}
use Rattle.laz_point10.specs.PointEvents.{SpellsBy, bit_if_changed, changes_of, classification_kind, events_by, flags_kind, intensity_context, intensity_kind, point_source_kind, scan_angle_kind, user_data_kind, x_kind, y_context, y_kind, z_context, z_kind}
use Rattle.laz_integer.specs.Bytes.{byte_difference, has_bit}
use Rattle.laz_point10.specs.Laws.{PointsAreSpelled}
use Rattle.laz_point10.proofs.PointPieces.{changes-small}

-- ---- the symbol of changes marks each field that differs
bit-times : (bit a b : ℕ) → bit_if_changed bit a b ≡ bit * bit_if_changed 1 a b
bit-times bit a b = grind arith

bit-one : (a b : ℕ) → bit_if_changed 1 a b ≤ 1
bit-one a b = grind arith

bit-none : (a b : ℕ) → bit_if_changed 1 a b ≡ 0 → b ≡ a
bit-none a b h = grind arith

no_true : true ≡ false → ⊥
no_true e = cc

even-bit : (n : ℕ) → eqb (n % 2) 1 ≡ false → n % 2 ≡ 0
even-bit n h =
    ⊎_elim
    (λ (odd : n % 2 ≡ 1). absurd (no_true (sym (eq-eqb (n % 2) 1 odd) ∙ h)))
    (λ (ne : n % 2 ≡ 1 → ⊥). omega (arith, ne))
    (cases_eq (n % 2) 1)

record Same (e : Predictions) (p : Point) : Type 0 where
  flags : has_bit 32 (changes_of e p) ≡ false → p.flags ≡ e.previous.flags
  intensity : has_bit 16 (changes_of e p) ≡ false → p.intensity ≡ e.intensity
  classification : has_bit 8 (changes_of e p) ≡ false → p.classification ≡ e.previous.classification
  scan_angle : has_bit 4 (changes_of e p) ≡ false → p.scan_angle ≡ e.previous.scan_angle
  user_data : has_bit 2 (changes_of e p) ≡ false → p.user_data ≡ e.previous.user_data
  point_source : has_bit 1 (changes_of e p) ≡ false → p.point_source ≡ e.previous.point_source

same : (e : Predictions) (p : Point) → Same e p
unfolding changes_of has_bit
same e p =
    let a = bit-one e.previous.flags p.flags in
    let b = bit-one e.intensity p.intensity in
    let c = bit-one e.previous.classification p.classification in
    let d = bit-one e.previous.scan_angle p.scan_angle in
    let f = bit-one e.previous.user_data p.user_data in
    let g = bit-one e.previous.point_source p.point_source in
    let ta = bit-times 32 e.previous.flags p.flags in
    let tb = bit-times 16 e.intensity p.intensity in
    let tc = bit-times 8 e.previous.classification p.classification in
    let td = bit-times 4 e.previous.scan_angle p.scan_angle in
    let tf = bit-times 2 e.previous.user_data p.user_data in
    record {
      flags = λ h. bit-none _ _ (omega (arith, even-bit _ h, a, b, c, d, f, g, ta, tb, tc, td, tf));
      intensity = λ h. bit-none _ _ (omega (arith, even-bit _ h, a, b, c, d, f, g, ta, tb, tc, td, tf));
      classification = λ h. bit-none _ _ (omega (arith, even-bit _ h, a, b, c, d, f, g, ta, tb, tc, td, tf));
      scan_angle = λ h. bit-none _ _ (omega (arith, even-bit _ h, a, b, c, d, f, g, ta, tb, tc, td, tf));
      user_data = λ h. bit-none _ _ (omega (arith, even-bit _ h, a, b, c, d, f, g, ta, tb, tc, td, tf));
      point_source = λ h. bit-none _ _ (omega (arith, even-bit _ h, a, b, c, d, f, g, ta, tb, tc, td, tf));
    }

-- ---- a field
byte-spells : (marked : Bool) (kind : List ℕ) (m expected s : ℕ) → s < 256 → (marked ≡ false → s ≡ expected) → SpellsByte marked kind m expected (if_marked marked (byte_events kind m s)) s
byte-spells true kind m expected s small h = (small, refl)
byte-spells false kind m expected s small h = (refl, h refl)

word-spells : (marked : Bool) (kind : List ℕ) (ctx pred value : ℕ) → pred < 65536 → value < 65536 → (marked ≡ false → value ≡ pred) → SpellsWord marked kind ctx pred (if_marked marked (word_events kind ctx pred value)) value
word-spells true kind ctx pred value f g h =
    (int_width 16 (pos pred) (pos value), spells-written kind 16 ctx (pos pred) (pos value) (lit≤ tt) (lit≤ tt) (word-fits pred f) (word-fits value g) (word-bits value g))
word-spells false kind ctx pred value f g h = (refl, h refl)

int-spells : (kind : List ℕ) (ctx : ℕ) (pred real : ℤ) → FitsSigned w32 pred → FitsSigned w32 real → IntSpell kind 32 ctx pred (IntEvents kind 32 ctx pred real) real (int_width 32 pred real)
int-spells kind ctx pred real f g = spells-written kind 32 ctx pred real (lit≤ tt) (lit≤ tt) f g (word_of real g)

-- ---- differences that wrap
fits-sub : (a b : ℤ) → FitsSigned w32 (int_wrapping_sub w32 a b)
fits-sub a b = sfits_to_z (record { fits = omega arith })

add-sub : (a b : ℤ) → FitsSigned w32 a → FitsSigned w32 b → a ≡ int_wrapping_add w32 b (int_wrapping_sub w32 a b)
add-sub a b f g =
    let n : ℕ = (cast_unsigned w32 a + (4294967296 - cast_unsigned w32 b)) % 4294967296 in
    let back : cast_unsigned w32 (cast_signed w32 n) ≡ n = of_z-to_z w32 n (omega arith) in
    let ua = word_of a f in
    let ub = word_of b g in
    let whole : (cast_unsigned w32 b + n) % 4294967296 ≡ cast_unsigned w32 a = omega (arith, ua, ub) in
    sym (ap (λ u. cast_signed w32 ((cast_unsigned w32 b + u) % 4294967296)) back ∙ (ap (cast_signed w32) whole ∙ to_z-of_z w32 a f))

-- ---- what is predicted fits the fields
record ArePredictions (e : Predictions) : Type 0 where
  previous : IsPoint e.previous
  intensity : e.intensity < 65536
  dx : FitsSigned w32 e.dx
  dy : FitsSigned w32 e.dy
  z : FitsSigned w32 e.z

written-point : (e : Predictions) (p : Point) → ArePredictions e → IsPoint p → SpellsBy e (events_by e p) p
written-point e p ex is =
    let c = changes_of e p in
    let s = same e p in
    let dx = int_wrapping_sub w32 p.x e.previous.x in
    let dy = int_wrapping_sub w32 p.y e.previous.y in
    record {
      changes = c;
      flags_part = _;
      intensity_part = _;
      classification_part = _;
      angle_part = _;
      user_part = _;
      source_part = _;
      x_part = _;
      y_part = _;
      z_part = _;
      turned = byte_difference e.previous.scan_angle p.scan_angle;
      dx = dx;
      dy = dy;
      kx = int_width 32 e.dx dx;
      ky = int_width 32 e.dy dy;
      kz = int_width 32 e.z p.z;
      are = refl;
      few = changes-small e p;
      flags = byte-spells (has_bit 32 c) flags_kind e.previous.flags e.previous.flags p.flags is.flags s.flags;
      intensity = word-spells (has_bit 16 c) intensity_kind (intensity_context p.flags) e.intensity p.intensity ex.intensity is.intensity s.intensity;
      classification = byte-spells (has_bit 8 c) classification_kind e.previous.classification e.previous.classification p.classification is.classification s.classification;
      angle = byte-spells (has_bit 4 c) scan_angle_kind (direction_bit p.flags) 0 (byte_difference e.previous.scan_angle p.scan_angle) (omega arith) (λ h. omega (arith, s.scan_angle h, ex.previous.scan_angle, is.scan_angle));
      angle_is = omega (arith, ex.previous.scan_angle, is.scan_angle);
      user = byte-spells (has_bit 2 c) user_data_kind e.previous.user_data e.previous.user_data p.user_data is.user_data s.user_data;
      source = word-spells (has_bit 1 c) point_source_kind 0 e.previous.point_source p.point_source ex.previous.point_source is.point_source s.point_source;
      x = int-spells x_kind (one_return p.flags) e.dx dx ex.dx (fits-sub p.x e.previous.x);
      x_is = add-sub p.x e.previous.x is.x ex.previous.x;
      y = int-spells y_kind (y_context p.flags (int_width 32 e.dx dx)) e.dy dy ex.dy (fits-sub p.y e.previous.y);
      y_is = add-sub p.y e.previous.y is.y ex.previous.y;
      z = int-spells z_kind (z_context p.flags (int_width 32 e.dx dx) (int_width 32 e.dy dy)) e.z p.z ex.z is.z;
    }

-- ---- medians of numbers that fit, fit
abbrev AllFit : List ℤ → Type 0
AllFit values = AllByRecursion (λ z. FitsSigned w32 z) values

fit-cond : (t : Bool) (v w : ℤ) (ws more : List ℤ) → FitsSigned w32 v → FitsSigned w32 w → AllFit ws → AllFit more → AllFit (cond t (v ∷ w ∷ ws) (w ∷ more))
fit-cond true v w ws more f g h k = (f, (g, h))
fit-cond false v w ws more f g h k = (g, k)

fit-put : (v : ℤ) (ws : List ℤ) → FitsSigned w32 v → AllFit ws → AllFit (put_in v ws)
fit-put v [] f h = (f, tt)
fit-put v (w ∷ ws) f h = fit-cond (int_le v w) v w ws (put_in v ws) f h.0 h.1 (fit-put v ws f h.1)

fit-take : (n : ℕ) (ws : List ℤ) → AllFit ws → AllFit (take n ws)
fit-take zero ws h = tt
fit-take (suc n) [] h = tt
fit-take (suc n) (w ∷ ws) h = (h.0, fit-take n ws h.1)

fit-drop : (ws : List ℤ) → AllFit ws → AllFit (drop 1 ws)
fit-drop [] h = tt
fit-drop (w ∷ ws) h = h.1

fit-choice : (test high low : Bool) (v : ℤ) (ws : List ℤ) → FitsSigned w32 v → AllFit ws
    → AllFit (let m : Median = cond test (record { values = put_in v (take 4 ws); high = high }) (record { values = put_in v (drop 1 ws); high = low }) in m.values)
fit-choice true high low v ws f h = fit-put v (take 4 ws) f (fit-take 4 ws h)
fit-choice false high low v ws f h = fit-put v (drop 1 ws) f (fit-drop ws h)

fit-with : (m : Median) (v : ℤ) → FitsSigned w32 v → AllFit m.values → AllFit (with_value m v).values
unfolding with_value
fit-with m v f h = fit-choice m.high _ _ v m.values f h

fit-zero : FitsSigned w32 (pos 0)
fit-zero = word-fits 0 (omega arith)

fit-median : (vs : List ℤ) → AllFit vs → AllFit (median_of vs).values
fit-median [] h = (fit-zero, (fit-zero, (fit-zero, (fit-zero, (fit-zero, tt)))))
fit-median (v ∷ vs) h = fit-with (median_of vs) v h.0 (fit-median vs h.1)

fit-at : (ws : List ℤ) (i : ℕ) → AllFit ws → FitsSigned w32 (get_or ws i (pos 0))
fit-at [] i h = fit-zero
fit-at (w ∷ ws) zero h = h.0
fit-at (w ∷ ws) (suc i) h = fit-at ws i h.1

fit-middle : (vs : List ℤ) → AllFit vs → FitsSigned w32 (middle (median_of vs))
fit-middle vs h = fit-at (median_of vs).values 2 (fit-median vs h)

abbrev Step : Type 0
Step = Point × Point

fit-differences : (f : Step → ℤ) (steps : List Step) → ((s : Step) → FitsSigned w32 (f s)) → AllFit (map f steps)
fit-differences f [] all = tt
fit-differences f (s ∷ steps) all = (all s, fit-differences f steps all)

-- ---- the latest of points is a point
zero-point : IsPoint zero_point
zero-point =
    record {
      x = fit-zero;
      y = fit-zero;
      z = fit-zero;
      intensity = omega arith;
      flags = omega arith;
      classification = omega arith;
      scan_angle = omega arith;
      user_data = omega arith;
      point_source = omega arith;
    }

latest-fits : (points : List Point) → All IsPoint points → IsPoint (latest_point points)
latest-fits [] h = zero-point
latest-fits (p ∷ points) h = h 0 p (omega arith)

abbrev AreSteps : List Step → Type 0
AreSteps steps = AllByRecursion (λ (s : Step). IsPoint s.0) steps

points-steps : (points : List Point) → All IsPoint points → AreSteps (steps points)
points-steps [] h = tt
points-steps (p ∷ []) h = tt
points-steps (p ∷ q ∷ points) h = (h 0 p (omega arith), points-steps (q ∷ points) (λ k r lt. h (suc k) r (omega (arith, lt))))

steps-cond : (t : Bool) (s : Step) (steps : List Step) → IsPoint s.0 → AreSteps steps → AreSteps (cond t (s ∷ steps) steps)
steps-cond true s steps f h = (f, h)
steps-cond false s steps f h = h

filter-steps : (test : Step → Bool) (steps : List Step) → AreSteps steps → AreSteps (filter test steps)
filter-steps test [] h = tt
filter-steps test (s ∷ steps) h = steps-cond (test s) s (filter test steps) h.0 (filter-steps test steps h.1)

latest-intensity : (steps : List Step) → AreSteps steps → latest_or 0 (map (λ (s : Step). s.0.intensity) steps) < 65536
latest-intensity [] h = omega arith
latest-intensity (s ∷ steps) h = h.0.intensity

latest-height : (steps : List Step) → AreSteps steps → FitsSigned w32 (latest_or (pos 0) (map (λ (s : Step). s.0.z) steps))
latest-height [] h = fit-zero
latest-height (s ∷ steps) h = h.0.z

predictions-fit : (points : List Point) (flags : ℕ) → All IsPoint points → ArePredictions (predictions_of points flags)
predictions-fit points flags h =
    let all = points-steps points h in
    let m = return_map flags in
    record {
      previous = latest-fits points h;
      intensity = latest-intensity (steps_at return_map m points) (filter-steps (λ (s : Step). eqb (return_map s.0.flags) m) (steps points) all);
      dx = fit-middle _ (fit-differences (λ (s : Step). int_wrapping_sub w32 s.0.x s.1.x) (steps_at return_map m points) (λ s. fits-sub s.0.x s.1.x));
      dy = fit-middle _ (fit-differences (λ (s : Step). int_wrapping_sub w32 s.0.y s.1.y) (steps_at return_map m points) (λ s. fits-sub s.0.y s.1.y));
      z = latest-height (steps_at return_level (return_level flags) points) (filter-steps (λ (s : Step). eqb (return_level s.0.flags) (return_level flags)) (steps points) all);
    }

pub points-spelled : PointsAreSpelled
points-spelled points point all is = written-point (predictions_of points point.flags) point (predictions-fit points point.flags all) is
