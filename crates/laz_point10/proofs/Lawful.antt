-- A spelling of a point is of lawful events, few, and none of another use; events of other uses leave what the models
-- stand for.
use Rattle.std.proofs.Common.{◌≡◌, ℕ, ◌≤◌, Bool, true, false, List, [], ◌∷◌, ◌++◌, length, length-append, refl, sym, subst, arith, lit≤}
use Rattle.laz_integer.specs.Events.{Event, Name, Symbol, same_text}
use Rattle.laz_integer.specs.Uses.{Silent, absent, own_name}
use Rattle.laz_integer.specs.Ranged.{AreRanged}
use Rattle.laz_integer.specs.Fields.{SpellsByte, SpellsWord, byte_events}
use Rattle.laz_integer.proofs.Public.{byte-few, int-few, word-few, AreRanged-append, byte-ranged, int-ranged, word-ranged, Silent-append, Silent-int, Silent-none, Silent-other, bank-silent, first-other, int-silent}
use Rattle.laz_point10.specs.declared.point.Point.{Point}
use Rattle.laz_point10.specs.PointEvents.{SpellsPoint, changes_kind, classification_kind, flags_kind, intensity_kind, point_source_kind, scan_angle_kind, user_data_kind, x_kind, y_kind, z_kind}
use Rattle.laz_point10.specs.Items.{HasPointSizes}
use Rattle.laz_point10.specs.Laws.{OthersLeavePoints, PointsAreLawful, point_kinds}

-- a law of lists of events that holds of each part of a point holds of the whole
module _ (P : List Event → Type 0) (joins : (xs ys : List Event) → P xs → P ys → P (xs ++ ys)) where
  pub all-parts : (a b c d e f g h i j : List Event) → P a → P b → P c → P d → P e → P f → P g → P h → P i → P j → P ((a ++ b) ++ ((c ++ d) ++ ((e ++ (f ++ g)) ++ (h ++ (i ++ j)))))
  all-parts a b c d e f g h i j pa pb pc pd pe pf pg ph pi pj =
      joins (a ++ b) ((c ++ d) ++ ((e ++ (f ++ g)) ++ (h ++ (i ++ j)))) (joins a b pa pb)
      (joins (c ++ d) ((e ++ (f ++ g)) ++ (h ++ (i ++ j))) (joins c d pc pd)
      (joins (e ++ (f ++ g)) (h ++ (i ++ j)) (joins e (f ++ g) pe (joins f g pf pg)) (joins h (i ++ j) ph (joins i j pi pj))))

pub point-ranged : (sizes : Name → ℕ) (points : List Point) (events : List Event) (point : Point) → HasPointSizes sizes → SpellsPoint points events point → AreRanged sizes events
point-ranged sizes points events point has s =
    subst (λ (es : List Event). AreRanged sizes es) (sym s.are)
    (all-parts (λ l. AreRanged sizes l) (AreRanged-append sizes) (Symbol (own_name changes_kind 0) 64 s.changes ∷ []) s.flags_part s.intensity_part s.classification_part s.angle_part s.user_part s.source_part s.x_part s.y_part s.z_part
    ((sym has.changes, lit≤ tt, lit≤ tt, s.few), tt)
    (byte-ranged sizes _ flags_kind _ _ _ s.flags_part (has.flags _) s.flags)
    (word-ranged sizes _ intensity_kind _ _ _ s.intensity_part has.intensity s.intensity)
    (byte-ranged sizes _ classification_kind _ _ _ s.classification_part (has.classification _) s.classification)
    (byte-ranged sizes _ scan_angle_kind _ _ _ s.angle_part (has.scan_angle _) s.angle)
    (byte-ranged sizes _ user_data_kind _ _ _ s.user_part (has.user_data _) s.user)
    (word-ranged sizes _ point_source_kind _ _ _ s.source_part has.point_source s.source)
    (int-ranged sizes x_kind 32 _ _ _ s.kx s.x_part has.dx (lit≤ tt) (lit≤ tt) s.x)
    (int-ranged sizes y_kind 32 _ _ _ s.ky s.y_part has.dy (lit≤ tt) (lit≤ tt) s.y)
    (int-ranged sizes z_kind 32 _ _ _ s.kz s.z_part has.z (lit≤ tt) (lit≤ tt) s.z))

ten-few : (a b c d e f g h i j : List Event) → length a ≤ 1 → length b ≤ 1 → length c ≤ 3 → length d ≤ 1 → length e ≤ 1 → length f ≤ 1 → length g ≤ 3 → length h ≤ 4 → length i ≤ 4 → length j ≤ 4
    → length ((a ++ b) ++ ((c ++ d) ++ ((e ++ (f ++ g)) ++ (h ++ (i ++ j))))) ≤ 23
ten-few a b c d e f g h i j pa pb pc pd pe pf pg ph pi pj =
    omega (
      arith,
      pa,
      pb,
      pc,
      pd,
      pe,
      pf,
      pg,
      ph,
      pi,
      pj,
      length-append a b,
      length-append c d,
      length-append f g,
      length-append e (f ++ g),
      length-append i j,
      length-append h (i ++ j),
      length-append (e ++ (f ++ g)) (h ++ (i ++ j)),
      length-append (c ++ d) ((e ++ (f ++ g)) ++ (h ++ (i ++ j))),
      length-append (a ++ b) ((c ++ d) ++ ((e ++ (f ++ g)) ++ (h ++ (i ++ j)))),
    )

point-few : (points : List Point) (events : List Event) (point : Point) → SpellsPoint points events point → length events ≤ 23
point-few points events point s =
    subst (λ (es : List Event). length es ≤ 23) (sym s.are)
    (ten-few (Symbol (own_name changes_kind 0) 64 s.changes ∷ []) s.flags_part s.intensity_part s.classification_part s.angle_part s.user_part s.source_part s.x_part s.y_part s.z_part (lit≤ tt)
    (byte-few _ flags_kind _ _ _ s.flags_part s.flags)
    (word-few _ intensity_kind _ _ _ s.intensity_part s.intensity)
    (byte-few _ classification_kind _ _ _ s.classification_part s.classification)
    (byte-few _ scan_angle_kind _ _ _ s.angle_part s.angle)
    (byte-few _ user_data_kind _ _ _ s.user_part s.user)
    (word-few _ point_source_kind _ _ _ s.source_part s.source)
    (int-few x_kind 32 _ _ _ s.x_part s.kx (lit≤ tt) s.x)
    (int-few y_kind 32 _ _ _ s.y_part s.ky (lit≤ tt) s.y)
    (int-few z_kind 32 _ _ _ s.z_part s.kz (lit≤ tt) s.z))

-- ---- events of other uses
byte-silent : (other kind : List ℕ) (marked : Bool) (m expected s : ℕ) (events : List Event) → same_text other kind ≡ false → SpellsByte marked kind m expected events s → Silent other events
byte-silent other kind true m expected s events e h = subst (λ (es : List Event). Silent other es) (sym h.1) (Silent-other other kind (byte_events kind m s) e (refl, tt))
byte-silent other kind false m expected s events e h = subst (λ (es : List Event). Silent other es) (sym h.0) (Silent-none other)

word-silent : (other kind : List ℕ) (marked : Bool) (ctx pred value : ℕ) (events : List Event) → same_text other kind ≡ false → SpellsWord marked kind ctx pred events value → Silent other events
word-silent other kind true ctx pred value events e h = Silent-int other kind 16 ctx _ _ events h.0 e (lit≤ tt) h.1
word-silent other kind false ctx pred value events e h = subst (λ (es : List Event). Silent other es) (sym h.0) (Silent-none other)

point-silent : (other : List ℕ) (points : List Point) (events : List Event) (point : Point) → absent other point_kinds ≡ true → SpellsPoint points events point → Silent other events
point-silent other points events point e s =
    let e1 = first-other other changes_kind (flags_kind ∷ intensity_kind ∷ classification_kind ∷ scan_angle_kind ∷ user_data_kind ∷ point_source_kind ∷ x_kind ∷ y_kind ∷ z_kind ∷ []) e in
    let e2 = first-other other flags_kind (intensity_kind ∷ classification_kind ∷ scan_angle_kind ∷ user_data_kind ∷ point_source_kind ∷ x_kind ∷ y_kind ∷ z_kind ∷ []) e1.1 in
    let e3 = first-other other intensity_kind (classification_kind ∷ scan_angle_kind ∷ user_data_kind ∷ point_source_kind ∷ x_kind ∷ y_kind ∷ z_kind ∷ []) e2.1 in
    let e4 = first-other other classification_kind (scan_angle_kind ∷ user_data_kind ∷ point_source_kind ∷ x_kind ∷ y_kind ∷ z_kind ∷ []) e3.1 in
    let e5 = first-other other scan_angle_kind (user_data_kind ∷ point_source_kind ∷ x_kind ∷ y_kind ∷ z_kind ∷ []) e4.1 in
    let e6 = first-other other user_data_kind (point_source_kind ∷ x_kind ∷ y_kind ∷ z_kind ∷ []) e5.1 in
    let e7 = first-other other point_source_kind (x_kind ∷ y_kind ∷ z_kind ∷ []) e6.1 in
    let e8 = first-other other x_kind (y_kind ∷ z_kind ∷ []) e7.1 in
    let e9 = first-other other y_kind (z_kind ∷ []) e8.1 in
    let e10 = first-other other z_kind ([]) e9.1 in
    subst (λ (es : List Event). Silent other es) (sym s.are)
    (all-parts (λ l. Silent other l) (Silent-append other) (Symbol (own_name changes_kind 0) 64 s.changes ∷ []) s.flags_part s.intensity_part s.classification_part s.angle_part s.user_part s.source_part s.x_part s.y_part s.z_part
    (Silent-other other changes_kind (Symbol (own_name changes_kind 0) 64 s.changes ∷ []) e1.0 (refl, tt))
    (byte-silent other flags_kind _ _ _ _ s.flags_part e2.0 s.flags)
    (word-silent other intensity_kind _ _ _ _ s.intensity_part e3.0 s.intensity)
    (byte-silent other classification_kind _ _ _ _ s.classification_part e4.0 s.classification)
    (byte-silent other scan_angle_kind _ _ _ _ s.angle_part e5.0 s.angle)
    (byte-silent other user_data_kind _ _ _ _ s.user_part e6.0 s.user)
    (word-silent other point_source_kind _ _ _ _ s.source_part e7.0 s.source)
    (Silent-int other x_kind 32 _ _ _ s.x_part s.kx e8.0 (lit≤ tt) s.x)
    (Silent-int other y_kind 32 _ _ _ s.y_part s.ky e9.0 (lit≤ tt) s.y)
    (Silent-int other z_kind 32 _ _ _ s.z_part s.kz e10.0 (lit≤ tt) s.z))

pub points-lawful : PointsAreLawful
points-lawful = record { ranged = point-ranged; few = point-few; silent = point-silent }

pub others-leave_points : OthersLeavePoints
others-leave_points earlier others points st silent h =
    let ms = st.models in
    let before = h.models in
    record {
      models = (
        (bank-silent changes_kind ms.head.changes earlier others silent.0 before.0.0, bank-silent flags_kind ms.head.flags earlier others silent.1.0 before.0.1),
        (
          (int-silent intensity_kind ms.surface.intensity earlier others silent.1.1.0 before.1.0.0, bank-silent classification_kind ms.surface.classifications earlier others silent.1.1.1.0 before.1.0.1),
          (
            (bank-silent scan_angle_kind ms.scan.angles earlier others silent.1.1.1.1.0 before.1.1.0.0, (bank-silent user_data_kind ms.scan.users earlier others silent.1.1.1.1.1.0 before.1.1.0.1.0, int-silent point_source_kind ms.scan.source earlier others silent.1.1.1.1.1.1.0 before.1.1.0.1.1)),
            (int-silent x_kind ms.place.dx earlier others silent.1.1.1.1.1.1.1.0 before.1.1.1.0, (int-silent y_kind ms.place.dy earlier others silent.1.1.1.1.1.1.1.1.0 before.1.1.1.1.0, int-silent z_kind ms.place.z earlier others silent.1.1.1.1.1.1.1.1.1.0 before.1.1.1.1.1)),
          ),
        ),
      );
      history = h.history;
    }
