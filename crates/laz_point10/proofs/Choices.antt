-- All that is read of a point, and the events that spell it: each has the other.
use Rattle.std.proofs.Common.{◌≡◌, ℕ, pos, nat_abs, Bool, true, false, List, [], ◌∷◌, ◌++◌, refl, sym, ap, ◌∙◌}
use Rattle.std.specs.Int.{w32, int_wrapping_add}
use Rattle.laz_integer.specs.Corrector.{corrected}
use Rattle.laz_integer.specs.Events.{Event, Symbol}
use Rattle.laz_integer.specs.Uses.{own_name}
use Rattle.laz_integer.specs.Integer.{corrector_events}
use Rattle.laz_integer.specs.Fields.{IsByte, IsWord, SpellsByte, SpellsWord, byte_events, if_marked, word_value}
use Rattle.laz_integer.proofs.Public.{word-made}
use Rattle.laz_point10.specs.declared.point.Point.{Point}
use Rattle.laz_point10.specs.declared.history.History.{History}
use Rattle.laz_point10.specs.Points.{direction_bit, one_return}
use Rattle.laz_point10.specs.PointEvents.{SpellsBy, changes_kind, classification_kind, flags_kind, intensity_context, intensity_kind, point_source_kind, scan_angle_kind, user_data_kind, x_kind, y_context, y_kind, z_context, z_kind}
use Rattle.laz_integer.specs.Bytes.{has_bit}
use Rattle.laz_point10.specs.Coded.{PointChoice, IsPointChoice, choice_events, point_made, predicted}
use Rattle.laz_point10.proofs.Parts.{same-point}

-- ---- a field
byte-spelled : (marked : Bool) (kind : List ℕ) (m expected s : ℕ) → IsByte marked expected s → SpellsByte marked kind m expected (if_marked marked (byte_events kind m s)) s
byte-spelled true kind m expected s h = (h, refl)
byte-spelled false kind m expected s h = (refl, h)

byte-chosen : (marked : Bool) (kind : List ℕ) (m expected s : ℕ) (events : List Event) → SpellsByte marked kind m expected events s
    → IsByte marked expected s × (if_marked marked (byte_events kind m s) ≡ events)
byte-chosen true kind m expected s events h = (h.0, sym h.1)
byte-chosen false kind m expected s events h = (h.1, sym h.0)

word-spelled : (marked : Bool) (kind : List ℕ) (ctx pred : ℕ) (x : ℕ × ℕ) → IsWord marked x → SpellsWord marked kind ctx pred (if_marked marked (corrector_events kind 16 ctx x.0 x.1)) (word_value marked pred x)
word-spelled true kind ctx pred x h = (x.0, record { v = x.1; width = h.0; within = h.1; is = refl; makes = sym (word-made (pos pred) x.0 x.1) })
word-spelled false kind ctx pred x h = (refl, refl)

pub record WordChosen (marked : Bool) (kind : List ℕ) (ctx pred value : ℕ) (events : List Event) : Type 0 where
  pub x : ℕ × ℕ
  pub asked : IsWord marked x
  pub events_are : if_marked marked (corrector_events kind 16 ctx x.0 x.1) ≡ events
  pub makes : word_value marked pred x ≡ value

word-chosen : (marked : Bool) (kind : List ℕ) (ctx pred value : ℕ) (events : List Event) → SpellsWord marked kind ctx pred events value → WordChosen marked kind ctx pred value events
word-chosen true kind ctx pred value events h =
    let int = h.1 in
    record { x = (h.0, int.v); asked = (int.width, int.within); events_are = sym int.is; makes = ap nat_abs (sym int.makes) }
word-chosen false kind ctx pred value events h = record { x = (0, 0); asked = refl; events_are = sym h.0; makes = sym h.1 }

-- ---- a point
pub spelled : (m : History) (x : PointChoice) → IsPointChoice m x → SpellsBy (predicted m x.0.1) (choice_events m x) (point_made m x)
spelled m x h =
    let e = predicted m x.0.1 in
    let c = x.0.0 in
    record {
      changes = c;
      flags_part = if_marked (has_bit 32 c) (byte_events flags_kind m.last.flags x.0.1);
      intensity_part = if_marked (has_bit 16 c) (corrector_events intensity_kind 16 (intensity_context x.0.1) x.1.0.0.0 x.1.0.0.1);
      classification_part = if_marked (has_bit 8 c) (byte_events classification_kind m.last.classification x.1.0.1);
      angle_part = if_marked (has_bit 4 c) (byte_events scan_angle_kind (direction_bit x.0.1) x.1.1.0.0);
      user_part = if_marked (has_bit 2 c) (byte_events user_data_kind m.last.user_data x.1.1.0.1.0);
      source_part = if_marked (has_bit 1 c) (corrector_events point_source_kind 16 0 x.1.1.0.1.1.0 x.1.1.0.1.1.1);
      x_part = corrector_events x_kind 32 (one_return x.0.1) x.1.1.1.0.0 x.1.1.1.0.1;
      y_part = corrector_events y_kind 32 (y_context x.0.1 x.1.1.1.0.0) x.1.1.1.1.0.0 x.1.1.1.1.0.1;
      z_part = corrector_events z_kind 32 (z_context x.0.1 x.1.1.1.0.0 x.1.1.1.1.0.0) x.1.1.1.1.1.0 x.1.1.1.1.1.1;
      turned = x.1.1.0.0;
      dx = corrected 32 e.dx x.1.1.1.0.0 x.1.1.1.0.1;
      dy = corrected 32 e.dy x.1.1.1.1.0.0 x.1.1.1.1.0.1;
      kx = x.1.1.1.0.0;
      ky = x.1.1.1.1.0.0;
      kz = x.1.1.1.1.1.0;
      are = refl;
      few = h.0.0;
      flags = byte-spelled (has_bit 32 c) flags_kind m.last.flags m.last.flags x.0.1 h.0.1;
      intensity = word-spelled (has_bit 16 c) intensity_kind (intensity_context x.0.1) e.intensity x.1.0.0 h.1.0.0;
      classification = byte-spelled (has_bit 8 c) classification_kind m.last.classification m.last.classification x.1.0.1 h.1.0.1;
      angle = byte-spelled (has_bit 4 c) scan_angle_kind (direction_bit x.0.1) 0 x.1.1.0.0 h.1.1.0.0;
      angle_is = refl;
      user = byte-spelled (has_bit 2 c) user_data_kind m.last.user_data m.last.user_data x.1.1.0.1.0 h.1.1.0.1.0;
      source = word-spelled (has_bit 1 c) point_source_kind 0 m.last.point_source x.1.1.0.1.1 h.1.1.0.1.1;
      x = record { v = x.1.1.1.0.1; width = h.1.1.1.0.0; within = h.1.1.1.0.1; is = refl; makes = refl };
      x_is = refl;
      y = record { v = x.1.1.1.1.0.1; width = h.1.1.1.1.0.0; within = h.1.1.1.1.0.1; is = refl; makes = refl };
      y_is = refl;
      z = record { v = x.1.1.1.1.1.1; width = h.1.1.1.1.1.0; within = h.1.1.1.1.1.1; is = refl; makes = refl };
    }

pub record Chosen (m : History) (events : List Event) (p : Point) : Type 0 where
  pub x : PointChoice
  pub asked : IsPointChoice m x
  pub events_are : choice_events m x ≡ events
  pub makes : point_made m x ≡ p

nine : (s a1 a2 b1 b2 c1 c2 d1 d2 e1 e2 f1 f2 g1 g2 h1 h2 i1 i2 : List Event)
    → a1 ≡ a2 → b1 ≡ b2 → c1 ≡ c2 → d1 ≡ d2 → e1 ≡ e2 → f1 ≡ f2 → g1 ≡ g2 → h1 ≡ h2 → i1 ≡ i2
    → (s ++ a1) ++ ((b1 ++ c1) ++ ((d1 ++ (e1 ++ f1)) ++ (g1 ++ (h1 ++ i1)))) ≡ (s ++ a2) ++ ((b2 ++ c2) ++ ((d2 ++ (e2 ++ f2)) ++ (g2 ++ (h2 ++ i2))))
nine s a1 a2 b1 b2 c1 c2 d1 d2 e1 e2 f1 f2 g1 g2 h1 h2 i1 i2 a b c d e f g h i = cc

pub chosen : (m : History) (events : List Event) (p : Point) → SpellsBy (predicted m p.flags) events p → Chosen m events p
chosen m events p s =
    let e = predicted m p.flags in
    let c = s.changes in
    let flags = byte-chosen (has_bit 32 c) flags_kind m.last.flags m.last.flags p.flags s.flags_part s.flags in
    let intensity = word-chosen (has_bit 16 c) intensity_kind (intensity_context p.flags) e.intensity p.intensity s.intensity_part s.intensity in
    let classification = byte-chosen (has_bit 8 c) classification_kind m.last.classification m.last.classification p.classification s.classification_part s.classification in
    let angle = byte-chosen (has_bit 4 c) scan_angle_kind (direction_bit p.flags) 0 s.turned s.angle_part s.angle in
    let user = byte-chosen (has_bit 2 c) user_data_kind m.last.user_data m.last.user_data p.user_data s.user_part s.user in
    let source = word-chosen (has_bit 1 c) point_source_kind 0 m.last.point_source p.point_source s.source_part s.source in
    let dx = s.x in
    let dy = s.y in
    let dz = s.z in
    record {
      x = ((c, p.flags), ((intensity.x, p.classification), ((s.turned, (p.user_data, source.x)), ((s.kx, dx.v), ((s.ky, dy.v), (s.kz, dz.v))))));
      asked = ((s.few, flags.0), ((intensity.asked, classification.0), ((angle.0, (user.0, source.asked)), ((dx.width, dx.within), ((dy.width, dy.within), (dz.width, dz.within))))));
      events_are =
          nine (Symbol (own_name changes_kind 0) 64 c ∷ []) _ s.flags_part _ s.intensity_part _ s.classification_part _ s.angle_part _ s.user_part _ s.source_part _ s.x_part _ s.y_part _ s.z_part
          flags.1 intensity.events_are classification.1 angle.1 user.1 source.events_are (sym dx.is) (sym dy.is) (sym dz.is)
          ∙ sym s.are;
      makes =
          same-point _ _ _ _ _ _ _ _ _ p
          (ap (int_wrapping_add w32 m.last.x) (sym dx.makes) ∙ sym s.x_is)
          (ap (int_wrapping_add w32 m.last.y) (sym dy.makes) ∙ sym s.y_is)
          (sym dz.makes)
          intensity.makes refl refl (sym s.angle_is) refl source.makes;
    }
