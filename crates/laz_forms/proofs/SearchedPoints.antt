-- Spellings of points, times, colours and extra bytes can be searched.
use Rattle.std.proofs.Common.{◌≡◌, ℕ, ℤ, ◌<◌, List, [], ◌∷◌, ◌++◌, refl, sym, ◌∙◌, ap}
use Rattle.std.specs.Int.{w32, int_wrapping_add}
use Rattle.laz_integer.specs.Bytes.{byte_plus, has_bit}
use Rattle.laz_integer.specs.Events.{Event, Symbol}
use Rattle.laz_integer.specs.Fields.{SpellsByte, SpellsWord}
use Rattle.laz_integer.specs.Uses.{own_name}
use Rattle.laz_integer.proofs.Public.{same_pair}
use Rattle.laz_point10.specs.declared.point.Point.{Point}
use Rattle.laz_point10.specs.Points.{direction_bit, latest_point, one_return, predictions_of}
use Rattle.laz_point10.specs.PointEvents.{SpellsPoint, changes_kind, classification_kind, flags_kind, intensity_context, intensity_kind, point_source_kind, scan_angle_kind, user_data_kind, x_kind, y_context, y_kind, z_context, z_kind}
use Rattle.laz_forms.proofs.Searching.{IsSearched, searched_below, searched_made, searched_pairs}
use Rattle.laz_forms.proofs.SearchedFields.{IsInteger, searched_byte, searched_integer, searched_word}

abbrev Marked : Type 0
Marked = List Event × ℕ

abbrev Whole : Type 0
Whole = List Event × (ℤ × ℕ)

-- ---- points

module _ (points : List Point) where
  abbrev previous : Point
  previous = latest_point points

  -- the parts of a point in the order in which they are read: the changes with the flags, the other fields, and the
  -- coordinates
  abbrev First : Type 0
  First = ℕ × Marked

  abbrev Fields : Type 0
  Fields = Marked × (Marked × (Marked × (Marked × Marked)))

  abbrev Places : Type 0
  Places = Whole × (Whole × Whole)

  abbrev IsFirstPart : First → Type 0
  IsFirstPart a = (a.0 < 64) × SpellsByte (has_bit 32 a.0) flags_kind previous.flags previous.flags a.1.0 a.1.1

  abbrev AreFields : First → Fields → Type 0
  AreFields a f =
      SpellsWord (has_bit 16 a.0) intensity_kind (intensity_context a.1.1) (predictions_of points a.1.1).intensity f.0.0 f.0.1
      × (SpellsByte (has_bit 8 a.0) classification_kind previous.classification previous.classification f.1.0.0 f.1.0.1
      × (SpellsByte (has_bit 4 a.0) scan_angle_kind (direction_bit a.1.1) 0 f.1.1.0.0 f.1.1.0.1
      × (SpellsByte (has_bit 2 a.0) user_data_kind previous.user_data previous.user_data f.1.1.1.0.0 f.1.1.1.0.1
      × SpellsWord (has_bit 1 a.0) point_source_kind 0 previous.point_source f.1.1.1.1.0 f.1.1.1.1.1)))

  abbrev ArePlaces : (flags : ℕ) → Places → Type 0
  ArePlaces flags p =
      IsInteger x_kind 32 (one_return flags) (predictions_of points flags).dx p.0
      × (IsInteger y_kind 32 (y_context flags p.0.1.1) (predictions_of points flags).dy p.1.0
      × IsInteger z_kind 32 (z_context flags p.0.1.1 p.1.0.1.1) (predictions_of points flags).z p.1.1)

  searched_first : IsSearched IsFirstPart
  searched_first =
      searched_pairs (λ (c : ℕ). c < 64) (λ (c : ℕ) (m : Marked). SpellsByte (has_bit 32 c) flags_kind previous.flags previous.flags m.0 m.1)
      (searched_below 64) (λ c lt. searched_byte (has_bit 32 c) flags_kind previous.flags previous.flags)

  searched_fields : (a : First) → IsSearched (AreFields a)
  searched_fields a =
      let flags = a.1.1 in
      let e = predictions_of points flags in
      let One : Marked → Type 0 = λ m. SpellsWord (has_bit 16 a.0) intensity_kind (intensity_context flags) e.intensity m.0 m.1 in
      let Two : Marked → Type 0 = λ m. SpellsByte (has_bit 8 a.0) classification_kind previous.classification previous.classification m.0 m.1 in
      let Three : Marked → Type 0 = λ m. SpellsByte (has_bit 4 a.0) scan_angle_kind (direction_bit flags) 0 m.0 m.1 in
      let Four : Marked → Type 0 = λ m. SpellsByte (has_bit 2 a.0) user_data_kind previous.user_data previous.user_data m.0 m.1 in
      let Five : Marked → Type 0 = λ m. SpellsWord (has_bit 1 a.0) point_source_kind 0 previous.point_source m.0 m.1 in
      searched_pairs One (λ m rest. Two rest.0 × (Three rest.1.0 × (Four rest.1.1.0 × Five rest.1.1.1)))
      (searched_word (has_bit 16 a.0) intensity_kind (intensity_context flags) e.intensity)
      (λ m one. searched_pairs Two (λ m rest. Three rest.0 × (Four rest.1.0 × Five rest.1.1))
      (searched_byte (has_bit 8 a.0) classification_kind previous.classification previous.classification)
      (λ m two. searched_pairs Three (λ m rest. Four rest.0 × Five rest.1)
      (searched_byte (has_bit 4 a.0) scan_angle_kind (direction_bit flags) 0)
      (λ m three. searched_pairs Four (λ m. Five)
      (searched_byte (has_bit 2 a.0) user_data_kind previous.user_data previous.user_data)
      (λ m four. searched_word (has_bit 1 a.0) point_source_kind 0 previous.point_source))))

  searched_places : (flags : ℕ) → IsSearched (ArePlaces flags)
  searched_places flags =
      let e = predictions_of points flags in
      searched_pairs (IsInteger x_kind 32 (one_return flags) e.dx)
      (λ x rest. IsInteger y_kind 32 (y_context flags x.1.1) e.dy rest.0 × IsInteger z_kind 32 (z_context flags x.1.1 rest.0.1.1) e.z rest.1)
      (searched_integer x_kind 32 (one_return flags) e.dx)
      (λ x is. searched_pairs (IsInteger y_kind 32 (y_context flags x.1.1) e.dy) (λ y. IsInteger z_kind 32 (z_context flags x.1.1 y.1.1) e.z)
      (searched_integer y_kind 32 (y_context flags x.1.1) e.dy)
      (λ y also. searched_integer z_kind 32 (z_context flags x.1.1 y.1.1) e.z))

  abbrev Parts : Type 0
  Parts = First × (Fields × Places)

  abbrev AreParts : Parts → Type 0
  AreParts x = IsFirstPart x.0 × (AreFields x.0 x.1.0 × ArePlaces x.0.1.1 x.1.1)

  -- the events of parts, and the point that they make
  abbrev events_in : Parts → List Event
  events_in x = ((Symbol (own_name changes_kind 0) 64 x.0.0 ∷ []) ++ x.0.1.0)
      ++ ((x.1.0.0.0 ++ x.1.0.1.0.0) ++ ((x.1.0.1.1.0.0 ++ (x.1.0.1.1.1.0.0 ++ x.1.0.1.1.1.1.0)) ++ (x.1.1.0.0 ++ (x.1.1.1.0.0 ++ x.1.1.1.1.0))))

  abbrev point_in : Parts → Point
  point_in x = record {
    x = int_wrapping_add w32 previous.x x.1.1.0.1.0;
    y = int_wrapping_add w32 previous.y x.1.1.1.0.1.0;
    z = x.1.1.1.1.1.0;
    intensity = x.1.0.0.1;
    flags = x.0.1.1;
    classification = x.1.0.1.0.1;
    scan_angle = byte_plus previous.scan_angle x.1.0.1.1.0.1;
    user_data = x.1.0.1.1.1.0.1;
    point_source = x.1.0.1.1.1.1.1;
  }

  sound : (x : Parts) → AreParts x → SpellsPoint points (events_in x) (point_in x)
  sound x is = record {
    changes = x.0.0;
    flags_part = x.0.1.0;
    intensity_part = x.1.0.0.0;
    classification_part = x.1.0.1.0.0;
    angle_part = x.1.0.1.1.0.0;
    user_part = x.1.0.1.1.1.0.0;
    source_part = x.1.0.1.1.1.1.0;
    x_part = x.1.1.0.0;
    y_part = x.1.1.1.0.0;
    z_part = x.1.1.1.1.0;
    turned = x.1.0.1.1.0.1;
    dx = x.1.1.0.1.0;
    dy = x.1.1.1.0.1.0;
    kx = x.1.1.0.1.1;
    ky = x.1.1.1.0.1.1;
    kz = x.1.1.1.1.1.1;
    are = refl;
    few = is.0.0;
    flags = is.0.1;
    intensity = is.1.0.0;
    classification = is.1.0.1.0;
    angle = is.1.0.1.1.0;
    angle_is = refl;
    user = is.1.0.1.1.1.0;
    source = is.1.0.1.1.1.1;
    x = is.1.1.0;
    x_is = refl;
    y = is.1.1.1.0;
    y_is = refl;
    z = is.1.1.1.1;
  }

  abbrev parts_of : (events : List Event) (p : Point) → SpellsPoint points events p → Parts
  parts_of events p s = (
    (s.changes, (s.flags_part, p.flags)),
    (
      ((s.intensity_part, p.intensity), ((s.classification_part, p.classification), ((s.angle_part, s.turned), ((s.user_part, p.user_data), (s.source_part, p.point_source))))),
      ((s.x_part, (s.dx, s.kx)), ((s.y_part, (s.dy, s.ky)), (s.z_part, (p.z, s.kz)))),
    ),
  )

  same_point : (p : Point) (x y : ℤ) (angle : ℕ) → x ≡ p.x → y ≡ p.y → angle ≡ p.scan_angle → ◌≡◌ {A = Point} (record p { x = x; y = y; scan_angle = angle }) p
  same_point p x y angle e f g =
      ap (λ (v : ℤ). let q : Point = record p { x = v; y = y; scan_angle = angle } in q) e
      ∙ ap (λ (v : ℤ). let q : Point = record p { y = v; scan_angle = angle } in q) f
      ∙ ap (λ (v : ℕ). let q : Point = record p { scan_angle = v } in q) g

  covers : (x : List Event × Point) → SpellsPoint points x.0 x.1 → (c : Parts) × AreParts c × (◌≡◌ {A = List Event × Point} (events_in c, point_in c) x)
  covers x s =
      let c = parts_of x.0 x.1 s in (
        c,
        ((s.few, s.flags), ((s.intensity, (s.classification, (s.angle, (s.user, s.source)))), (s.x, (s.y, s.z)))),
        same_pair (events_in c) x.0 (point_in c) x.1 (sym s.are)
            (same_point x.1 (int_wrapping_add w32 previous.x s.dx) (int_wrapping_add w32 previous.y s.dy) (byte_plus previous.scan_angle s.turned) (sym s.x_is) (sym s.y_is) (sym s.angle_is)),
      )

  pub searched_point : IsSearched (λ (x : List Event × Point). SpellsPoint points x.0 x.1)
  searched_point =
      searched_made AreParts (λ c. (events_in c, point_in c)) (λ (x : List Event × Point). SpellsPoint points x.0 x.1)
      (searched_pairs IsFirstPart (λ a rest. AreFields a rest.0 × ArePlaces a.1.1 rest.1) searched_first
      (λ a is. searched_pairs (AreFields a) (λ f. ArePlaces a.1.1) (searched_fields a) (λ f are. searched_places a.1.1)))
      sound covers
