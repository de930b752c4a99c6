-- Spellings of a point part at one event.
use Rattle.std.proofs.Common.{◌≡◌, ℕ, ℤ, List, [], ◌∷◌, ◌++◌, sym, ap, subst, ◌∙◌, lit≤}
use Rattle.std.specs.Int.{w32, int_wrapping_add}
use Rattle.laz_integer.specs.Bytes.{byte_plus, has_bit}
use Rattle.laz_integer.specs.Events.{Event, Symbol}
use Rattle.laz_integer.specs.Fields.{SpellsByte, SpellsWord}
use Rattle.laz_integer.specs.Integer.{IntSpell}
use Rattle.laz_integer.specs.Uses.{own_name}
use Rattle.laz_integer.proofs.Public.{One, as-one, byte-one, int-one, made-one, symbol-one, then, word-one, same_pair}
use Rattle.laz_point10.specs.declared.point.Point.{Point}
use Rattle.laz_point10.specs.PointEvents.{SpellsPoint, changes_kind, classification_kind, flags_kind, intensity_context, intensity_kind, point_source_kind, scan_angle_kind, user_data_kind, x_kind, y_context, y_kind, z_context, z_kind}
use Rattle.laz_point10.specs.Points.{direction_bit, latest_point, one_return, predictions_of}

-- what the first group spells: the changes, and the flag byte
abbrev Marks : Type 0
Marks = ℕ × ℕ

group-one : (points : List Point) (xs ys : List Event) (p q : Point) (s : SpellsPoint points xs p) (t : SpellsPoint points ys q)
    → One {V = Marks} ((Symbol (own_name changes_kind 0) 64 s.changes ∷ []) ++ s.flags_part) ((Symbol (own_name changes_kind 0) 64 t.changes ∷ []) ++ t.flags_part) (s.changes, p.flags) (t.changes, q.flags)
group-one points xs ys p q s t =
    let last : Point = latest_point points in
    let name = own_name changes_kind 0 in
    then {W = Marks} (Symbol name 64 s.changes ∷ []) (Symbol name 64 t.changes ∷ []) s.flags_part t.flags_part s.changes t.changes (s.changes, p.flags) (t.changes, q.flags) (symbol-one name 64 s.changes t.changes)
    (λ (e : s.changes ≡ t.changes).
    made-one {W = Marks} s.flags_part t.flags_part p.flags q.flags (s.changes, p.flags) (t.changes, q.flags) (λ f. same_pair s.changes t.changes p.flags q.flags e f)
    (byte-one (has_bit 32 s.changes) flags_kind last.flags last.flags s.flags_part t.flags_part p.flags q.flags s.flags
    (subst (λ (c : ℕ). SpellsByte (has_bit 32 c) flags_kind last.flags last.flags t.flags_part q.flags) (sym e) t.flags)))

surface-one : (points : List Point) (xs ys : List Event) (p q : Point) (s : SpellsPoint points xs p) (t : SpellsPoint points ys q) → ◌≡◌ {A = Marks} (s.changes, p.flags) (t.changes, q.flags)
    → One {V = ℕ × ℕ} (s.intensity_part ++ s.classification_part) (t.intensity_part ++ t.classification_part) (p.intensity, p.classification) (q.intensity, q.classification)
surface-one points xs ys p q s t e =
    let last : Point = latest_point points in
    then {W = ℕ × ℕ} s.intensity_part t.intensity_part s.classification_part t.classification_part p.intensity q.intensity (p.intensity, p.classification) (q.intensity, q.classification)
    (word-one (has_bit 16 s.changes) intensity_kind (intensity_context p.flags) (predictions_of points p.flags).intensity s.intensity_part t.intensity_part p.intensity q.intensity s.intensity
    (subst (λ (m : Marks). SpellsWord (has_bit 16 m.0) intensity_kind (intensity_context m.1) (predictions_of points m.1).intensity t.intensity_part q.intensity) (sym e) t.intensity))
    (λ (f : p.intensity ≡ q.intensity).
    made-one {W = ℕ × ℕ} s.classification_part t.classification_part p.classification q.classification (p.intensity, p.classification) (q.intensity, q.classification) (λ g. same_pair p.intensity q.intensity p.classification q.classification f g)
    (byte-one (has_bit 8 s.changes) classification_kind last.classification last.classification s.classification_part t.classification_part p.classification q.classification s.classification
    (subst (λ (m : Marks). SpellsByte (has_bit 8 m.0) classification_kind last.classification last.classification t.classification_part q.classification) (sym e) t.classification)))

abbrev Scan : Type 0
Scan = ℕ × (ℕ × ℕ)

scan-one : (points : List Point) (xs ys : List Event) (p q : Point) (s : SpellsPoint points xs p) (t : SpellsPoint points ys q) → ◌≡◌ {A = Marks} (s.changes, p.flags) (t.changes, q.flags)
    → One {V = Scan} (s.angle_part ++ (s.user_part ++ s.source_part)) (t.angle_part ++ (t.user_part ++ t.source_part)) (p.scan_angle, (p.user_data, p.point_source)) (q.scan_angle, (q.user_data, q.point_source))
scan-one points xs ys p q s t e =
    let last : Point = latest_point points in
    let one : Scan = (p.scan_angle, (p.user_data, p.point_source)) in
    let other : Scan = (q.scan_angle, (q.user_data, q.point_source)) in
    then {W = Scan} s.angle_part t.angle_part (s.user_part ++ s.source_part) (t.user_part ++ t.source_part) s.turned t.turned one other
    (byte-one (has_bit 4 s.changes) scan_angle_kind (direction_bit p.flags) 0 s.angle_part t.angle_part s.turned t.turned s.angle
    (subst (λ (m : Marks). SpellsByte (has_bit 4 m.0) scan_angle_kind (direction_bit m.1) 0 t.angle_part t.turned) (sym e) t.angle))
    (λ (f : s.turned ≡ t.turned).
    then {W = Scan} s.user_part t.user_part s.source_part t.source_part p.user_data q.user_data one other
    (byte-one (has_bit 2 s.changes) user_data_kind last.user_data last.user_data s.user_part t.user_part p.user_data q.user_data s.user
    (subst (λ (m : Marks). SpellsByte (has_bit 2 m.0) user_data_kind last.user_data last.user_data t.user_part q.user_data) (sym e) t.user))
    (λ (g : p.user_data ≡ q.user_data).
    made-one {W = Scan} s.source_part t.source_part p.point_source q.point_source one other
    (λ h. same_pair p.scan_angle q.scan_angle (p.user_data, p.point_source) (q.user_data, q.point_source) (s.angle_is ∙ (ap (λ n. byte_plus last.scan_angle n) f ∙ sym t.angle_is)) (same_pair p.user_data q.user_data p.point_source q.point_source g h))
    (word-one (has_bit 1 s.changes) point_source_kind 0 last.point_source s.source_part t.source_part p.point_source q.point_source s.source
    (subst (λ (m : Marks). SpellsWord (has_bit 1 m.0) point_source_kind 0 last.point_source t.source_part q.point_source) (sym e) t.source))))

abbrev Place : Type 0
Place = ℤ × (ℤ × ℤ)

abbrev Step : Type 0
Step = ℤ × ℕ

place-one : (points : List Point) (xs ys : List Event) (p q : Point) (s : SpellsPoint points xs p) (t : SpellsPoint points ys q) → p.flags ≡ q.flags
    → One {V = Place} (s.x_part ++ (s.y_part ++ s.z_part)) (t.x_part ++ (t.y_part ++ t.z_part)) (p.x, (p.y, p.z)) (q.x, (q.y, q.z))
place-one points xs ys p q s t e =
    let last : Point = latest_point points in
    let one : Place = (p.x, (p.y, p.z)) in
    let other : Place = (q.x, (q.y, q.z)) in
    then {V = Step} {W = Place} s.x_part t.x_part (s.y_part ++ s.z_part) (t.y_part ++ t.z_part) (s.dx, s.kx) (t.dx, t.kx) one other
    (int-one x_kind 32 (one_return p.flags) (predictions_of points p.flags).dx s.x_part t.x_part s.dx t.dx s.kx t.kx (lit≤ tt) s.x
    (subst (λ (m : ℕ). IntSpell x_kind 32 (one_return m) (predictions_of points m).dx t.x_part t.dx t.kx) (sym e) t.x))
    (λ (f : ◌≡◌ {A = Step} (s.dx, s.kx) (t.dx, t.kx)).
    let kx : t.kx ≡ s.kx = ap (λ (d : Step). d.1) (sym f) in
    then {V = Step} {W = Place} s.y_part t.y_part s.z_part t.z_part (s.dy, s.ky) (t.dy, t.ky) one other
    (int-one y_kind 32 (y_context p.flags s.kx) (predictions_of points p.flags).dy s.y_part t.y_part s.dy t.dy s.ky t.ky (lit≤ tt) s.y
    (subst (λ (k : ℕ). IntSpell y_kind 32 (y_context p.flags k) (predictions_of points p.flags).dy t.y_part t.dy t.ky) kx
    (subst (λ (m : ℕ). IntSpell y_kind 32 (y_context m t.kx) (predictions_of points m).dy t.y_part t.dy t.ky) (sym e) t.y)))
    (λ (g : ◌≡◌ {A = Step} (s.dy, s.ky) (t.dy, t.ky)).
    let ky : t.ky ≡ s.ky = ap (λ (d : Step). d.1) (sym g) in
    made-one {V = Step} {W = Place} s.z_part t.z_part (p.z, s.kz) (q.z, t.kz) one other
    (λ h.
    same_pair p.x q.x (p.y, p.z) (q.y, q.z) (s.x_is ∙ (ap (λ (d : Step). int_wrapping_add w32 last.x d.0) f ∙ sym t.x_is))
    (same_pair p.y q.y p.z q.z (s.y_is ∙ (ap (λ (d : Step). int_wrapping_add w32 last.y d.0) g ∙ sym t.y_is)) (ap (λ (d : Step). d.0) h)))
    (int-one z_kind 32 (z_context p.flags s.kx s.ky) (predictions_of points p.flags).z s.z_part t.z_part p.z q.z s.kz t.kz (lit≤ tt) s.z
    (subst (λ (k : ℕ). IntSpell z_kind 32 (z_context p.flags s.kx k) (predictions_of points p.flags).z t.z_part q.z t.kz) ky
    (subst (λ (k : ℕ). IntSpell z_kind 32 (z_context p.flags k t.ky) (predictions_of points p.flags).z t.z_part q.z t.kz) kx
    (subst (λ (m : ℕ). IntSpell z_kind 32 (z_context m t.kx t.ky) (predictions_of points m).z t.z_part q.z t.kz) (sym e) t.z))))))

same_point : (x y z x' y' z' : ℤ) (i f c a u n i' f' c' a' u' n' : ℕ) → x ≡ x' → y ≡ y' → z ≡ z' → i ≡ i' → f ≡ f' → c ≡ c' → a ≡ a' → u ≡ u' → n ≡ n'
    → (let p : Point = record { x = x; y = y; z = z; intensity = i; flags = f; classification = c; scan_angle = a; user_data = u; point_source = n } in p)
    ≡ record { x = x'; y = y'; z = z'; intensity = i'; flags = f'; classification = c'; scan_angle = a'; user_data = u'; point_source = n' }
same_point x y z x' y' z' i f c a u n i' f' c' a' u' n' e1 e2 e3 e4 e5 e6 e7 e8 e9 = cc

point-is : (p q : Point) → p.flags ≡ q.flags → ◌≡◌ {A = ℕ × ℕ} (p.intensity, p.classification) (q.intensity, q.classification)
    → ◌≡◌ {A = Scan} (p.scan_angle, (p.user_data, p.point_source)) (q.scan_angle, (q.user_data, q.point_source)) → ◌≡◌ {A = Place} (p.x, (p.y, p.z)) (q.x, (q.y, q.z)) → p ≡ q
point-is p q e f g h =
    same_point p.x p.y p.z q.x q.y q.z p.intensity p.flags p.classification p.scan_angle p.user_data p.point_source q.intensity q.flags q.classification q.scan_angle q.user_data q.point_source
    (ap (λ (d : Place). d.0) h) (ap (λ (d : Place). d.1.0) h) (ap (λ (d : Place). d.1.1) h)
    (ap (λ (d : ℕ × ℕ). d.0) f) e (ap (λ (d : ℕ × ℕ). d.1) f)
    (ap (λ (d : Scan). d.0) g) (ap (λ (d : Scan). d.1.0) g) (ap (λ (d : Scan). d.1.1) g)

pub point-one : (points : List Point) (xs ys : List Event) (p q : Point) → SpellsPoint points xs p → SpellsPoint points ys q → One xs ys p q
point-one points xs ys p q s t =
    let name = own_name changes_kind 0 in
    let s1 : List Event = (Symbol name 64 s.changes ∷ []) ++ s.flags_part in
    let t1 : List Event = (Symbol name 64 t.changes ∷ []) ++ t.flags_part in
    let s2 : List Event = s.intensity_part ++ s.classification_part in
    let t2 : List Event = t.intensity_part ++ t.classification_part in
    let s3 : List Event = s.angle_part ++ (s.user_part ++ s.source_part) in
    let t3 : List Event = t.angle_part ++ (t.user_part ++ t.source_part) in
    let s4 : List Event = s.x_part ++ (s.y_part ++ s.z_part) in
    let t4 : List Event = t.x_part ++ (t.y_part ++ t.z_part) in
    as-one (s1 ++ (s2 ++ (s3 ++ s4))) (t1 ++ (t2 ++ (t3 ++ t4))) xs ys p q s.are t.are
    (then {V = Marks} s1 t1 (s2 ++ (s3 ++ s4)) (t2 ++ (t3 ++ t4)) (s.changes, p.flags) (t.changes, q.flags) p q (group-one points xs ys p q s t)
    (λ (e : ◌≡◌ {A = Marks} (s.changes, p.flags) (t.changes, q.flags)).
    let flags : p.flags ≡ q.flags = ap (λ (m : Marks). m.1) e in
    then {V = ℕ × ℕ} s2 t2 (s3 ++ s4) (t3 ++ t4) (p.intensity, p.classification) (q.intensity, q.classification) p q (surface-one points xs ys p q s t e)
    (λ f.
    then {V = Scan} s3 t3 s4 t4 (p.scan_angle, (p.user_data, p.point_source)) (q.scan_angle, (q.user_data, q.point_source)) p q (scan-one points xs ys p q s t e)
    (λ g.
    made-one {V = Place} s4 t4 (p.x, (p.y, p.z)) (q.x, (q.y, q.z)) p q (λ h. point-is p q flags f g h) (place-one points xs ys p q s t flags)))))
