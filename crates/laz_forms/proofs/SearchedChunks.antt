-- Whether the bytes of a chunk hold records is decided: by a search for the records and their spellings.
use Rattle.std.proofs.Common.{◌≡◌, ℕ, ℤ, zero, suc, ◌+◌, ◌*◌, ◌<◌, ◌≤◌, Bool, true, false, List, [], ◌∷◌, ◌++◌, length, take, drop, arith, refl, sym, ◌∙◌, ap, subst}
use Rattle.laz_range.specs.Choice.{AllAsked}
use Rattle.laz_range.specs.Span.{Begins, Fits, IsBytes, Span, number, span}
use Rattle.laz_integer.specs.Events.{Event, cuts_of}
use Rattle.laz_integer.proofs.Public.{same_pair}
use Rattle.laz_point10.specs.declared.point.Point.{Point}
use Rattle.laz_point10.specs.PointEvents.{SpellsPoint}
use Rattle.laz_gpstime.specs.Sequences as sequences
use Rattle.laz_rgb.specs.declared.colour.Colour.{Colour}
use Rattle.laz_rgb.specs.Colours.{colour_at}
use Rattle.laz_rgb.specs.Extra.{SpellsExtra}
use Rattle.laz_rgb.specs.Items.{latest_colour, latest_extra}
use Rattle.laz_chunk.specs.Chunks.{AreRecords, History, Holds, IsSpelled, Spelling, first_of, further, grown, initial_history, joined, spelled_records}
use Rattle.laz_chunk.specs.Layouts.{Layout, record_length}
use Rattle.laz_chunk.specs.Records.{ChunkPoint, Record, SpellsColourIf, SpellsRecord, SpellsTimeIf, colours_of, extras_of, points_of, times_of}
use Rattle.laz_forms.proofs.Searching.{Decided, IsSearched, decided_both, decided_if, searched_among, searched_as, searched_below, searched_made, searched_one, searched_pairs}
use Rattle.laz_forms.proofs.SearchedFields.{is_at_most, is_below, same_integer, same_list, same_number}
use Rattle.laz_forms.proofs.SearchedParts.{searched_colour, searched_extra, searched_time}
use Rattle.laz_forms.proofs.SearchedPoints.{searched_point}

-- ---- two records are equal or not

both_same : {A B : Type 0} (x y : A × B) → Decided (x.0 ≡ y.0) → Decided (x.1 ≡ y.1) → Decided (x ≡ y)
both_same {A} {B} x y first second =
    decided_if {A = (x.0 ≡ y.0) × (x.1 ≡ y.1)} {B = x ≡ y} (λ e. same_pair x.0 y.0 x.1 y.1 e.0 e.1)
    (λ e. (ap (λ (z : A × B). z.0) e, ap (λ (z : A × B). z.1) e)) (decided_both first (λ _. second))

abbrev Numbers : Type 0
Numbers = ℕ × (ℕ × (ℕ × (ℕ × (ℕ × ℕ))))

same_numbers : (x y : Numbers) → Decided (x ≡ y)
same_numbers x y =
    both_same x y (same_number x.0 y.0)
    (both_same x.1 y.1 (same_number x.1.0 y.1.0)
    (both_same x.1.1 y.1.1 (same_number x.1.1.0 y.1.1.0)
    (both_same x.1.1.1 y.1.1.1 (same_number x.1.1.1.0 y.1.1.1.0)
    (both_same x.1.1.1.1 y.1.1.1.1 (same_number x.1.1.1.1.0 y.1.1.1.1.0) (same_number x.1.1.1.1.1 y.1.1.1.1.1)))))

abbrev places_of : Point → ℤ × (ℤ × ℤ)
places_of p = (p.x, (p.y, p.z))

abbrev numbers_of : Point → Numbers
numbers_of p = (p.intensity, (p.flags, (p.classification, (p.scan_angle, (p.user_data, p.point_source)))))

abbrev point_of : (ℤ × (ℤ × ℤ)) × Numbers → Point
point_of x = record {
  x = x.0.0;
  y = x.0.1.0;
  z = x.0.1.1;
  intensity = x.1.0;
  flags = x.1.1.0;
  classification = x.1.1.1.0;
  scan_angle = x.1.1.1.1.0;
  user_data = x.1.1.1.1.1.0;
  point_source = x.1.1.1.1.1.1;
}

same_places : (x y : ℤ × (ℤ × ℤ)) → Decided (x ≡ y)
same_places x y = both_same x y (same_integer x.0 y.0) (both_same x.1 y.1 (same_integer x.1.0 y.1.0) (same_integer x.1.1 y.1.1))

same_point : (p q : Point) → Decided (p ≡ q)
same_point p q =
    let x : (ℤ × (ℤ × ℤ)) × Numbers = (places_of p, numbers_of p) in
    let y : (ℤ × (ℤ × ℤ)) × Numbers = (places_of q, numbers_of q) in
    decided_if {A = x ≡ y} {B = p ≡ q} (ap point_of) (ap (λ (r : Point). let z : (ℤ × (ℤ × ℤ)) × Numbers = (places_of r, numbers_of r) in z))
    (both_same x y (same_places x.0 y.0) (same_numbers x.1 y.1))

abbrev bytes_in : Colour → Numbers
bytes_in c = (c.red_low, (c.red_high, (c.green_low, (c.green_high, (c.blue_low, c.blue_high)))))

abbrev colour_of : Numbers → Colour
colour_of x = record { red_low = x.0; red_high = x.1.0; green_low = x.1.1.0; green_high = x.1.1.1.0; blue_low = x.1.1.1.1.0; blue_high = x.1.1.1.1.1 }

same_colour : (c d : Colour) → Decided (c ≡ d)
same_colour c d = decided_if {A = bytes_in c ≡ bytes_in d} {B = c ≡ d} (ap colour_of) (ap bytes_in) (same_numbers (bytes_in c) (bytes_in d))

abbrev Quadruple : Type 0
Quadruple = Point × (ℕ × (Colour × List ℕ))

abbrev four_of : Record → Quadruple
four_of r = (r.point, (r.time, (r.colour, r.extra)))

abbrev record_of : Quadruple → Record
record_of x = record { point = x.0; time = x.1.0; colour = x.1.1.0; extra = x.1.1.1 }

same_record : (r s : Record) → Decided (r ≡ s)
same_record r s =
    decided_if {A = four_of r ≡ four_of s} {B = r ≡ s} (ap record_of) (ap four_of)
    (both_same (four_of r) (four_of s) (same_point r.point s.point)
    (both_same (four_of r).1 (four_of s).1 (same_number r.time s.time)
    (both_same (four_of r).1.1 (four_of s).1.1 (same_colour r.colour s.colour) (same_list same_number r.extra s.extra))))

-- ---- spellings of a record

searched_time_if : (b : Bool) (points : List sequences.Point) → IsSearched (λ (x : List Event × ℕ). SpellsTimeIf b points x.0 x.1)
searched_time_if true points = searched_time points
searched_time_if false points =
    searched_as (λ (x : List Event × ℕ). x ≡ ([], 0)) (λ (x : List Event × ℕ). SpellsTimeIf false points x.0 x.1) (searched_one ([], 0))
    (λ x e. (ap (λ (y : List Event × ℕ). y.0) e, ap (λ (y : List Event × ℕ). y.1) e)) (λ x s. same_pair x.0 [] x.1 0 s.0 s.1)

searched_colour_if : (b : Bool) (colours : List Colour) → IsSearched (λ (x : List Event × Colour). SpellsColourIf b colours x.0 x.1)
searched_colour_if true colours = searched_colour (latest_colour colours)
searched_colour_if false colours =
    searched_as (λ (x : List Event × Colour). x ≡ ([], colour_at [])) (λ (x : List Event × Colour). SpellsColourIf false colours x.0 x.1) (searched_one ([], colour_at []))
    (λ x e. (ap (λ (y : List Event × Colour). y.0) e, ap (λ (y : List Event × Colour). y.1) e)) (λ x s. same_pair x.0 [] x.1 (colour_at []) s.0 s.1)

module _ (l : Layout) (points : List ChunkPoint) where
  abbrev Items : Type 0
  Items = (List Event × Point) × ((List Event × ℕ) × ((List Event × Colour) × (List Event × List ℕ)))

  abbrev AreItems : Items → Type 0
  AreItems x =
      SpellsPoint (points_of points) x.0.0 x.0.1
      × (SpellsTimeIf l.times (times_of points) x.1.0.0 x.1.0.1
      × (SpellsColourIf l.colours (colours_of points) x.1.1.0.0 x.1.1.0.1
      × SpellsExtra (latest_extra (extras_of points)) x.1.1.1.0 x.1.1.1.1))

  searched_items : IsSearched AreItems
  searched_items =
      let Two : List Event × ℕ → Type 0 = λ x. SpellsTimeIf l.times (times_of points) x.0 x.1 in
      let Three : List Event × Colour → Type 0 = λ x. SpellsColourIf l.colours (colours_of points) x.0 x.1 in
      let Four : List Event × List ℕ → Type 0 = λ x. SpellsExtra (latest_extra (extras_of points)) x.0 x.1 in
      searched_pairs (λ (x : List Event × Point). SpellsPoint (points_of points) x.0 x.1) (λ x rest. Two rest.0 × (Three rest.1.0 × Four rest.1.1)) (searched_point (points_of points))
      (λ x one. searched_pairs Two (λ x rest. Three rest.0 × Four rest.1) (searched_time_if l.times (times_of points))
      (λ x two. searched_pairs Three (λ x. Four) (searched_colour_if l.colours (colours_of points)) (λ x three. searched_extra (latest_extra (extras_of points)))))

  abbrev spelling_of : Items → Spelling
  spelling_of x = (
    x.0.0 ++ (x.1.0.0 ++ (x.1.1.0.0 ++ x.1.1.1.0)),
    record { point = x.0.1; time = x.1.0.1; colour = x.1.1.0.1; extra = x.1.1.1.1 },
  )

  pub searched_record : IsSearched (λ (x : Spelling). SpellsRecord l points x.0 x.1)
  searched_record =
      searched_made AreItems spelling_of (λ (x : Spelling). SpellsRecord l points x.0 x.1) searched_items
      (λ x is. record { point_events = x.0.0; time_events = x.1.0.0; colour_events = x.1.1.0.0; extra_events = x.1.1.1.0; are = refl; point = is.0; time = is.1.0; colour = is.1.1.0; extra = is.1.1.1 })
      (λ x s. (
        ((s.point_events, x.1.point), ((s.time_events, x.1.time), ((s.colour_events, x.1.colour), (s.extra_events, x.1.extra)))),
        (s.point, (s.time, (s.colour, s.extra))),
        same_pair (s.point_events ++ (s.time_events ++ (s.colour_events ++ s.extra_events))) x.0 x.1 x.1 (sym s.are) refl,
      ))

-- ---- spellings of records one after another

abbrev SpellAll : Layout → History → List Record → List Spelling → Type 0
SpellAll l h rs xs = AllAsked grown (IsSpelled l) h xs × (spelled_records xs ≡ rs)

none_spelled : (l : Layout) (h : History) (xs : List Spelling) → SpellAll l h [] xs → xs ≡ []
none_spelled l h [] is = refl
none_spelled l h (x ∷ xs) is = absurd (let clash = is.1 in cc)

module _ (l : Layout) (h : History) (r : Record) (rs : List Record) where
  abbrev IsNext : Spelling → Type 0
  IsNext x = IsSpelled l h x × (x.1 ≡ r)

  abbrev Follows : Spelling × List Spelling → Type 0
  Follows y = IsNext y.0 × SpellAll l (grown h y.0) rs y.1

  one_then : (y : Spelling × List Spelling) → Follows y → SpellAll l h (r ∷ rs) (y.0 ∷ y.1)
  one_then y is = ((is.0.0, is.1.0), ap (λ (s : Record). s ∷ spelled_records y.1) is.0.1 ∙ ap (λ (ss : List Record). r ∷ ss) is.1.1)

  first_and_rest : (xs : List Spelling) → SpellAll l h (r ∷ rs) xs → (y : Spelling × List Spelling) × Follows y × ((y.0 ∷ y.1) ≡ xs)
  first_and_rest [] is = absurd (let clash = is.1 in cc)
  first_and_rest (x ∷ xs) is =
      let all : (x.1 ∷ spelled_records xs) ≡ (r ∷ rs) = is.1 in
      let one : x.1 ≡ r = cc in
      let others : spelled_records xs ≡ rs = cc in
      ((x, xs), ((is.0.0, one), (is.0.1, others)), refl)

searched_all : (l : Layout) (h : History) (rs : List Record) → IsSearched (SpellAll l h rs)
searched_all l h [] = searched_as (λ (xs : List Spelling). xs ≡ []) (SpellAll l h []) (searched_one []) (λ xs e. subst (SpellAll l h []) (sym e) (tt, refl)) (none_spelled l h)
searched_all l h (r ∷ rs) =
    searched_made (Follows l h r rs) (λ y. y.0 ∷ y.1) (SpellAll l h (r ∷ rs))
    (searched_pairs (IsNext l h r rs) (λ x. SpellAll l (grown h x) rs)
    (searched_among (IsSpelled l h) (λ x. x.1 ≡ r) (searched_record l h.1) (λ x is. same_record x.1 r)) (λ x is. searched_all l (grown h x) rs))
    (one_then l h r rs) (first_and_rest l h r rs)

-- ---- bytes that hold records

pub fits_decided : (s : Span) (bytes : List ℕ) → Decided (Fits s bytes)
fits_decided s bytes =
    decided_if {A = (s.shifts + 4 ≡ length bytes) × ((s.low ≤ number bytes) × (number bytes < s.low + s.len))} {B = Fits s bytes}
    (λ h. record { length = h.0; low = h.1.0; high = h.1.1 }) (λ h. (h.length, (h.low, h.high)))
    (decided_both (same_number (s.shifts + 4) (length bytes)) (λ _. decided_both (is_at_most s.low (number bytes)) (λ _. is_below (number bytes) (s.low + s.len))))

pub begins_decided : (s : Span) (bytes : List ℕ) → Decided (Begins s bytes)
begins_decided s bytes =
    let front = number (take (s.shifts + 4) bytes) in
    decided_if {A = (s.shifts + 4 ≤ length bytes) × ((s.low ≤ front) × (front < s.low + s.len))} {B = Begins s bytes}
    (λ h. record { enough = h.0; low = h.1.0; high = h.1.1 }) (λ h. (h.enough, (h.low, h.high)))
    (decided_both (is_at_most (s.shifts + 4) (length bytes)) (λ _. decided_both (is_at_most s.low front) (λ _. is_below front (s.low + s.len))))

module _ (l : Layout) (bytes records : List ℕ) where
  abbrev start : History
  start = initial_history (first_of l records)

  abbrev IsHeld : Type 0
  IsHeld =
      (record_length l ≤ length bytes) × ((take (record_length l) bytes ≡ take (record_length l) records)
      × ((xs : List Spelling) × SpellAll l start (further l records) xs × Fits (span (cuts_of (joined xs))) (drop (record_length l) bytes)))

  pub holds_decided : Decided (Holds l bytes records)
  holds_decided =
      decided_if {A = IsHeld} {B = Holds l bytes records}
      (λ h. record { enough = h.0; first = h.1.0; spellings = h.1.1.0; spell = h.1.1.1.0; are = h.1.1.1.1; fits = h.1.1.2 })
      (λ h. (h.enough, (h.first, (h.spellings, (h.spell, h.are), h.fits))))
      (decided_both (is_at_most (record_length l) (length bytes))
      (λ _. decided_both (same_list same_number (take (record_length l) bytes) (take (record_length l) records))
      (λ _. searched_all l start (further l records) (λ xs. Fits (span (cuts_of (joined xs))) (drop (record_length l) bytes))
      (λ xs all. fits_decided (span (cuts_of (joined xs))) (drop (record_length l) bytes)))))

-- ---- lists of numbers below a bound

abbrev pub AreBelow : (bound : ℕ) → List ℕ → Type 0
AreBelow bound [] = Unit {0}
AreBelow bound (x ∷ xs) = (x < bound) × AreBelow bound xs

abbrev pub AreNumbers : (bound count : ℕ) → List ℕ → Type 0
AreNumbers bound count xs = (length xs ≡ count) × AreBelow bound xs

no_numbers : (bound : ℕ) (xs : List ℕ) → AreNumbers bound 0 xs → xs ≡ []
no_numbers bound [] is = refl
no_numbers bound (x ∷ xs) is = absurd (omega (arith, is.0))

more_numbers : (bound n : ℕ) (xs : List ℕ) → AreNumbers bound (suc n) xs → (y : ℕ × List ℕ) × ((y.0 < bound) × AreNumbers bound n y.1) × ((y.0 ∷ y.1) ≡ xs)
more_numbers bound n [] is = absurd (omega (arith, is.0))
more_numbers bound n (x ∷ xs) is = ((x, xs), (is.1.0, (omega (arith, is.0), is.1.1)), refl)

pub searched_numbers : (bound n : ℕ) → IsSearched (AreNumbers bound n)
searched_numbers bound zero = searched_as (λ (xs : List ℕ). xs ≡ []) (AreNumbers bound 0) (searched_one []) (λ xs e. subst (AreNumbers bound 0) (sym e) (refl, tt)) (no_numbers bound)
searched_numbers bound (suc n) =
    searched_made (λ (y : ℕ × List ℕ). (y.0 < bound) × AreNumbers bound n y.1) (λ y. y.0 ∷ y.1) (AreNumbers bound (suc n))
    (searched_pairs (λ (x : ℕ). x < bound) (λ x. AreNumbers bound n) (searched_below bound) (λ x lt. searched_numbers bound n))
    (λ y is. (omega (arith, is.1.0), (is.0, is.1.1))) (more_numbers bound n)

below_bytes : (xs : List ℕ) → IsBytes xs → AreBelow 256 xs
below_bytes [] is = tt
below_bytes (x ∷ xs) is = (is 0, below_bytes xs (λ i. is (suc i)))

bytes_below : (xs : List ℕ) → AreBelow 256 xs → IsBytes xs
bytes_below [] is i = omega arith
bytes_below (x ∷ xs) is zero = is.0
bytes_below (x ∷ xs) is (suc i) = bytes_below xs is.1 i

-- ---- whether a chunk holds records

abbrev pub HoldsRecords : Layout → (count : ℕ) → (bytes : List ℕ) → Type 0
HoldsRecords l count bytes = (records : List ℕ) × AreRecords l count records × Holds l bytes records

pub records_decided : (l : Layout) (count : ℕ) (bytes : List ℕ) → Decided (HoldsRecords l count bytes)
records_decided l count bytes =
    searched_as (AreNumbers 256 (record_length l * count)) (AreRecords l count) (searched_numbers 256 (record_length l * count))
    (λ xs is. record { length = is.0; bytes = bytes_below xs is.1 }) (λ xs is. (is.length, below_bytes xs is.bytes))
    (Holds l bytes) (λ records are. holds_decided l bytes records)
