-- Spellings of a chunk's records part at one event, so that at most one of them fits the same bytes.
use Rattle.std.proofs.Common.{◌≡◌, ℕ, ◌-◌, ◌≤◌, inl, inr, Bool, true, false, List, [], ◌∷◌, ◌++◌, length, take, drop, refl, sym, ap, subst, ◌∙◌, arith, append_assoc}
use Rattle.std.proofs.lemmas.List.{take-append-drop, take_all}
use Rattle.laz_range.specs.Span.{Begins, Fits, IsBytes, Span, span}
use Rattle.laz_integer.specs.Events.{Event, cuts_of}
use Rattle.laz_integer.specs.Ranged.{AreOneKind, AreRanged, IsRanged}
use Rattle.laz_integer.proofs.Public.{One, Part, as-one, made-one, none-one, then, AreRanged-append, AreRanged-front}
use Rattle.laz_integer.proofs.Public.{cons_same}
use Rattle.laz_point10.specs.declared.point.Point.{Point}
use Rattle.laz_point10.proofs.Public.{point-one}
use Rattle.laz_gpstime.specs.Sequences as sequences
use Rattle.laz_gpstime.proofs.Public.{time-one}
use Rattle.laz_rgb.specs.declared.colour.Colour.{Colour}
use Rattle.laz_rgb.specs.Items.{latest_colour, latest_extra}
use Rattle.laz_rgb.proofs.Public.{colour-one, extra-one}
use Rattle.laz_chunk.specs.Layouts.{Layout, record_length}
use Rattle.laz_chunk.specs.Records.{ChunkPoint, Record, SpellsColourIf, SpellsRecord, SpellsTimeIf, colours_of, extras_of, points_of, record_at, records_in, times_of}
use Rattle.laz_chunk.specs.Chunks.{AreRecords, History, Holds, IsSpelled, Spelling, first_of, further, grown, initial_history, joined, spelled_records}
use Rattle.laz_range.specs.Choice.{AllAsked}
use Rattle.laz_chunk.proofs.Ends.{count-is, length-records, length-spelled, only-made}
use Rattle.laz_chunk.proofs.Lawful.{record-ranged, sizes}

-- ---- a record
time-one-if : (t : Bool) (points : List sequences.Point) (xs ys : List Event) (v w : ℕ) → SpellsTimeIf t points xs v → SpellsTimeIf t points ys w → One xs ys v w
time-one-if true points xs ys v w s t = time-one points xs ys v w s t
time-one-if false points xs ys v w s t = none-one xs ys v w s.0 t.0 (s.1 ∙ sym t.1)

colour-one-if : (t : Bool) (colours : List Colour) (xs ys : List Event) (v w : Colour) → SpellsColourIf t colours xs v → SpellsColourIf t colours ys w → One xs ys v w
colour-one-if true colours xs ys v w s t = colour-one (latest_colour colours) xs ys v w s t
colour-one-if false colours xs ys v w s t = none-one xs ys v w s.0 t.0 (s.1 ∙ sym t.1)

same_record : (p q : Point) (t u : ℕ) (c d : Colour) (x y : List ℕ) → p ≡ q → t ≡ u → c ≡ d → x ≡ y
    → (let r : Record = record { point = p; time = t; colour = c; extra = x } in r) ≡ record { point = q; time = u; colour = d; extra = y }
same_record p q t u c d x y e f g h = cc

record-one : (l : Layout) (points : List ChunkPoint) (xs ys : List Event) (v w : Record) → SpellsRecord l points xs v → SpellsRecord l points ys w → One xs ys v w
record-one l points xs ys v w s t =
    as-one (s.point_events ++ (s.time_events ++ (s.colour_events ++ s.extra_events))) (t.point_events ++ (t.time_events ++ (t.colour_events ++ t.extra_events))) xs ys v w s.are t.are
    (then {W = Record} s.point_events t.point_events (s.time_events ++ (s.colour_events ++ s.extra_events)) (t.time_events ++ (t.colour_events ++ t.extra_events)) v.point w.point v w (point-one (points_of points) s.point_events t.point_events v.point w.point s.point t.point)
    (λ (e : v.point ≡ w.point).
    then {W = Record} s.time_events t.time_events (s.colour_events ++ s.extra_events) (t.colour_events ++ t.extra_events) v.time w.time v w (time-one-if l.times (times_of points) s.time_events t.time_events v.time w.time s.time t.time)
    (λ (f : v.time ≡ w.time).
    then {W = Record} s.colour_events t.colour_events s.extra_events t.extra_events v.colour w.colour v w (colour-one-if l.colours (colours_of points) s.colour_events t.colour_events v.colour w.colour s.colour t.colour)
    (λ (g : v.colour ≡ w.colour).
    made-one {V = List ℕ} {W = Record} s.extra_events t.extra_events v.extra w.extra v w (λ h. same_record v.point w.point v.time w.time v.colour w.colour v.extra w.extra e f g h)
    (extra-one (latest_extra (extras_of points)) s.extra_events t.extra_events v.extra w.extra s.extra t.extra)))))

-- ---- all records
same_spelling : (xs ys : List Event) (v w : Record) → xs ≡ ys → v ≡ w → ◌≡◌ {A = Spelling} (xs, v) (ys, w)
same_spelling xs ys v w e f = cc

spelling-one : (x y : Spelling) → One x.0 y.0 x.1 y.1 → One {V = Spelling} x.0 y.0 x y
spelling-one x y (inl same) = inl (same.0, same_spelling x.0 y.0 x.1 y.1 same.0 same.1)
spelling-one x y (inr part) = inr part

all-one : (l : Layout) (h : History) (xs ys : List Spelling) → length xs ≡ length ys → AllAsked grown (IsSpelled l) h xs → AllAsked grown (IsSpelled l) h ys → One {V = List Spelling} (joined xs) (joined ys) xs ys
all-one l h [] [] e f g = inl (refl, refl)
all-one l h [] (y ∷ ys) e f g = absurd (omega (arith, e))
all-one l h (x ∷ xs) [] e f g = absurd (omega (arith, e))
all-one l h (x ∷ xs) (y ∷ ys) e f g =
    then {V = Spelling} {W = List Spelling} x.0 y.0 (joined xs) (joined ys) x y (x ∷ xs) (y ∷ ys) (spelling-one x y (record-one l h.1 x.0 y.0 x.1 y.1 f.0 g.0))
    (λ (same : x ≡ y).
    made-one {V = List Spelling} {W = List Spelling} (joined xs) (joined ys) xs ys (x ∷ xs) (y ∷ ys) (λ more. cons_same x y xs ys same more)
    (all-one l (grown h x) xs ys (omega (arith, e)) f.1 (subst (λ (z : Spelling). AllAsked grown (IsSpelled l) (grown h z) ys) (sym same) g.1)))

all-ranged : (l : Layout) (h : History) (xs : List Spelling) → AllAsked grown (IsSpelled l) h xs → AreRanged sizes (joined xs)
all-ranged l h [] all = tt
all-ranged l h (x ∷ xs) all = AreRanged-append sizes x.0 (joined xs) (record-ranged l h.1 x.0 x.1 all.0) (all-ranged l (grown h x) xs all.1)

-- ---- spellings that part do not fit the same bytes
-- what the laws of events say, over these bytes
pub record Laws (bytes : List ℕ) : Type 0 where
  pub fits : (s : Span) → Fits s bytes → Begins s bytes
  pub fronts : (front rest : List Event) → AreRanged sizes (front ++ rest) → Begins (span (cuts_of (front ++ rest))) bytes → Begins (span (cuts_of front)) bytes
  pub one : (front : List Event) (d e : Event) → AreRanged sizes front → IsRanged sizes d → IsRanged sizes e → AreOneKind d e
      → Begins (span (cuts_of (front ++ d ∷ []))) bytes → Begins (span (cuts_of (front ++ e ∷ []))) bytes → d ≡ e

-- all of the bytes are a front of them
pub whole-fits : (bytes : List ℕ) → ((s : Span) (xs : List ℕ) (n : ℕ) → Fits s (take n xs) → Begins s xs) → (s : Span) → Fits s bytes → Begins s bytes
whole-fits bytes front s f = front s bytes (length bytes) (subst (λ (xs : List ℕ). Fits s xs) (sym (take_all (length bytes) bytes (omega arith))) f)

opened : (front rest : List Event) (d : Event) → front ++ d ∷ rest ≡ (front ++ d ∷ []) ++ rest
opened front rest d = sym (append_assoc front (d ∷ []) rest)

last-ranged : (front : List Event) (d : Event) → AreRanged sizes (front ++ d ∷ []) → IsRanged sizes d
last-ranged [] d all = all.0
last-ranged (x ∷ front) d all = last-ranged front d all.1

up-to : (bytes : List ℕ) (laws : Laws bytes) (events front rest : List Event) (d : Event) → events ≡ front ++ d ∷ rest → AreRanged sizes events → Fits (span (cuts_of events)) bytes
    → AreRanged sizes (front ++ d ∷ []) × Begins (span (cuts_of (front ++ d ∷ []))) bytes
up-to bytes laws events front rest d e all fits =
    let is : events ≡ (front ++ d ∷ []) ++ rest = e ∙ opened front rest d in
    let ranged : AreRanged sizes ((front ++ d ∷ []) ++ rest) = subst (λ (l : List Event). AreRanged sizes l) is all in
    let begins : Begins (span (cuts_of ((front ++ d ∷ []) ++ rest))) bytes = subst (λ (l : List Event). Begins (span (cuts_of l)) bytes) is (laws.fits (span (cuts_of events)) fits) in
    (AreRanged-front sizes (front ++ d ∷ []) rest ranged, laws.fronts (front ++ d ∷ []) rest ranged begins)

parted : (bytes : List ℕ) (laws : Laws bytes) (xs ys : List Event) → Part xs ys → AreRanged sizes xs → AreRanged sizes ys → Fits (span (cuts_of xs)) bytes → Fits (span (cuts_of ys)) bytes → ⊥
parted bytes laws xs ys p all others f g =
    let one = up-to bytes laws xs p.front p.rest p.one p.is all f in
    let other = up-to bytes laws ys p.front p.others p.other p.also others g in
    p.differ (laws.one p.front p.one p.other (AreRanged-front sizes p.front (p.one ∷ []) one.0) (last-ranged p.front p.one one.0) (last-ranged p.front p.other other.0) p.kind one.1 other.1)

unparted : {V : Type 0} (bytes : List ℕ) (laws : Laws bytes) (xs ys : List Event) (v w : V) → One xs ys v w → AreRanged sizes xs → AreRanged sizes ys → Fits (span (cuts_of xs)) bytes → Fits (span (cuts_of ys)) bytes → v ≡ w
unparted bytes laws xs ys v w (inl same) all others f g = same.1
unparted bytes laws xs ys v w (inr part) all others f g = absurd (parted bytes laws xs ys part all others f g)

-- ---- whole chunks
same-further : (l : Layout) (bytes one other : List ℕ) → Laws (drop (record_length l) bytes) → length (further l one) ≡ length (further l other) → Holds l bytes one → Holds l bytes other → further l one ≡ further l other
same-further l bytes one other laws long s t =
    let firsts : first_of l other ≡ first_of l one = ap (record_at l) (sym t.first ∙ s.first) in
    let h : History = initial_history (first_of l one) in
    let spell = subst (λ (r : Record). AllAsked grown (IsSpelled l) (initial_history r) t.spellings) firsts t.spell in
    let many : length s.spellings ≡ length t.spellings =
    sym (length-spelled s.spellings) ∙ (ap (λ xs. length xs) s.are ∙ (long ∙ (ap (λ xs. length xs) (sym t.are) ∙ length-spelled t.spellings))) in
    let same : s.spellings ≡ t.spellings =
    unparted (drop (record_length l) bytes) laws (joined s.spellings) (joined t.spellings) s.spellings t.spellings (all-one l h s.spellings t.spellings many s.spell spell) (all-ranged l h s.spellings s.spell) (all-ranged l h t.spellings spell) s.fits t.fits in
    sym s.are ∙ (ap spelled_records same ∙ t.are)

further-is : (l : Layout) (count : ℕ) (records : List ℕ) → AreRecords l count records → further l records ≡ records_in l (count - 1) (drop (record_length l) records)
further-is l count records are = ap (λ (n : ℕ). records_in l (n - 1) (drop (record_length l) records)) (count-is l count records are.length)

further-length : (l : Layout) (count : ℕ) (records : List ℕ) → AreRecords l count records → length (further l records) ≡ count - 1
further-length l count records are = ap (λ xs. length xs) (further-is l count records are) ∙ length-records l (count - 1) (drop (record_length l) records)

pub one-held : (l : Layout) (count : ℕ) (bytes one other : List ℕ) → 1 ≤ count → Laws (drop (record_length l) bytes) → AreRecords l count one → AreRecords l count other → Holds l bytes one → Holds l bytes other → one ≡ other
one-held l count bytes one other some laws are others s t =
    let m : ℕ = record_length l in
    let whole : take m other ++ drop m other ≡ other = take-append-drop m other in
    let same = same-further l bytes one other laws (further-length l count one are ∙ sym (further-length l count other others)) s t in
    only-made l count bytes one (take m other) (drop m other) some are s.enough (sym t.first) s.first (ap (λ xs. length xs) whole ∙ others.length) (subst IsBytes (sym whole) others.bytes)
    (sym (further-is l count one are) ∙ (same ∙ further-is l count other others))
    ∙ whole
