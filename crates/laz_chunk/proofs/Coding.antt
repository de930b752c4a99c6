-- A record coded and read, part by part.
use Rattle.std.proofs.Common.{◌≡◌, ℕ, ◌≤◌, List, ◌∷◌, ◌++◌, Option, length, take, drop, sym, subst}
use Rattle.laz_range.specs.Coding.{Coding, Codes}
use Rattle.laz_range.proofs.Public.{Codes-append}
use Rattle.laz_range.specs.Decoding.{Decoding, Refuses}
use Rattle.laz_range.specs.Span.{IsBytes}
use Rattle.laz_integer.specs.Events.{Event, cuts_after}
use Rattle.laz_integer.proofs.Public.{cuts_after-append}
use Rattle.laz_point10.specs.declared.point.Point.{Point}
use Rattle.laz_point10.specs.Points.{point_at}
use Rattle.laz_point10.specs.PointEvents.{point_events}
use Rattle.laz_point10.specs.Items.{PointStands, PointState, ReadsPoint}
use Rattle.laz_gpstime.specs.Sequences as sequences
use Rattle.laz_gpstime.specs.Items.{point_with}
use Rattle.laz_gpstime.specs.Slots.{TimeState}
use Rattle.laz_rgb.specs.declared.colour.Colour.{Colour}
use Rattle.laz_rgb.specs.Extra.{SpellsExtra, extra_events}
use Rattle.laz_rgb.specs.Items.{ExtraState, RgbState, latest_extra}
use Rattle.laz_chunk.specs.declared.items.Items.{Items}
use Rattle.laz_chunk.specs.Layouts.{Layout, colour_length, record_length, time_length}
use Rattle.laz_chunk.specs.Records.{Record, SpellsColourIf, SpellsTimeIf, colour_events_if, colour_in, colour_part, colours_of, extra_part, extras_of, point_part, points_of, record_at, time_events_if, time_in, time_part, times_of}
use Rattle.laz_chunk.specs.Stands.{AreChunkPoints, ColoursStand, ExtrasStand, ItemsStand, ReadsPart, TimesStand, has, layout_in}
use Rattle.laz_chunk.specs.Chunks.{History, IsSpelled, grown, record_cuts, writing}
use Rattle.laz_chunk.proofs.Leaves.{Parts, colour-before, extra-before, parts-stand, time-before}
use Rattle.laz_chunk.proofs.Whole.{colour-refuses, extra-refuses, record-parts, record-takes, time-refuses}
use Rattle.laz_chunk.proofs.Written.{record-parts_written}
use Rattle.laz_integer.specs.Spelled.{spelled_cuts}

-- ---- what each item's call says
abbrev pub CodesPoint : PointState → PointState → Coding → Coding → List ℕ → Type 0
CodesPoint old new b c part =
    (earlier : List Event) (points : List Point) → PointStands earlier points old
    → Codes b c (cuts_after earlier (point_events points (point_at part))) × PointStands (earlier ++ point_events points (point_at part)) (point_at part ∷ points) new

abbrev pub CodesTime : Option TimeState → Option TimeState → Coding → Coding → List ℕ → Type 0
CodesTime old new b c part =
    (earlier : List Event) (points : List sequences.Point) → TimesStand earlier points old
    → Codes b c (cuts_after earlier (time_events_if (has old) points (time_in (has old) part))) × (let time = time_in (has old) part in let events = time_events_if (has old) points time in TimesStand (earlier ++ events) (point_with time events ∷ points) new)

abbrev pub CodesColour : Option RgbState → Option RgbState → Coding → Coding → List ℕ → Type 0
CodesColour old new b c part =
    (earlier : List Event) (colours : List Colour) → ColoursStand earlier colours old
    → Codes b c (cuts_after earlier (colour_events_if (has old) colours (colour_in (has old) part))) × (let colour = colour_in (has old) part in ColoursStand (earlier ++ colour_events_if (has old) colours colour) (colour ∷ colours) new)

abbrev pub CodesExtra : Option ExtraState → Option ExtraState → Coding → Coding → List ℕ → Type 0
CodesExtra old new b c part =
    (earlier : List Event) (extras : List (List ℕ)) → ExtrasStand earlier extras old
    → Codes b c (cuts_after earlier (extra_events (latest_extra extras) part)) × ExtrasStand (earlier ++ extra_events (latest_extra extras) part) (part ∷ extras) new

codes-four : (earlier e1 e2 e3 e4 : List Event) (a b c d e : Coding) → Codes a b (cuts_after earlier e1) → Codes b c (cuts_after (earlier ++ e1) e2) → Codes c d (cuts_after ((earlier ++ e1) ++ e2) e3)
    → Codes d e (cuts_after (((earlier ++ e1) ++ e2) ++ e3) e4) → Codes a e (cuts_after earlier (e1 ++ (e2 ++ (e3 ++ e4))))
codes-four earlier e1 e2 e3 e4 a b c d e f g h k =
    rw (cuts_after-append earlier e1 (e2 ++ (e3 ++ e4)), cuts_after-append (earlier ++ e1) e2 (e3 ++ e4), cuts_after-append ((earlier ++ e1) ++ e2) e3 e4)
    (Codes-append a b e _ _ f (Codes-append b c e _ _ g (Codes-append c d e _ _ h k)))

pub code-record : (h : History) (bytes p t q x : List ℕ) (old new : Items) (a b c d e : Coding) → AreChunkPoints (layout_in old).extra h.1 → length bytes ≡ record_length (layout_in old) → IsBytes bytes → ItemsStand h.0 h.1 old
    → p ≡ point_part bytes → t ≡ time_part (layout_in old) bytes → q ≡ colour_part (layout_in old) bytes → x ≡ extra_part (layout_in old) bytes
    → CodesPoint old.point10 new.point10 a b p → CodesTime old.gps_time new.gps_time b c t → CodesColour old.rgb new.rgb c d q → CodesExtra old.extra new.extra d e x
    → Codes a e (record_cuts h (writing (layout_in old) h (record_at (layout_in old) bytes))) × (let after = grown h (writing (layout_in old) h (record_at (layout_in old) bytes)) in ItemsStand after.0 after.1 new)
code-record h bytes p t q x old new a b c d e are size small s ip it iq ix cp ct cq cx =
    let l : Layout = layout_in old in
    let now : Record = record_at l bytes in
    let e1 : List Event = point_events (points_of h.1) now.point in
    let e2 : List Event = time_events_if l.times (times_of h.1) now.time in
    let e3 : List Event = colour_events_if l.colours (colours_of h.1) now.colour in
    let e4 : List Event = extra_events (latest_extra (extras_of h.1)) now.extra in
    let w : Parts l.times l.colours h.1 e1 e2 e3 e4 now = record-parts_written l h.1 bytes are size small in
    let point = subst (CodesPoint old.point10 new.point10 a b) ip cp h.0 (points_of h.1) s.point in
    let time = subst (CodesTime old.gps_time new.gps_time b c) it ct (h.0 ++ e1) (times_of h.1) (time-before h.0 h.1 e1 now.point old.gps_time w.point s.time) in
    let colour = subst (CodesColour old.rgb new.rgb c d) iq cq ((h.0 ++ e1) ++ e2) (colours_of h.1) (colour-before l.times h.0 h.1 e1 e2 now.point now.time old.rgb w.point w.time s.colour) in
    let extra = subst (CodesExtra old.extra new.extra d e) ix cx (((h.0 ++ e1) ++ e2) ++ e3) (extras_of h.1) (extra-before l.times l.colours h.0 h.1 e1 e2 e3 now.point now.time now.colour old.extra w.point w.time w.colour s.extra) in (
      codes-four h.0 e1 e2 e3 e4 a b c d e point.0 time.0 colour.0 extra.0,
      parts-stand l.times l.colours h.0 h.1 e1 e2 e3 e4 now new w point.1 time.1 colour.1 extra.1,
    )

-- ---- what each item's call has read
abbrev pub TookTime : Option TimeState → Option TimeState → Decoding → Decoding → List ℕ → Type 0
TookTime old new b c part =
    (earlier : List Event) (points : List sequences.Point) → TimesStand earlier points old → b.taken ≤ length b.bytes
    → ReadsPart (λ x. SpellsTimeIf (has old) points x.0 x.1) earlier (time_in (has old) part) b c (λ events. TimesStand (earlier ++ events) (point_with (time_in (has old) part) events ∷ points) new)

abbrev pub TookColour : Option RgbState → Option RgbState → Decoding → Decoding → List ℕ → Type 0
TookColour old new b c part =
    (earlier : List Event) (colours : List Colour) → ColoursStand earlier colours old → b.taken ≤ length b.bytes
    → ReadsPart (λ x. SpellsColourIf (has old) colours x.0 x.1) earlier (colour_in (has old) part) b c (λ events. ColoursStand (earlier ++ events) (colour_in (has old) part ∷ colours) new)

abbrev pub TookExtra : Option ExtraState → Option ExtraState → Decoding → Decoding → List ℕ → Type 0
TookExtra old new b c part =
    (earlier : List Event) (extras : List (List ℕ)) → ExtrasStand earlier extras old → b.taken ≤ length b.bytes
    → ReadsPart (λ x. SpellsExtra (latest_extra extras) x.0 x.1) earlier part b c (λ events. ExtrasStand (earlier ++ events) (part ∷ extras) new)

abbrev pub RecordRead : History → List ℕ → Items → Items → Decoding → Decoding → Type 0
RecordRead h bytes old new a b =
    let l = layout_in old in let now = record_at l bytes in ReadsPart (IsSpelled l h) h.0 now a b (λ events. let after = grown h (events, now) in ItemsStand after.0 after.1 new)

pub read-record : (h : History) (p t q x : List ℕ) (old new : Items) (a b c d e : Decoding) → length p ≡ 20 → length t ≡ time_length (layout_in old).times → length q ≡ colour_length (layout_in old).colours → ItemsStand h.0 h.1 old
    → ReadsPoint h.0 (points_of h.1) (point_at p) a b new.point10 → TookTime old.gps_time new.gps_time b c t → TookColour old.rgb new.rgb c d q → TookExtra old.extra new.extra d e x
    → RecordRead h (p ++ (t ++ (q ++ x))) old new a e
read-record h p t q x old new a b c d e lp lt lq s point ft fq fx =
    let l : Layout = layout_in old in
    let now : Record = record { point = point_at p; time = time_in l.times t; colour = colour_in l.colours q; extra = x } in
    let e1 = point.events in
    let vp = point.takes.choice.asked in
    let time = ft (h.0 ++ e1) (times_of h.1) (time-before h.0 h.1 e1 now.point old.gps_time vp s.time) point.takes.within in
    let e2 = time.events in
    let vt = time.takes.choice.asked in
    let colour = fq ((h.0 ++ e1) ++ e2) (colours_of h.1) (colour-before l.times h.0 h.1 e1 e2 now.point now.time old.rgb vp vt s.colour) time.takes.within in
    let e3 = colour.events in
    let vq = colour.takes.choice.asked in
    let extra = fx (((h.0 ++ e1) ++ e2) ++ e3) (extras_of h.1) (extra-before l.times l.colours h.0 h.1 e1 e2 e3 now.point now.time now.colour old.extra vp vt vq s.extra) colour.takes.within in
    let e4 = extra.events in
    let parts : Parts l.times l.colours h.1 e1 e2 e3 e4 now = record { point = vp; time = vt; colour = vq; extra = extra.takes.choice.asked } in
    subst (λ (r : Record). ReadsPart (IsSpelled l h) h.0 r a e (λ events. let after = grown h (events, r) in ItemsStand after.0 after.1 new)) (sym (record-parts l p t q x lp lt lq))
    (record {
      events = e1 ++ (e2 ++ (e3 ++ e4));
      takes = record-takes l h a b c d e e1 e2 e3 e4 now point.takes time.takes colour.takes extra.takes;
      stands = parts-stand l.times l.colours h.0 h.1 e1 e2 e3 e4 now new parts point.stands time.stands colour.stands extra.stands;
    })

-- ---- a part that was refused
abbrev pub RefusedTime : Option TimeState → Decoding → Decoding → Type 0
RefusedTime old b c =
    (earlier : List Event) (points : List sequences.Point) → TimesStand earlier points old → b.taken ≤ length b.bytes → Refuses {X = List Event × ℕ} (λ x. SpellsTimeIf (has old) points x.0 x.1) (spelled_cuts earlier) b c

abbrev pub RefusedColour : Option RgbState → Decoding → Decoding → Type 0
RefusedColour old b c =
    (earlier : List Event) (colours : List Colour) → ColoursStand earlier colours old → b.taken ≤ length b.bytes → Refuses {X = List Event × Colour} (λ x. SpellsColourIf (has old) colours x.0 x.1) (spelled_cuts earlier) b c

abbrev pub RefusedExtra : Option ExtraState → Decoding → Decoding → Type 0
RefusedExtra old b c =
    (earlier : List Event) (extras : List (List ℕ)) → ExtrasStand earlier extras old → b.taken ≤ length b.bytes → Refuses {X = List Event × List ℕ} (λ x. SpellsExtra (latest_extra extras) x.0 x.1) (spelled_cuts earlier) b c

abbrev RecordRefused : History → Items → Decoding → Decoding → Type 0
RecordRefused h old a b = Refuses (IsSpelled (layout_in old) h) (record_cuts h) a b

pub refuse-time : (h : History) (v : Point) (old : Items) (st : PointState) (a b c : Decoding) → ItemsStand h.0 h.1 old → ReadsPoint h.0 (points_of h.1) v a b st → RefusedTime old.gps_time b c → RecordRefused h old a c
refuse-time h v old st a b c s point ft =
    let vp = point.takes.choice.asked in
    time-refuses (layout_in old) h a b c point.events v point.takes (ft (h.0 ++ point.events) (times_of h.1) (time-before h.0 h.1 point.events v old.gps_time vp s.time) point.takes.within)

pub refuse-colour : (h : History) (v : Point) (t : List ℕ) (old : Items) (st : PointState) (nt : Option TimeState) (a b c d : Decoding) → ItemsStand h.0 h.1 old → ReadsPoint h.0 (points_of h.1) v a b st → TookTime old.gps_time nt b c t → RefusedColour old.rgb c d → RecordRefused h old a d
refuse-colour h v t old st nt a b c d s point ft fq =
    let l : Layout = layout_in old in
    let e1 = point.events in
    let vp = point.takes.choice.asked in
    let time = ft (h.0 ++ e1) (times_of h.1) (time-before h.0 h.1 e1 v old.gps_time vp s.time) point.takes.within in
    let vt = time.takes.choice.asked in
    colour-refuses l h a b c d e1 time.events v (time_in l.times t) point.takes time.takes (fq ((h.0 ++ e1) ++ time.events) (colours_of h.1) (colour-before l.times h.0 h.1 e1 time.events v (time_in l.times t) old.rgb vp vt s.colour) time.takes.within)

pub refuse-extra : (h : History) (v : Point) (t q : List ℕ) (old : Items) (st : PointState) (nt : Option TimeState) (nq : Option RgbState) (a b c d e : Decoding) → ItemsStand h.0 h.1 old
    → ReadsPoint h.0 (points_of h.1) v a b st → TookTime old.gps_time nt b c t → TookColour old.rgb nq c d q → RefusedExtra old.extra d e → RecordRefused h old a e
refuse-extra h v t q old st nt nq a b c d e s point ft fq fx =
    let l : Layout = layout_in old in
    let e1 = point.events in
    let vp = point.takes.choice.asked in
    let time = ft (h.0 ++ e1) (times_of h.1) (time-before h.0 h.1 e1 v old.gps_time vp s.time) point.takes.within in
    let e2 = time.events in
    let vt = time.takes.choice.asked in
    let colour = fq ((h.0 ++ e1) ++ e2) (colours_of h.1) (colour-before l.times h.0 h.1 e1 e2 v (time_in l.times t) old.rgb vp vt s.colour) time.takes.within in
    let e3 = colour.events in
    let vq = colour.takes.choice.asked in
    extra-refuses l h a b c d e e1 e2 e3 v (time_in l.times t) (colour_in l.colours q) point.takes time.takes colour.takes
    (fx (((h.0 ++ e1) ++ e2) ++ e3) (extras_of h.1) (extra-before l.times l.colours h.0 h.1 e1 e2 e3 v (time_in l.times t) (colour_in l.colours q) old.extra vp vt vq s.extra) colour.takes.within)

-- ---- slices of slices
pub take-same : (n m : ℕ) (a b : List ℕ) → n ≡ m → a ≡ b → take n a ≡ take m b
take-same n m a b e f = cc

pub drop-same : (n m : ℕ) (a b : List ℕ) → n ≡ m → a ≡ b → drop n a ≡ drop m b
drop-same n m a b e f = cc
