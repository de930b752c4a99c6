-- The four parts of a record, one after another, as the record.
use Rattle.std.proofs.Common.{◌≡◌, ℕ, Bool, List, ◌++◌, length, take, drop, refl, sym, ap, ◌∙◌}
use Rattle.std.proofs.lemmas.List.{drop_at, take_at}
use Rattle.laz_range.specs.Decoding.{Decoding, Refuses, Takes}
use Rattle.laz_range.proofs.Public.{Takes-through, Refuses-through}
use Rattle.laz_integer.specs.Events.{Event}
use Rattle.laz_point10.specs.declared.point.Point.{Point}
use Rattle.laz_point10.specs.Points.{point_at}
use Rattle.laz_point10.specs.PointEvents.{SpellsPoint}
use Rattle.laz_rgb.specs.declared.colour.Colour.{Colour}
use Rattle.laz_rgb.specs.Extra.{SpellsExtra}
use Rattle.laz_rgb.specs.Items.{latest_extra}
use Rattle.laz_chunk.specs.Layouts.{Layout, colour_length, time_length}
use Rattle.laz_chunk.specs.Records.{ChunkPoint, Record, SpellsColourIf, SpellsTimeIf, colour_in, colours_of, extras_of, points_of, record_at, time_in, times_of}
use Rattle.laz_chunk.specs.Chunks.{History, IsSpelled, Spelling, record_cuts}
use Rattle.laz_integer.proofs.Public.{Both, both-first, both-second, both-takes}
use Rattle.laz_integer.specs.Spelled.{spelled_cuts}

-- ---- what spells each part
abbrev pub IsPointPart : List ChunkPoint → List Event × Point → Type 0
IsPointPart points x = SpellsPoint (points_of points) x.0 x.1

abbrev pub IsTimePart : Bool → List ChunkPoint → List Event × ℕ → Type 0
IsTimePart t points x = SpellsTimeIf t (times_of points) x.0 x.1

abbrev pub IsColourPart : Bool → List ChunkPoint → List Event × Colour → Type 0
IsColourPart t points x = SpellsColourIf t (colours_of points) x.0 x.1

abbrev pub IsExtraPart : List ChunkPoint → List Event × List ℕ → Type 0
IsExtraPart points x = SpellsExtra (latest_extra (extras_of points)) x.0 x.1

abbrev Fields : Type 0
Fields = Point × (ℕ × (Colour × List ℕ))

abbrev AreFields : Layout → List ChunkPoint → List Event × Fields → Type 0
AreFields l points = Both (IsPointPart points) (Both (IsTimePart l.times points) (Both (IsColourPart l.colours points) (IsExtraPart points)))

abbrev made : List Event × Fields → Spelling
made x = (x.0, record { point = x.1.0; time = x.1.1.0; colour = x.1.1.1.0; extra = x.1.1.1.1 })

to-record : (l : Layout) (h : History) (x : List Event × Fields) → AreFields l h.1 x → IsSpelled l h (made x)
to-record l h x f =
    record {
      point_events = f.first;
      time_events = f.more.first;
      colour_events = f.more.more.first;
      extra_events = f.more.more.second;
      are = sym f.are ∙ ap (λ s. f.first ++ s) (sym f.more.are ∙ ap (λ s. f.more.first ++ s) (sym f.more.more.are));
      point = f.spells;
      time = f.more.spells;
      colour = f.more.more.spells;
      extra = f.more.more.more;
    }

from-record : (l : Layout) (h : History) (z : Spelling) → IsSpelled l h z → (x : List Event × Fields) × AreFields l h.1 x × (made x ≡ z)
from-record l h z s = (
  (z.0, (z.1.point, (z.1.time, (z.1.colour, z.1.extra)))),
  record {
    first = s.point_events;
    second = s.time_events ++ (s.colour_events ++ s.extra_events);
    are = sym s.are;
    spells = s.point;
    more =
        record {
          first = s.time_events;
          second = s.colour_events ++ s.extra_events;
          are = refl;
          spells = s.time;
          more = record { first = s.colour_events; second = s.extra_events; are = refl; spells = s.colour; more = s.extra };
        };
  },
  refl,
)

pub record-takes : (l : Layout) (h : History) (a b c d e : Decoding) (e1 e2 e3 e4 : List Event) (now : Record)
    → Takes (IsPointPart h.1) (spelled_cuts h.0) a b (e1, now.point)
    → Takes (IsTimePart l.times h.1) (spelled_cuts (h.0 ++ e1)) b c (e2, now.time)
    → Takes (IsColourPart l.colours h.1) (spelled_cuts ((h.0 ++ e1) ++ e2)) c d (e3, now.colour)
    → Takes (IsExtraPart h.1) (spelled_cuts (((h.0 ++ e1) ++ e2) ++ e3)) d e (e4, now.extra)
    → Takes (IsSpelled l h) (record_cuts h) a e (e1 ++ (e2 ++ (e3 ++ e4)), now)
record-takes l h a b c d e e1 e2 e3 e4 now f g k m =
    Takes-through {X = List Event × Fields} {Z = Spelling} made (AreFields l h.1) (IsSpelled l h) (spelled_cuts h.0) (record_cuts h) a e (e1 ++ (e2 ++ (e3 ++ e4)), (now.point, (now.time, (now.colour, now.extra))))
    (to-record l h)
    (from-record l h)
    (λ x p. refl)
    (both-takes (IsPointPart h.1) (Both (IsTimePart l.times h.1) (Both (IsColourPart l.colours h.1) (IsExtraPart h.1))) h.0 a b e (e1, now.point) (e2 ++ (e3 ++ e4), (now.time, (now.colour, now.extra))) f
    (both-takes (IsTimePart l.times h.1) (Both (IsColourPart l.colours h.1) (IsExtraPart h.1)) (h.0 ++ e1) b c e (e2, now.time) (e3 ++ e4, (now.colour, now.extra)) g
    (both-takes (IsColourPart l.colours h.1) (IsExtraPart h.1) ((h.0 ++ e1) ++ e2) c d e (e3, now.colour) (e4, now.extra) k m)))

-- ---- a part is refused, and so is the record
record-refuses : (l : Layout) (h : History) (a b : Decoding) → Refuses (AreFields l h.1) (spelled_cuts h.0) a b → Refuses (IsSpelled l h) (record_cuts h) a b
record-refuses l h a b f = Refuses-through {X = List Event × Fields} {Z = Spelling} made (AreFields l h.1) (IsSpelled l h) (spelled_cuts h.0) (record_cuts h) a b (from-record l h) (λ x p. refl) f

pub point-refuses : (l : Layout) (h : History) (a b : Decoding) → Refuses (IsPointPart h.1) (spelled_cuts h.0) a b → Refuses (IsSpelled l h) (record_cuts h) a b
point-refuses l h a b f = record-refuses l h a b (both-first (IsPointPart h.1) (Both (IsTimePart l.times h.1) (Both (IsColourPart l.colours h.1) (IsExtraPart h.1))) h.0 a b f)

pub time-refuses : (l : Layout) (h : History) (a b c : Decoding) (e1 : List Event) (v : Point)
    → Takes (IsPointPart h.1) (spelled_cuts h.0) a b (e1, v) → Refuses (IsTimePart l.times h.1) (spelled_cuts (h.0 ++ e1)) b c → Refuses (IsSpelled l h) (record_cuts h) a c
time-refuses l h a b c e1 v f g =
    record-refuses l h a c
    (both-second (IsPointPart h.1) (Both (IsTimePart l.times h.1) (Both (IsColourPart l.colours h.1) (IsExtraPart h.1))) h.0 a b c (e1, v) f
    (both-first (IsTimePart l.times h.1) (Both (IsColourPart l.colours h.1) (IsExtraPart h.1)) (h.0 ++ e1) b c g))

pub colour-refuses : (l : Layout) (h : History) (a b c d : Decoding) (e1 e2 : List Event) (v : Point) (w : ℕ)
    → Takes (IsPointPart h.1) (spelled_cuts h.0) a b (e1, v) → Takes (IsTimePart l.times h.1) (spelled_cuts (h.0 ++ e1)) b c (e2, w)
    → Refuses (IsColourPart l.colours h.1) (spelled_cuts ((h.0 ++ e1) ++ e2)) c d → Refuses (IsSpelled l h) (record_cuts h) a d
colour-refuses l h a b c d e1 e2 v w f g k =
    record-refuses l h a d
    (both-second (IsPointPart h.1) (Both (IsTimePart l.times h.1) (Both (IsColourPart l.colours h.1) (IsExtraPart h.1))) h.0 a b d (e1, v) f
    (both-second (IsTimePart l.times h.1) (Both (IsColourPart l.colours h.1) (IsExtraPart h.1)) (h.0 ++ e1) b c d (e2, w) g
    (both-first (IsColourPart l.colours h.1) (IsExtraPart h.1) ((h.0 ++ e1) ++ e2) c d k)))

pub extra-refuses : (l : Layout) (h : History) (a b c d e : Decoding) (e1 e2 e3 : List Event) (v : Point) (w : ℕ) (u : Colour)
    → Takes (IsPointPart h.1) (spelled_cuts h.0) a b (e1, v) → Takes (IsTimePart l.times h.1) (spelled_cuts (h.0 ++ e1)) b c (e2, w)
    → Takes (IsColourPart l.colours h.1) (spelled_cuts ((h.0 ++ e1) ++ e2)) c d (e3, u)
    → Refuses (IsExtraPart h.1) (spelled_cuts (((h.0 ++ e1) ++ e2) ++ e3)) d e → Refuses (IsSpelled l h) (record_cuts h) a e
extra-refuses l h a b c d e e1 e2 e3 v w u f g k m =
    record-refuses l h a e
    (both-second (IsPointPart h.1) (Both (IsTimePart l.times h.1) (Both (IsColourPart l.colours h.1) (IsExtraPart h.1))) h.0 a b e (e1, v) f
    (both-second (IsTimePart l.times h.1) (Both (IsColourPart l.colours h.1) (IsExtraPart h.1)) (h.0 ++ e1) b c e (e2, w) g
    (both-second (IsColourPart l.colours h.1) (IsExtraPart h.1) ((h.0 ++ e1) ++ e2) c d e (e3, u) k m)))

-- ---- the bytes of a record, part by part
pub record-parts : (l : Layout) (p t c x : List ℕ) → length p ≡ 20 → length t ≡ time_length l.times → length c ≡ colour_length l.colours
    → record_at l (p ++ (t ++ (c ++ x))) ≡ record { point = point_at p; time = time_in l.times t; colour = colour_in l.colours c; extra = x }
record-parts l p t c x lp lt lc =
    let front : take 20 (p ++ (t ++ (c ++ x))) ≡ p = take_at p (t ++ (c ++ x)) 20 lp in
    let after : drop 20 (p ++ (t ++ (c ++ x))) ≡ t ++ (c ++ x) = drop_at p (t ++ (c ++ x)) 20 lp in
    let time : take (time_length l.times) (t ++ (c ++ x)) ≡ t = take_at t (c ++ x) (time_length l.times) lt in
    let more : drop (time_length l.times) (t ++ (c ++ x)) ≡ c ++ x = drop_at t (c ++ x) (time_length l.times) lt in
    let colour : take (colour_length l.colours) (c ++ x) ≡ c = take_at c x (colour_length l.colours) lc in
    let rest : drop (colour_length l.colours) (c ++ x) ≡ x = drop_at c x (colour_length l.colours) lc in
    rw (front, after, time, more, colour, rest) refl
