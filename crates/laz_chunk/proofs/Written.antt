-- What a writer makes of records spells them, and what the items then stand for.
use Rattle.std.proofs.Common.{◌≡◌, ℕ, zero, suc, ◌*◌, ◌<◌, ◌≤◌, Bool, true, false, List, [], ◌∷◌, ◌++◌, length, take, drop, refl, sym, ap, ◌∙◌, arith, lit≤}
use Rattle.std.specs.Prelude.{All}
use Rattle.std.proofs.lemmas.List.Elements.{All-cons, All-head, All-map, All-nil, All-weaker}
use Rattle.laz_range.specs.Choice.{AllAsked, state_after}
use Rattle.laz_range.specs.Span.{IsBytes}
use Rattle.laz_range.proofs.Public.{IsBytes-drop, IsBytes-take}
use Rattle.std.proofs.lemmas.List.{length-drop, length-take-le}
use Rattle.laz_integer.specs.Events.{Event}
use Rattle.laz_point10.specs.Points.{IsPoint}
use Rattle.laz_point10.specs.PointEvents.{point_events}
use Rattle.laz_point10.proofs.Public.{points-spelled}
use Rattle.laz_gpstime.specs.Sequences as sequences
use Rattle.laz_gpstime.specs.Laws.{AreTimes}
use Rattle.laz_gpstime.specs.Items.{point_with}
use Rattle.laz_gpstime.proofs.Public.{times-spelled}
use Rattle.laz_rgb.specs.declared.colour.Colour.{Colour}
use Rattle.laz_rgb.specs.Colours.{colour_at, colour_bytes}
use Rattle.laz_rgb.specs.Extra.{extra_events}
use Rattle.laz_rgb.specs.Items.{latest_colour, latest_extra}
use Rattle.laz_rgb.proofs.Public.{colours-spelled, extras-spelled}
use Rattle.laz_chunk.specs.Layouts.{Layout, record_length}
use Rattle.laz_chunk.specs.Records.{ChunkPoint, Record, SpellsColourIf, SpellsTimeIf, colour_events_if, colours_of, extras_of, points_of, record_at, records_in, time_events_if, times_of}
use Rattle.laz_chunk.specs.Stands.{AreChunkPoints, IsRecord}
use Rattle.laz_chunk.specs.Chunks.{History, IsSpelled, grown, initial_history, spelled_records, writing, written}
use Rattle.laz_chunk.proofs.Fields.{part-lengths, record-fits}
use Rattle.laz_integer.proofs.Public.{next_suc}
use Rattle.laz_chunk.proofs.Leaves.{Parts}

-- ---- a record
time-spelled_if : (t : Bool) (points : List sequences.Point) (time : ℕ) → AreTimes points → time < 18446744073709551616 → (t ≡ false → time ≡ 0) → SpellsTimeIf t points (time_events_if t points time) time
time-spelled_if true points time all h none = times-spelled points time all h
time-spelled_if false points time all h none = (refl, none refl)

colour-spelled_if : (t : Bool) (colours : List Colour) (colour : Colour) → IsBytes (colour_bytes (latest_colour colours)) → IsBytes (colour_bytes colour) → (t ≡ false → colour ≡ colour_at []) → SpellsColourIf t colours (colour_events_if t colours colour) colour
colour-spelled_if true colours colour h k none = colours-spelled (latest_colour colours) colour h k
colour-spelled_if false colours colour h k none = (refl, none refl)

-- What a record lacks is as it is in bytes without it.
pub record LacksParts (l : Layout) (now : Record) : Type 0 where
  pub time : l.times ≡ false → now.time ≡ 0
  pub colour : l.colours ≡ false → now.colour ≡ colour_at []

lacks : (l : Layout) (a : List ℕ) → LacksParts l (record_at l a)
lacks l a = record { time = λ e. rw e refl; colour = λ e. rw e refl }

latest-colour : (points : List ChunkPoint) → 1 ≤ length points → All (λ p. IsRecord p.fields) points → IsBytes (colour_bytes (latest_colour (colours_of points)))
latest-colour [] some h = absurd (omega (arith, some))
latest-colour (p ∷ points) some h = (All-head (λ (p : ChunkPoint). IsRecord p.fields) p points h).colour

latest-bytes : (points : List ChunkPoint) → 1 ≤ length points → All (λ p. IsRecord p.fields) points → IsBytes (latest_extra (extras_of points))
latest-bytes [] some h = absurd (omega (arith, some))
latest-bytes (p ∷ points) some h = (All-head (λ (p : ChunkPoint). IsRecord p.fields) p points h).extra

latest-length : (extra : ℕ) (points : List ChunkPoint) → 1 ≤ length points → All (λ p. length p.fields.extra ≡ extra) points → length (latest_extra (extras_of points)) ≡ extra
latest-length extra [] some h = absurd (omega (arith, some))
latest-length extra (p ∷ points) some h = All-head (λ (p : ChunkPoint). length p.fields.extra ≡ extra) p points h

pub written-parts : (l : Layout) (points : List ChunkPoint) (now : Record) → AreChunkPoints l.extra points → IsRecord now → length now.extra ≡ l.extra → LacksParts l now
    → Parts l.times l.colours points (point_events (points_of points) now.point) (time_events_if l.times (times_of points) now.time) (colour_events_if l.colours (colours_of points) now.colour) (extra_events (latest_extra (extras_of points)) now.extra) now
written-parts l points now are fits size none =
    record {
      point = points-spelled (points_of points) now.point (All-map IsPoint (λ (p : ChunkPoint). p.fields.point) points (All-weaker (λ (p : ChunkPoint). IsRecord p.fields) (λ (p : ChunkPoint). IsPoint p.fields.point) (λ p h. h.point) points are.fields)) fits.point;
      time =
          time-spelled_if l.times (times_of points) now.time
          (All-map (λ (p : sequences.Point). p.time < 18446744073709551616) (λ (p : ChunkPoint). point_with p.fields.time p.events) points (All-weaker (λ (p : ChunkPoint). IsRecord p.fields) (λ (p : ChunkPoint). p.fields.time < 18446744073709551616) (λ p h. h.time) points are.fields))
          fits.time none.time;
      colour = colour-spelled_if l.colours (colours_of points) now.colour (latest-colour points are.some are.fields) fits.colour none.colour;
      extra = extras-spelled (latest_extra (extras_of points)) now.extra (latest-bytes points are.some are.fields) fits.extra (size ∙ sym (latest-length l.extra points are.some are.lengths));
    }

-- Bytes of a record after a chunk's points.
pub record-parts_written : (l : Layout) (points : List ChunkPoint) (a : List ℕ) → AreChunkPoints l.extra points → length a ≡ record_length l → IsBytes a
    → let now = record_at l a in Parts l.times l.colours points (point_events (points_of points) now.point) (time_events_if l.times (times_of points) now.time) (colour_events_if l.colours (colours_of points) now.colour) (extra_events (latest_extra (extras_of points)) now.extra) now
record-parts_written l points a are size bytes = written-parts l points (record_at l a) are (record-fits l a size bytes) (part-lengths l a size).extra (lacks l a)

pub record-spelled : (l : Layout) (h : History) (a : List ℕ) → AreChunkPoints l.extra h.1 → length a ≡ record_length l → IsBytes a → IsSpelled l h (writing l h (record_at l a))
record-spelled l h a are size bytes =
    let p = record-parts_written l h.1 a are size bytes in
    record { point_events = _; time_events = _; colour_events = _; extra_events = _; are = refl; point = p.point; time = p.time; colour = p.colour; extra = p.extra }

-- ---- the chunk's points with one more
pub points-more : (l : Layout) (points : List ChunkPoint) (a : List ℕ) (events : List Event) → AreChunkPoints l.extra points → length a ≡ record_length l → IsBytes a → AreChunkPoints l.extra (record { fields = record_at l a; events = events } ∷ points)
points-more l points a events are size bytes =
    let p : ChunkPoint = record { fields = record_at l a; events = events } in
    record {
      some = omega arith;
      fields = All-cons (λ (p : ChunkPoint). IsRecord p.fields) p points (record-fits l a size bytes) are.fields;
      lengths = All-cons (λ (p : ChunkPoint). length p.fields.extra ≡ l.extra) p points (part-lengths l a size).extra are.lengths;
    }

pub points-first : (l : Layout) (a : List ℕ) → length a ≡ record_length l → IsBytes a → AreChunkPoints l.extra (initial_history (record_at l a)).1
points-first l a size bytes =
    let p : ChunkPoint = record { fields = record_at l a; events = [] } in
    record {
      some = lit≤ tt;
      fields = All-cons (λ (p : ChunkPoint). IsRecord p.fields) p [] (record-fits l a size bytes) (All-nil (λ (p : ChunkPoint). IsRecord p.fields));
      lengths = All-cons (λ (p : ChunkPoint). length p.fields.extra ≡ l.extra) p [] (part-lengths l a size).extra (All-nil (λ (p : ChunkPoint). length p.fields.extra ≡ l.extra));
    }

-- ---- records
pub written-spelled : (l : Layout) (h : History) (n : ℕ) (a : List ℕ) → AreChunkPoints l.extra h.1 → length a ≡ record_length l * n → IsBytes a → AllAsked grown (IsSpelled l) h (written l h (records_in l n a))
written-spelled l h zero a are size bytes = tt
written-spelled l h (suc n) a are size bytes =
    let m : ℕ = record_length l in
    let step = next_suc n m in
    let own = length-take-le m a (omega (arith, size, step)) in
    let here = IsBytes-take m a bytes in (
      record-spelled l h (take m a) are own here,
      written-spelled l (grown h (writing l h (record_at l (take m a)))) n (drop m a) (points-more l h.1 (take m a) _ are own here) (omega (arith, size, step, length-drop m a)) (IsBytes-drop m a bytes),
    )

pub written-records : (l : Layout) (h : History) (rs : List Record) → spelled_records (written l h rs) ≡ rs
written-records l h [] = refl
written-records l h (r ∷ rs) = ap (λ l. r ∷ l) (written-records l (grown h (writing l h r)) rs)

pub written-push : (l : Layout) (h : History) (rs : List Record) (r : Record) → written l h (rs ++ r ∷ []) ≡ written l h rs ++ writing l (state_after grown h (written l h rs)) r ∷ []
written-push l h [] r = refl
written-push l h (s ∷ rs) r = ap (λ xs. writing l h s ∷ xs) (written-push l (grown h (writing l h s)) rs r)
