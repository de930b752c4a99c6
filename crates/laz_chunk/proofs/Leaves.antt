-- Events of other items leave what an item stands for, and the events of a record's parts are silent for each other's uses.
use Rattle.std.proofs.Common.{◌≡◌, ℕ, Bool, true, false, List, [], ◌∷◌, ◌++◌, Option, Some, None, refl, sym, subst, ◌∙◌, append_assoc}
use Rattle.laz_integer.specs.Events.{Event, same_text}
use Rattle.laz_integer.specs.Uses.{AllSilent, Silent}
use Rattle.laz_integer.proofs.Public.{Silent-append, Silent-none, all-silent, first-other}
use Rattle.laz_point10.specs.Laws.{point_kinds}
use Rattle.laz_point10.specs.PointEvents.{SpellsPoint}
use Rattle.laz_point10.specs.Items.{PointStands}
use Rattle.laz_point10.specs.declared.point.Point.{Point}
use Rattle.laz_point10.proofs.Public.{others-leave_points, points-lawful}
use Rattle.laz_gpstime.specs.Sequences as sequences
use Rattle.laz_gpstime.specs.Meanings.{time_kind}
use Rattle.laz_gpstime.specs.Items.{point_with}
use Rattle.laz_gpstime.specs.Slots.{TimeState}
use Rattle.laz_gpstime.proofs.Public.{others-leave, points-hold, times-lawful}
use Rattle.laz_rgb.specs.declared.colour.Colour.{Colour}
use Rattle.laz_rgb.specs.Colours.{rgb_kind}
use Rattle.laz_rgb.specs.Extra.{SpellsExtra, byte_kind}
use Rattle.laz_rgb.specs.Items.{ExtraState, RgbState, latest_extra}
use Rattle.laz_rgb.proofs.Public.{colours-lawful, extras-lawful, others-leave_colours, others-leave_extras}
use Rattle.laz_chunk.specs.declared.items.Items.{Items}
use Rattle.laz_chunk.specs.Records.{ChunkPoint, Record, SpellsColourIf, SpellsTimeIf, colours_of, extras_of, points_of, times_of}
use Rattle.laz_chunk.specs.Stands.{ColoursStand, ExtrasStand, ItemsStand, TimesStand}

-- ---- events of other uses
pub times-leave : (earlier others : List Event) (points : List sequences.Point) (item : Option TimeState) → Silent time_kind others → TimesStand earlier points item → TimesStand (earlier ++ others) points item
times-leave earlier others points None s h = tt
times-leave earlier others points (Some st) s h = others-leave earlier others points st s h

pub colours-leave : (earlier others : List Event) (colours : List Colour) (item : Option RgbState) → Silent rgb_kind others → ColoursStand earlier colours item → ColoursStand (earlier ++ others) colours item
colours-leave earlier others colours None s h = tt
colours-leave earlier others colours (Some st) s h = others-leave_colours earlier others colours st s h

pub extras-leave : (earlier others : List Event) (extras : List (List ℕ)) (item : Option ExtraState) → Silent byte_kind others → ExtrasStand earlier extras item → ExtrasStand (earlier ++ others) extras item
extras-leave earlier others extras None s h = h
extras-leave earlier others extras (Some st) s h = others-leave_extras earlier others extras st s h

-- the events of a time's point may be those of its record
pub times-hold : (earlier before events after : List Event) (time : ℕ) (points : List sequences.Point) (item : Option TimeState) → Silent time_kind before → Silent time_kind after
    → TimesStand earlier (point_with time events ∷ points) item → TimesStand earlier (point_with time (before ++ (events ++ after)) ∷ points) item
times-hold earlier before events after time points None f g h = tt
times-hold earlier before events after time points (Some st) f g h = points-hold earlier before events after time points st f g h

-- ---- parts that may be absent
pub time-silent_if : (t : Bool) (other : List ℕ) (points : List sequences.Point) (events : List Event) (time : ℕ) → same_text other time_kind ≡ false → SpellsTimeIf t points events time → Silent other events
time-silent_if true other points events time e h = times-lawful.silent other points events time e h
time-silent_if false other points events time e h = subst (Silent other) (sym h.0) (Silent-none other)

pub colour-silent_if : (t : Bool) (other : List ℕ) (colours : List Colour) (events : List Event) (colour : Colour) → same_text other rgb_kind ≡ false → SpellsColourIf t colours events colour → Silent other events
colour-silent_if true other colours events colour e h = colours-lawful.silent other _ events colour e h
colour-silent_if false other colours events colour e h = subst (Silent other) (sym h.0) (Silent-none other)

-- ---- the four parts of a record
pub record Parts (t c : Bool) (points : List ChunkPoint) (e1 e2 e3 e4 : List Event) (now : Record) : Type 0 where
  pub point : SpellsPoint (points_of points) e1 now.point
  pub time : SpellsTimeIf t (times_of points) e2 now.time
  pub colour : SpellsColourIf c (colours_of points) e3 now.colour
  pub extra : SpellsExtra (latest_extra (extras_of points)) e4 now.extra

-- those after the point's are silent for its uses
after-point : (t c : Bool) (points : List ChunkPoint) (e1 e2 e3 e4 : List Event) (now : Record) → Parts t c points e1 e2 e3 e4 now → AllSilent point_kinds (e2 ++ (e3 ++ e4))
after-point t c points e1 e2 e3 e4 now p =
    all-silent point_kinds (time_kind ∷ rgb_kind ∷ byte_kind ∷ []) (e2 ++ (e3 ++ e4)) refl
    (λ kind none.
    let a = first-other kind time_kind (rgb_kind ∷ byte_kind ∷ []) none in
    let b = first-other kind rgb_kind (byte_kind ∷ []) a.1 in
    let d = first-other kind byte_kind ([]) b.1 in
    Silent-append kind e2 (e3 ++ e4) (time-silent_if t kind _ e2 _ a.0 p.time) (Silent-append kind e3 e4 (colour-silent_if c kind _ e3 _ b.0 p.colour) (extras-lawful.silent kind _ e4 _ d.0 p.extra)))

-- all items stand for one record more, if each stood for its own part at its place
pub parts-stand : (t c : Bool) (earlier : List Event) (points : List ChunkPoint) (e1 e2 e3 e4 : List Event) (now : Record) (items : Items) → Parts t c points e1 e2 e3 e4 now
    → PointStands (earlier ++ e1) (now.point ∷ points_of points) items.point10
    → TimesStand ((earlier ++ e1) ++ e2) (point_with now.time e2 ∷ times_of points) items.gps_time
    → ColoursStand (((earlier ++ e1) ++ e2) ++ e3) (now.colour ∷ colours_of points) items.rgb
    → ExtrasStand ((((earlier ++ e1) ++ e2) ++ e3) ++ e4) (now.extra ∷ extras_of points) items.extra
    → ItemsStand (earlier ++ (e1 ++ (e2 ++ (e3 ++ e4)))) (record { fields = now; events = e1 ++ (e2 ++ (e3 ++ e4)) } ∷ points) items
parts-stand t c earlier points e1 e2 e3 e4 now items p sp st sc sx =
    let whole : List Event = e1 ++ (e2 ++ (e3 ++ e4)) in
    let from1 : (earlier ++ e1) ++ (e2 ++ (e3 ++ e4)) ≡ earlier ++ whole = append_assoc earlier e1 (e2 ++ (e3 ++ e4)) in
    let from2 : ((earlier ++ e1) ++ e2) ++ (e3 ++ e4) ≡ earlier ++ whole = append_assoc (earlier ++ e1) e2 (e3 ++ e4) ∙ from1 in
    let from3 : (((earlier ++ e1) ++ e2) ++ e3) ++ e4 ≡ earlier ++ whole = append_assoc ((earlier ++ e1) ++ e2) e3 e4 ∙ from2 in
    let late : Silent time_kind (e3 ++ e4) = Silent-append time_kind e3 e4 (colour-silent_if c time_kind _ e3 _ refl p.colour) (extras-lawful.silent time_kind _ e4 _ refl p.extra) in
    record {
      point = subst (λ (l : List Event). PointStands l (now.point ∷ points_of points) items.point10) from1 (others-leave_points (earlier ++ e1) (e2 ++ (e3 ++ e4)) _ items.point10 (after-point t c points e1 e2 e3 e4 now p) sp);
      time =
          times-hold (earlier ++ whole) e1 e2 (e3 ++ e4) now.time (times_of points) items.gps_time (points-lawful.silent time_kind _ e1 _ refl p.point) late
          (subst (λ (l : List Event). TimesStand l (point_with now.time e2 ∷ times_of points) items.gps_time) from2 (times-leave ((earlier ++ e1) ++ e2) (e3 ++ e4) _ items.gps_time late st));
      colour =
          subst (λ (l : List Event). ColoursStand l (now.colour ∷ colours_of points) items.rgb) from3 (colours-leave (((earlier ++ e1) ++ e2) ++ e3) e4 _ items.rgb (extras-lawful.silent rgb_kind _ e4 _ refl p.extra) sc);
      extra = subst (λ (l : List Event). ExtrasStand l (now.extra ∷ extras_of points) items.extra) from3 sx;
    }

-- each item stands at its place before its own part
pub time-before : (earlier : List Event) (points : List ChunkPoint) (e1 : List Event) (v : Point) (item : Option TimeState) → SpellsPoint (points_of points) e1 v
    → TimesStand earlier (times_of points) item → TimesStand (earlier ++ e1) (times_of points) item
time-before earlier points e1 v item p h = times-leave earlier e1 (times_of points) item (points-lawful.silent time_kind _ e1 v refl p) h

pub colour-before : (t : Bool) (earlier : List Event) (points : List ChunkPoint) (e1 e2 : List Event) (v : Point) (w : ℕ) (item : Option RgbState) → SpellsPoint (points_of points) e1 v → SpellsTimeIf t (times_of points) e2 w
    → ColoursStand earlier (colours_of points) item → ColoursStand ((earlier ++ e1) ++ e2) (colours_of points) item
colour-before t earlier points e1 e2 v w item p q h =
    colours-leave (earlier ++ e1) e2 (colours_of points) item (time-silent_if t rgb_kind _ e2 w refl q) (colours-leave earlier e1 (colours_of points) item (points-lawful.silent rgb_kind _ e1 v refl p) h)

pub extra-before : (t c : Bool) (earlier : List Event) (points : List ChunkPoint) (e1 e2 e3 : List Event) (v : Point) (w : ℕ) (u : Colour) (item : Option ExtraState)
    → SpellsPoint (points_of points) e1 v → SpellsTimeIf t (times_of points) e2 w → SpellsColourIf c (colours_of points) e3 u
    → ExtrasStand earlier (extras_of points) item → ExtrasStand (((earlier ++ e1) ++ e2) ++ e3) (extras_of points) item
extra-before t c earlier points e1 e2 e3 v w u item p q r h =
    extras-leave ((earlier ++ e1) ++ e2) e3 (extras_of points) item (colour-silent_if c byte_kind _ e3 u refl r)
    (extras-leave (earlier ++ e1) e2 (extras_of points) item (time-silent_if t byte_kind _ e2 w refl q) (extras-leave earlier e1 (extras_of points) item (points-lawful.silent byte_kind _ e1 v refl p) h))
