-- One record more, in the loops over records.
use Rattle.std.proofs.Common.{◌≡◌, ℕ, ◌+◌, ◌*◌, ◌-◌, ◌<◌, ◌≤◌, List, [], ◌∷◌, ◌++◌, length, take, drop, Option, refl}
use Rattle.std.proofs.Common.{sym, ap, subst, ◌∙◌, arith}
use Rattle.std.proofs.lemmas.List.{length-drop, length-take-le}
use Rattle.laz_range.specs.Coding.{Coding, Codes, CodesInSteps}
use Rattle.laz_range.specs.Choice.{AreAsked, all_cuts, state_after}
use Rattle.laz_range.specs.Decoding.{Decoding, Takes}
use Rattle.laz_range.specs.Span.{IsBytes}
use Rattle.laz_range.proofs.Public.{Takes-step, state_after-push, IsBytes-drop, IsBytes-take}
use Rattle.laz_gpstime.specs.Slots.{TimeState}
use Rattle.laz_rgb.specs.Items.{RgbState}
use Rattle.laz_chunk.specs.declared.items.Items.{Items}
use Rattle.laz_chunk.specs.Layouts.{Layout, record_length}
use Rattle.laz_chunk.specs.Records.{Record, record_at, records_in}
use Rattle.laz_chunk.specs.Stands.{AreChunkPoints, ItemsStand, ReadsPart, extra_length, has, items_of, layout_in}
use Rattle.laz_chunk.specs.Chunks.{History, IsSpelled, Spelling, grown, record_cuts, spelled_records, writing, written}
use Rattle.laz_chunk.proofs.Lists.{after-push, codes-push, read-push, records-next}
use Rattle.laz_integer.proofs.Public.{place-is, place-within}
use Rattle.laz_chunk.proofs.Written.{points-more}

-- items whose times and colours are known
pub items-are :
    (items : Items) (times : Option TimeState) (colours : Option RgbState) → items.gps_time ≡ times →
    items.rgb ≡ colours → items ≡ items_of items.point10 times colours items.extra
items-are items times colours e f = rw (← e, ← f) refl

pub same-layout :
    (old new : Items) → has new.gps_time ≡ has old.gps_time → has new.rgb ≡ has old.rgb →
    extra_length new.extra ≡ extra_length old.extra → layout_in new ≡ layout_in old
same-layout old new e f h = rw (e, f, h) refl

abbrev pub part : ℕ → ℕ → List ℕ → List ℕ
part i size a = take (i * size + size - i * size) (drop (i * size) a)

-- part i of a list of equal parts is within the list
pub part_within : (i count size m long : ℕ) → size ≡ m → long ≡ m * count → i < count → i * size + size ≤ long
part_within i count size m long e all lt = subst (λ (n : ℕ). i * size + size ≤ n) (ap (λ (n : ℕ). n * count) e ∙ sym all) (place-within i count size lt)

pub part-length : (i count size m : ℕ) (a : List ℕ) → size ≡ m → length a ≡ m * count → i < count → length (part i size a) ≡ m
part-length i count size m a e long few =
    let within = place-within i count m few in
    let at : i * size ≡ i * m = ap (λ (n : ℕ). i * n) e in
    let all : i * size + size - i * size ≡ m = omega (arith, e) in
    length-take-le (i * size + size - i * size) (drop (i * size) a) (omega (arith, length-drop (i * size) a, long, within, at, e)) ∙ all

-- ---- coding
abbrev pub CodesRecord : Layout → Items → Items → Coding → Coding → List ℕ → Type 0
CodesRecord l old new a b bytes =
    (h : History) → AreChunkPoints l.extra h.1 → ItemsStand h.0 h.1 old
    → Codes a b (record_cuts h (writing l h (record_at l bytes))) × (let after = grown h (writing l h (record_at l bytes)) in ItemsStand after.0 after.1 new)

abbrev pub Stand : Layout → History → Items → Type 0
Stand l g items = AreChunkPoints l.extra g.1 × ItemsStand g.0 g.1 items

pub put-step : (l k : Layout) (h : History) (i count size : ℕ) (a : List ℕ) (old new : Items) (b e c d : Coding) → k ≡ l → size ≡ record_length l → length a ≡ record_length l * count → i < count → IsBytes a
    → CodesInSteps b e (all_cuts grown record_cuts h (written l h (records_in l i a))) → CodesInSteps e c [] → Stand l (state_after grown h (written l h (records_in l i a))) old → CodesRecord k old new c d (part i size a)
    → CodesInSteps b d (all_cuts grown record_cuts h (written l h (records_in l (i + 1) a))) × Stand l (state_after grown h (written l h (records_in l (i + 1) a))) new
put-step l k h i count size a old new b f c d at e long few small codes widened stands one =
    let m : ℕ = record_length l in
    let bytes : List ℕ = part i size a in
    let g : History = state_after grown h (written l h (records_in l i a)) in
    let own = part-length i count size m a e long few in
    let place : i * size ≡ m * i = ap (λ (n : ℕ). i * n) e ∙ place-is i m in
    let next : records_in l (i + 1) a ≡ records_in l i a ++ record_at l bytes ∷ [] = records-next l i (i * size) size a e place in
    let here = subst (λ (k : Layout). CodesRecord k old new c d bytes) at one g stands.0 stands.1 in
    let tiny : IsBytes bytes = IsBytes-take (i * size + size - i * size) (drop (i * size) a) (IsBytes-drop (i * size) a small) in
    let more = points-more l g.1 bytes (writing l g (record_at l bytes)).0 stands.0 own tiny in (
      codes-push l h (records_in l i a) (record_at l bytes) (records_in l (i + 1) a) b f c d next codes widened here.0,
      subst (λ (g : History). Stand l g new) (sym (after-push l h (records_in l i a) (record_at l bytes) (records_in l (i + 1) a) next)) (more, here.1),
    )

-- the room is as long after a record
pub put-more : (l k : Layout) (g : History) (a : List ℕ) (old new : Items) (c d : Coding) → k ≡ l → Stand l g old → CodesRecord k old new c d a → d.more ≡ c.more
put-more l k g a old new c d at stands one =
    let here = subst (λ (k : Layout). CodesRecord k old new c d a) at one g stands.0 stands.1 in
    here.0.more

-- ---- reading
abbrev pub ReadsRecord : Layout → History → Record → Items → Decoding → Decoding → Type 0
ReadsRecord l g now new b c = ReadsPart (IsSpelled l g) g.0 now b c (λ events. let after = grown g (events, now) in ItemsStand after.0 after.1 new)

pub take-step : (l : Layout) (h : History) (i : ℕ) (xs : List Spelling) (rs ss : List Record) (now : Record) (new : Items) (a b c : Decoding)
    → Takes (AreAsked grown (IsSpelled l) h i) (all_cuts grown record_cuts h) a b xs → spelled_records xs ≡ rs → ss ≡ rs ++ now ∷ [] → ReadsRecord l (state_after grown h xs) now new b c
    → (ys : List Spelling) × Takes (AreAsked grown (IsSpelled l) h (i + 1)) (all_cuts grown record_cuts h) a c ys × (spelled_records ys ≡ ss) × ItemsStand (state_after grown h ys).0 (state_after grown h ys).1 new
take-step l h i xs rs ss now new a b c f e next r =
    let x : Spelling = (r.events, now) in (
      xs ++ x ∷ [],
      Takes-step grown (IsSpelled l) record_cuts h (state_after grown h xs) i a b c xs x refl f r.takes,
      read-push xs x rs ss e next,
      subst (λ (k : History). ItemsStand k.0 k.1 new) (sym (state_after-push grown h xs x)) r.stands,
    )
