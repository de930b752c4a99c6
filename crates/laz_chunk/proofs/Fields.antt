-- The fields of records in bytes, and that two records with the same fields are the same bytes.
use Rattle.std.proofs.Common.{◌≡◌, ℕ, zero, suc, ◌*◌, ◌<◌, Bool, true, false, List, [], ◌∷◌, ◌++◌, length, take, drop, refl, sym, ap, ◌∙◌, arith, lit<, lit≤}
use Rattle.std.specs.Int.{w64, from_le_bytes}
use Rattle.std.proofs.Math.Facts.{sfits_to_z}
use Rattle.std.proofs.lemmas.Nat.{le_bytes_8}
use Rattle.std.proofs.lemmas.List.{append-nil, length-drop, length-take-le}
use Rattle.byteorder.specs.Numbers.{little_from-lt}
use Rattle.byteorder.proofs.Bytes.{from_le_bytes-put_mid8}
use Rattle.las_header.specs.Numbers.{number_at}
use Rattle.laz_range.specs.Span.{IsBytes}
use Rattle.laz_range.proofs.Public.{IsBytes-drop, IsBytes-take}
use Rattle.laz_point10.specs.Points.{IsPoint, point_at}
use Rattle.laz_point10.proofs.Public.{parts-of-points}
use Rattle.laz_gpstime.specs.Times.{time_at}
use Rattle.laz_rgb.specs.Colours.{colour_at, colour_bytes}
use Rattle.laz_chunk.specs.Layouts.{Layout, colour_length, record_length, time_length}
use Rattle.laz_chunk.specs.Records.{Record, colour_in, colour_part, extra_part, point_part, record_at, records_in, time_in, time_part}
use Rattle.laz_chunk.specs.Stands.{IsRecord}
use Rattle.laz_integer.proofs.Public.{by-parts, no-elements, next_suc}

-- ---- what bytes give
point-fits : (a : List ℕ) → IsBytes a → IsPoint (point_at a)
unfolding number_at
point-fits a h =
    record {
      x = sfits_to_z (record { fits = omega (arith, little_from-lt 0 4 a h) });
      y = sfits_to_z (record { fits = omega (arith, little_from-lt 4 4 a h) });
      z = sfits_to_z (record { fits = omega (arith, little_from-lt 8 4 a h) });
      intensity = omega (arith, little_from-lt 12 2 a h);
      flags = h 14;
      classification = h 15;
      scan_angle = h 16;
      user_data = h 17;
      point_source = omega (arith, little_from-lt 18 2 a h);
    }

time-below : (a : List ℕ) → length a ≡ 8 → IsBytes a → time_at a < 18446744073709551616
time-below a size h =
    let at : from_le_bytes w64 (a ++ []) ≡ _ = from_le_bytes-put_mid8 a 8 (lit≤ tt) size in
    let same : from_le_bytes w64 a ≡ _ = ap (from_le_bytes w64) (sym (append-nil a)) ∙ at in
    omega (arith, same, little_from-lt 0 8 a h)

time-below_if : (t : Bool) (a : List ℕ) → length a ≡ time_length t → IsBytes a → time_in t a < 18446744073709551616
time-below_if true a size h = time-below a size h
time-below_if false a size h = lit< tt

colour-bytes : (a : List ℕ) → IsBytes a → IsBytes (colour_bytes (colour_at a))
colour-bytes a h zero = h 0
colour-bytes a h (suc zero) = h 1
colour-bytes a h (suc (suc zero)) = h 2
colour-bytes a h (suc (suc (suc zero))) = h 3
colour-bytes a h (suc (suc (suc (suc zero)))) = h 4
colour-bytes a h (suc (suc (suc (suc (suc zero))))) = h 5
colour-bytes a h (suc (suc (suc (suc (suc (suc i)))))) = lit< tt

IsBytes-none : IsBytes []
IsBytes-none i = lit< tt

colour-bytes_if : (t : Bool) (a : List ℕ) → IsBytes a → IsBytes (colour_bytes (colour_in t a))
colour-bytes_if true a h = colour-bytes a h
colour-bytes_if false a h = colour-bytes [] IsBytes-none

pub record PartLengths (l : Layout) (a : List ℕ) : Type 0 where
  pub point : length (point_part a) ≡ 20
  pub time : length (time_part l a) ≡ time_length l.times
  pub colour : length (colour_part l a) ≡ colour_length l.colours
  pub extra : length (extra_part l a) ≡ l.extra

pub part-lengths : (l : Layout) (a : List ℕ) → length a ≡ record_length l → PartLengths l a
part-lengths l a size =
    let b = length-drop 20 a in
    let c = length-drop (time_length l.times) (drop 20 a) in
    let d = length-drop (colour_length l.colours) (drop (time_length l.times) (drop 20 a)) in
    record {
      point = length-take-le 20 a (omega (arith, size));
      time = length-take-le (time_length l.times) (drop 20 a) (omega (arith, size, b));
      colour = length-take-le (colour_length l.colours) (drop (time_length l.times) (drop 20 a)) (omega (arith, size, b, c));
      extra = omega (arith, size, b, c, d);
    }

pub record-fits : (l : Layout) (a : List ℕ) → length a ≡ record_length l → IsBytes a → IsRecord (record_at l a)
record-fits l a size h =
    let rest = IsBytes-drop 20 a h in
    let more = IsBytes-drop (time_length l.times) (drop 20 a) rest in
    record {
      point = point-fits (point_part a) (IsBytes-take 20 a h);
      time = time-below_if l.times (time_part l a) (part-lengths l a size).time (IsBytes-take (time_length l.times) (drop 20 a) rest);
      colour = colour-bytes_if l.colours (colour_part l a) (IsBytes-take (colour_length l.colours) (drop (time_length l.times) (drop 20 a)) more);
      extra = (IsBytes-drop (colour_length l.colours) (drop (time_length l.times) (drop 20 a)) more);
    }

-- ---- two parts with one value
time-one : (a b : List ℕ) → length a ≡ 8 → length b ≡ 8 → IsBytes a → IsBytes b → time_at a ≡ time_at b → a ≡ b
time-one a b la lb f g e = sym (le_bytes_8 a (time_at a) la f refl) ∙ le_bytes_8 b (time_at a) lb g e

time-one_if : (t : Bool) (a b : List ℕ) → length a ≡ time_length t → length b ≡ time_length t → IsBytes a → IsBytes b → time_in t a ≡ time_in t b → a ≡ b
time-one_if true a b la lb f g e = time-one a b la lb f g e
time-one_if false a b la lb f g e = no-elements a b la lb

six : (a : List ℕ) → length a ≡ 6 → a ≡ colour_bytes (colour_at a)
six (p ∷ q ∷ r ∷ s ∷ t ∷ u ∷ []) e = refl
six [] e = absurd (omega (arith, e))
six (p ∷ []) e = absurd (omega (arith, e))
six (p ∷ q ∷ []) e = absurd (omega (arith, e))
six (p ∷ q ∷ r ∷ []) e = absurd (omega (arith, e))
six (p ∷ q ∷ r ∷ s ∷ []) e = absurd (omega (arith, e))
six (p ∷ q ∷ r ∷ s ∷ t ∷ []) e = absurd (omega (arith, e))
six (p ∷ q ∷ r ∷ s ∷ t ∷ u ∷ v ∷ a) e = absurd (omega (arith, e))

colour-one_if : (t : Bool) (a b : List ℕ) → length a ≡ colour_length t → length b ≡ colour_length t → colour_in t a ≡ colour_in t b → a ≡ b
colour-one_if true a b la lb e = six a la ∙ (ap colour_bytes e ∙ sym (six b lb))
colour-one_if false a b la lb e = no-elements a b la lb

pub record-one : (l : Layout) (a b : List ℕ) → length a ≡ record_length l → length b ≡ record_length l → IsBytes a → IsBytes b → record_at l a ≡ record_at l b → a ≡ b
record-one l a b la lb f g e =
    let pa = part-lengths l a la in
    let pb = part-lengths l b lb in
    let fa = IsBytes-drop 20 a f in
    let ga = IsBytes-drop 20 b g in
    let extra : extra_part l a ≡ extra_part l b = ap (λ (r : Record). r.extra) e in
    let colour : colour_part l a ≡ colour_part l b = colour-one_if l.colours (colour_part l a) (colour_part l b) pa.colour pb.colour (ap (λ (r : Record). r.colour) e) in
    let time : time_part l a ≡ time_part l b =
    time-one_if l.times (time_part l a) (time_part l b) pa.time pb.time (IsBytes-take (time_length l.times) (drop 20 a) fa) (IsBytes-take (time_length l.times) (drop 20 b) ga) (ap (λ (r : Record). r.time) e) in
    let point : take 20 a ≡ take 20 b =
    parts-of-points (take 20 a) (take 20 b) (record { length = pa.point; bytes = IsBytes-take 20 a f }) (record { length = pb.point; bytes = IsBytes-take 20 b g }) (ap (λ (r : Record). r.point) e) in
    by-parts 20 a b point
    (by-parts (time_length l.times) (drop 20 a) (drop 20 b) time (by-parts (colour_length l.colours) (drop (time_length l.times) (drop 20 a)) (drop (time_length l.times) (drop 20 b)) colour extra))

-- ---- records
cons_records : (r s : Record) (rs ss : List Record) → r ∷ rs ≡ s ∷ ss → (r ≡ s) × (rs ≡ ss)
cons_records r s rs ss e = (cc, cc)

pub records-one : (l : Layout) (n : ℕ) (a b : List ℕ) → length a ≡ record_length l * n → length b ≡ record_length l * n → IsBytes a → IsBytes b → records_in l n a ≡ records_in l n b → a ≡ b
records-one l zero a b la lb f g e = no-elements a b (omega (arith, la)) (omega (arith, lb))
records-one l (suc n) a b la lb f g e =
    let p = cons_records _ _ _ _ e in
    let m : ℕ = record_length l in
    let step = next_suc n m in
    let first = record-one l (take m a) (take m b) (length-take-le m a (omega (arith, la, step))) (length-take-le m b (omega (arith, lb, step))) (IsBytes-take m a f) (IsBytes-take m b g) p.0 in
    by-parts m a b first (records-one l n (drop m a) (drop m b) (omega (arith, la, step, length-drop m a)) (omega (arith, lb, step, length-drop m b)) (IsBytes-drop m a f) (IsBytes-drop m b g) p.1)
