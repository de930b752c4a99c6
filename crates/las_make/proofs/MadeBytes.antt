-- A made file consists of bytes.
use Rattle.std.proofs.Common.{◌≡◌, inl, inr, ℕ, zero, suc, ◌+◌, ◌*◌, ◌%◌, ◌^◌, ◌<◌, nat_lt, Bool, true, false, cond, ltb-true, List, [], ◌∷◌, ◌++◌, length, get_or, map, codes, replicate, refl, arith, lit<}
use Rattle.std.specs.List.{concat, list_all, range_with_len}
use Rattle.std.proofs.Math.Nat.{mod-lt}
use Rattle.std.proofs.lemmas.Bool.{cases_lt}
use Rattle.std.proofs.lemmas.List.{get_or_past}
use Rattle.std.proofs.lemmas.List.Sums.{AllPass-from_list_all}
use Rattle.byteorder.specs.Endian.{little_bytes}
use Rattle.laz_range.specs.Span.{IsBytes}
use Rattle.laz_table.proofs.Public.{IsBytes-append, IsBytes-little}
use Rattle.las_make.specs.declared.drawing.Draws.{Draws}
use Rattle.las_make.specs.declared.settings.Settings.{Settings}
use Rattle.las_make.specs.Records.{base_fields, class_made, colour_fields, extra_bytes, flags_made, green_made, intensity_made, record_bytes, red_made, returns_made, time_field, x_made, y_made, z_made}
use Rattle.las_make.specs.Made.{blank_head, made_length, made_record, records_from, scale_bytes}
use Rattle.las_make.proofs.Steps.{drawn_for}
use Rattle.las_header.specs.Fields.{has_colours, has_time}

no-bytes : IsBytes []
no-bytes i = lit< tt

cons-bytes : (x : ℕ) (xs : List ℕ) → x < 256 → IsBytes xs → IsBytes (x ∷ xs)
cons-bytes x xs small rest zero = small
cons-bytes x xs small rest (suc i) = rest i

-- by a test that computes
tested-bytes : (xs : List ℕ) → list_all (λ b. nat_lt b 256) xs ≡ true → IsBytes xs
tested-bytes xs all i = elim (cases_lt i (length xs)) [
  | inl within ↦ ltb-true (get_or xs i 0) 256 (AllPass-from_list_all (λ b. nat_lt b 256) xs all i 0 within)
  | inr past ↦ rw (get_or_past xs i 0 past) (lit< tt)
]

if-bytes : (b : Bool) (xs : List ℕ) → IsBytes xs → IsBytes (cond b xs [])
if-bytes true xs are = are
if-bytes false xs are = no-bytes

-- ---- the head

pub blank-bytes : (s : Settings) → s.format < 256 → IsBytes (blank_head s)
unfolding blank_head
blank-bytes s small =
    let front = codes "LASF" ++ replicate 20 0 ++ 1 ∷ 2 ∷ [] ++ replicate 68 0 ++ little_bytes 2 227 ++ little_bytes 4 227 ++ little_bytes 4 0 in
    let rest = replicate 24 0 ++ scale_bytes ++ scale_bytes ++ scale_bytes ++ replicate 72 0 in
    let size = little_bytes 2 (made_length s) in
    let middle = cons-bytes s.format (size ++ rest) small (IsBytes-append size rest (IsBytes-little 2 (made_length s)) (tested-bytes rest refl)) in
    IsBytes-append front (s.format ∷ (size ++ rest)) (tested-bytes front refl) middle

-- ---- records

flags-small : (k : ℕ) (d : Draws) → flags_made k d < 256
flags-small k d =
    let some : 0 < returns_made d = omega arith in
    let number : d.number % returns_made d < returns_made d = mod-lt d.number some in
    omega (arith, number)

base-bytes : (k : ℕ) (d : Draws) → IsBytes (base_fields k d)
unfolding base_fields
base-bytes k d =
    let x = little_bytes 4 (x_made k d) in
    let y = little_bytes 4 (y_made k d) in
    let z = little_bytes 4 (z_made d) in
    let i = little_bytes 2 (intensity_made d) in
    let rest = flags_made k d ∷ class_made d ∷ 0 ∷ 0 ∷ [] in
    let class : class_made d < 256 = omega arith in
    let last = cons-bytes (flags_made k d) (class_made d ∷ 0 ∷ 0 ∷ []) (flags-small k d) (cons-bytes (class_made d) (0 ∷ 0 ∷ []) class (tested-bytes (0 ∷ 0 ∷ []) refl)) in
    let xy = IsBytes-append x y (IsBytes-little 4 (x_made k d)) (IsBytes-little 4 (y_made k d)) in
    let xyz = IsBytes-append (x ++ y) z xy (IsBytes-little 4 (z_made d)) in
    let all = IsBytes-append (x ++ y ++ z) i xyz (IsBytes-little 2 (intensity_made d)) in
    IsBytes-append (x ++ y ++ z ++ i ++ rest) (little_bytes 2 1) (IsBytes-append (x ++ y ++ z ++ i) rest all last) (IsBytes-little 2 1)

colours-bytes : (format : ℕ) (d : Draws) → IsBytes (colour_fields format d)
colours-bytes format d =
    let red = little_bytes 2 (red_made d) in
    let green = little_bytes 2 (green_made d) in
    if-bytes (has_colours format) (red ++ green ++ red) (IsBytes-append (red ++ green) red (IsBytes-append red green (IsBytes-little 2 (red_made d)) (IsBytes-little 2 (green_made d))) (IsBytes-little 2 (red_made d)))

extra-bytes : (k from n : ℕ) → IsBytes (map (λ j. (k + j) % 256) (range_with_len from n))
extra-bytes k from zero = no-bytes
extra-bytes k from (suc n) = cons-bytes ((k + from) % 256) (map (λ j. (k + j) % 256) (range_with_len (from + 1) n)) (omega arith) (extra-bytes k (from + 1) n)

record-bytes : (format extra k : ℕ) (d : Draws) → IsBytes (record_bytes format extra k d)
unfolding record_bytes
record-bytes format extra k d =
    let base = base_fields k d in
    let time = time_field format k in
    let colours = colour_fields format d in
    IsBytes-append (base ++ time ++ colours) (extra_bytes extra k)
    (IsBytes-append (base ++ time) colours (IsBytes-append base time (base-bytes k d) (if-bytes (has_time format) (little_bytes 8 (2 ^ 62 + 40000 * k)) (IsBytes-little 8 (2 ^ 62 + 40000 * k)))) (colours-bytes format d))
    (extra-bytes k 0 extra)

one-bytes : (s : Settings) (k : ℕ) → IsBytes (made_record s k)
unfolding made_record
one-bytes s k = record-bytes s.format s.extra k (drawn_for s k)

pub records-bytes : (s : Settings) (from n : ℕ) → IsBytes (concat (records_from s from n))
records-bytes s from zero = no-bytes
records-bytes s from (suc n) = IsBytes-append (made_record s from) (concat (records_from s (from + 1) n)) (one-bytes s from) (records-bytes s (from + 1) n)
