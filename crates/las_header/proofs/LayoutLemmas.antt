-- Heads with a VLR more or a VLR fewer: their fields, their VLRs, and that they are heads.
use Rattle.las_header.specs.Refusals.{has_bad_counts}
use Rattle.std.proofs.Common.{◌≡◌, ℕ, ◌+◌, ◌<◌, ◌≤◌, ◌^◌, ◌==◌, ◌&&◌, ◌%◌, nat_le, nat_eq, Bool, true, false, cond, List, [], ◌∷◌, ◌++◌, length, take, drop, codes, slice_index, refl, sym, ap, ◌∙◌, subst, arith, length-append, length-drop, append_assoc, not, ◌||◌}
use Rattle.std.proofs.lemmas.List.{take-take, drop_at, drop-drop, drop-take, length-take-le, get_or-take, get_or-drop}
use Rattle.std.specs.List.{splice, starts_with}
use Rattle.byteorder.specs.Endian.{little_bytes}
use Rattle.las_header.specs.Numbers.{number_at}
use Rattle.las_header.specs.Fields.{minor_of, header_size_of, least_header_size, point_offset_of, vlr_count_of, format_byte_of, format_of, format_size, record_length_of, has_long_counts, short_points_of, long_points_of, points_of}
use Rattle.las_header.specs.Vlrs.{vlr_start}
use Rattle.las_header.specs.Heads.{IsHead, laszip_size, SameRecords}
use Rattle.las_header.specs.Plain.{with_layout}
use Rattle.las_header.proofs.NumberLemmas.{number_at-take, number_at-part, number_at-drop, take-splice, drop-splice, length-splice, reads_back}
use Rattle.las_header.proofs.VlrLemmas.{SameIn}
use Rattle.las_header.proofs.CauseLemmas.{least_any, least_block}

-- nine bytes for the offset, the number of VLRs and the format byte
abbrev pub layout_bytes : (offset count format : ℕ) → List ℕ
layout_bytes offset count format = little_bytes 4 offset ++ (little_bytes 4 count ++ format ∷ [])

length-splice_any : (xs : List ℕ) (i j : ℕ) (ys : List ℕ) → i ≤ j → j ≤ length xs → length (splice xs i j ys) + j ≡ length xs + i + length ys
length-splice_any xs i j ys order within =
    omega (arith, length-append (take i xs) (ys ++ drop j xs), length-append ys (drop j xs), length-drop j xs, length-take-le i xs (omega arith))

pub take-splice_le : (n : ℕ) (xs : List ℕ) (i j : ℕ) (ys : List ℕ) → n ≤ i → i ≤ length xs → take n (splice xs i j ys) ≡ take n xs
take-splice_le n xs i j ys before within =
    sym (take-take n i (splice xs i j ys) before) ∙ ap (λ (zs : List ℕ). take n zs) (take-splice xs i j ys within) ∙ take-take n i xs before

-- what stands from the replaced part on
pub drop_part : (xs : List ℕ) (i j : ℕ) (ys : List ℕ) → i ≤ length xs → drop i (splice xs i j ys) ≡ ys ++ drop j xs
drop_part xs i j ys within = drop_at (take i xs) (ys ++ drop j xs) i (length-take-le i xs within)

-- what stands after it
pub drop_after : (xs : List ℕ) (i j : ℕ) (ys : List ℕ) → i ≤ length xs → drop (i + length ys) (splice xs i j ys) ≡ drop j xs
drop_after xs i j ys within =
    sym (drop-drop (length ys) i (splice xs i j ys)) ∙ ap (λ (zs : List ℕ). drop (length ys) zs) (drop_part xs i j ys within)
    ∙ drop_at ys (drop j xs) (length ys) refl

-- bytes between two places before the replaced part
part_before : (a k : ℕ) (xs : List ℕ) (i j : ℕ) (ys : List ℕ) → a + k ≤ i → i ≤ length xs → take k (drop a (splice xs i j ys)) ≡ take k (drop a xs)
part_before a k xs i j ys before within =
    sym (drop-take a k (splice xs i j ys)) ∙ ap (λ (zs : List ℕ). drop a zs) (take-splice_le (a + k) xs i j ys before within) ∙ drop-take a k xs

-- A head with another list of VLRs: `middle` is the head with a part from `from` on replaced, and the nine bytes set then.
pub record IsRelaid (old new : List ℕ) (from to : ℕ) (piece : List ℕ) (offset count format : ℕ) : Type 0 where
  pub is : new ≡ with_layout offset count format (splice old from to piece)
  pub head : IsHead old
  pub after : header_size_of old ≤ from
  pub order : from ≤ to
  pub end : to ≤ length old

pub size_relaid : {old new : List ℕ} {from to : ℕ} {piece : List ℕ} {offset count format : ℕ} → IsRelaid old new from to piece offset count format → length new + to ≡ length old + from + length piece
size_relaid {old = old} {new = new} {from = from} {to = to} {piece = piece} {offset = offset} {count = count} {format = format} r =
    let least = least_any (minor_of old) in
    let header = r.head.header_size in
    let middle = length-splice_any old from to piece r.order r.end in
    let whole : length new ≡ length (splice old from to piece) =
    ap length r.is ∙ length-splice (splice old from to piece) 96 105 (layout_bytes offset count format) refl (omega (arith, r.after, r.end, r.order)) in
    omega (arith)

pub front_relaid : {old new : List ℕ} {from to : ℕ} {piece : List ℕ} {offset count format : ℕ} → IsRelaid old new from to piece offset count format → take 96 new ≡ take 96 old
front_relaid {old = old} {from = from} {to = to} {piece = piece} {offset = offset} {count = count} {format = format} r =
    let least = least_any (minor_of old) in
    let header = r.head.header_size in
    let middle = length-splice_any old from to piece r.order r.end in
    ap (λ (zs : List ℕ). take 96 zs) r.is ∙ take-splice (splice old from to piece) 96 105 (layout_bytes offset count format) (omega (arith, r.after, r.end, r.order))
    ∙ take-splice_le 96 old from to piece (omega (arith, r.after)) (omega (arith, r.order, r.end))

pub number_front : (width at : ℕ) (old new : List ℕ) → take 96 new ≡ take 96 old → at + width ≤ 96 → number_at width at new ≡ number_at width at old
number_front width at old new same within =
    sym (number_at-take width at 96 new within) ∙ ap (number_at width at) same ∙ number_at-take width at 96 old within

byte_front : (k : ℕ) (old new : List ℕ) → take 96 new ≡ take 96 old → k < 96 → slice_index new k ≡ slice_index old k
byte_front k old new same within =
    sym (get_or-take 96 new k 0 within) ∙ ap (λ (zs : List ℕ). slice_index zs k) same ∙ get_or-take 96 old k 0 within

signature_part : (xs : List ℕ) → starts_with nat_eq (take 96 xs) (codes "LASF") ≡ starts_with nat_eq xs (codes "LASF")
signature_part xs = rw (take-take 4 96 xs (omega arith)) refl

-- from the nine bytes on
drop_relaid : {old new : List ℕ} {from to : ℕ} {piece : List ℕ} {offset count format : ℕ} → IsRelaid old new from to piece offset count format
    → drop 96 new ≡ layout_bytes offset count format ++ drop 105 (splice old from to piece)
drop_relaid {old = old} {from = from} {to = to} {piece = piece} {offset = offset} {count = count} {format = format} r =
    let least = least_any (minor_of old) in
    let header = r.head.header_size in
    let middle = length-splice_any old from to piece r.order r.end in
    ap (λ (zs : List ℕ). drop 96 zs) r.is ∙ drop_part (splice old from to piece) 96 105 (layout_bytes offset count format) (omega (arith, r.after, r.end, r.order))

pub offset_relaid : {old new : List ℕ} {from to : ℕ} {piece : List ℕ} {offset count format : ℕ} → IsRelaid old new from to piece offset count format → offset < 2 ^ 32
    → point_offset_of new ≡ offset
offset_relaid {old = old} {new = new} {from = from} {to = to} {piece = piece} {offset = offset} {count = count} {format = format} r fits =
    number_at-drop 4 96 new ∙ ap (number_at 4 0) (drop_relaid r ∙ append_assoc (little_bytes 4 offset) (little_bytes 4 count ++ format ∷ []) (drop 105 (splice old from to piece)))
    ∙ reads_back 4 offset ((little_bytes 4 count ++ format ∷ []) ++ drop 105 (splice old from to piece)) fits

pub count_relaid : {old new : List ℕ} {from to : ℕ} {piece : List ℕ} {offset count format : ℕ} → IsRelaid old new from to piece offset count format → count < 2 ^ 32
    → vlr_count_of new ≡ count
count_relaid {old = old} {new = new} {from = from} {to = to} {piece = piece} {offset = offset} {count = count} {format = format} r fits =
    number_at-drop 4 100 new ∙ ap (number_at 4 0) (sym (drop-drop 4 96 new) ∙ ap (λ (zs : List ℕ). drop 4 zs) (drop_relaid r))
    ∙ reads_back 4 count (format ∷ drop 105 (splice old from to piece)) fits

pub byte_relaid : {old new : List ℕ} {from to : ℕ} {piece : List ℕ} {offset count format : ℕ} → IsRelaid old new from to piece offset count format → format_byte_of new ≡ format
byte_relaid {new = new} r = sym (get_or-drop 96 new 8 0) ∙ ap (λ (zs : List ℕ). slice_index zs 8) (drop_relaid r)

pub after_relaid : {old new : List ℕ} {from to : ℕ} {piece : List ℕ} {offset count format : ℕ} → IsRelaid old new from to piece offset count format
    → (a : ℕ) → 105 ≤ a → drop a new ≡ drop a (splice old from to piece)
after_relaid {old = old} {from = from} {to = to} {piece = piece} {offset = offset} {count = count} {format = format} r a after =
    let least = least_any (minor_of old) in
    let header = r.head.header_size in
    let middle = length-splice_any old from to piece r.order r.end in
    ap (λ (zs : List ℕ). drop a zs) r.is
    ∙ drop-splice (splice old from to piece) 96 105 a (layout_bytes offset count format) refl (omega (arith, r.after, r.end, r.order)) after

pub same_relaid : {old new : List ℕ} {from to : ℕ} {piece : List ℕ} {offset count format : ℕ} → IsRelaid old new from to piece offset count format
    → (a k : ℕ) → 105 ≤ a → a + k ≤ from → take k (drop a new) ≡ take k (drop a old)
same_relaid {old = old} {from = from} {to = to} {piece = piece} r a k after within =
    ap (λ (zs : List ℕ). take k zs) (after_relaid r a after) ∙ part_before a k old from to piece within (omega (arith, r.order, r.end))

pub number_relaid : {old new : List ℕ} {from to : ℕ} {piece : List ℕ} {offset count format : ℕ} → IsRelaid old new from to piece offset count format
    → (width at : ℕ) → 105 ≤ at → at + width ≤ from → number_at width at new ≡ number_at width at old
number_relaid {old = old} {new = new} r width at after within =
    number_at-part width at new ∙ ap (number_at width 0) (same_relaid r at width after within) ∙ sym (number_at-part width at old)

pub header_relaid : {old new : List ℕ} {from to : ℕ} {piece : List ℕ} {offset count format : ℕ} → IsRelaid old new from to piece offset count format
    → header_size_of new ≡ header_size_of old
header_relaid {old = old} {new = new} r = number_front 2 94 old new (front_relaid r) (omega arith)

-- the VLRs before the replaced part stay
pub vlrs_relaid : {old new : List ℕ} {from to : ℕ} {piece : List ℕ} {offset count format : ℕ} → IsRelaid old new from to piece offset count format
    → SameIn (header_size_of old) from old new
vlrs_relaid {old = old} r a k after within =
    let least = least_any (minor_of old) in
    let header = r.head.header_size in
    same_relaid r a k (omega arith) within

same_if : (b c : Bool) (x z y : ℕ) → (b ≡ true → x ≡ z) → cond (b && c) x y ≡ cond (b && c) z y
same_if true true x z y same = same refl
same_if true false x z y same = refl
same_if false c x z y same = refl

short_relaid : {old new : List ℕ} {from to : ℕ} {piece : List ℕ} {offset count format : ℕ} → IsRelaid old new from to piece offset count format
    → short_points_of new ≡ short_points_of old
short_relaid {old = old} r =
    let least = least_any (minor_of old) in
    number_relaid r 4 107 (omega arith) (omega (arith, r.after, r.head.header_size))

long_relaid : {old new : List ℕ} {from to : ℕ} {piece : List ℕ} {offset count format : ℕ} → IsRelaid old new from to piece offset count format
    → has_long_counts old ≡ true → long_points_of new ≡ long_points_of old
long_relaid {old = old} r long = number_relaid r 8 247 (omega arith) (omega (arith, least_block (minor_of old) long, r.after, r.head.header_size))

minor_relaid : {old new : List ℕ} {from to : ℕ} {piece : List ℕ} {offset count format : ℕ} → IsRelaid old new from to piece offset count format
    → minor_of new ≡ minor_of old
minor_relaid {old = old} {new = new} r = byte_front 25 old new (front_relaid r) (omega arith)

pub points_relaid : {old new : List ℕ} {from to : ℕ} {piece : List ℕ} {offset count format : ℕ} → IsRelaid old new from to piece offset count format
    → points_of new ≡ points_of old
points_relaid {old = old} {new = new} r =
    ap (λ (m : ℕ). cond ((m == 4) && (short_points_of new == 0)) (long_points_of new) (short_points_of new)) (minor_relaid r)
    ∙ ap (λ (n : ℕ). cond (has_long_counts old && (n == 0)) (long_points_of new) n) (short_relaid r)
    ∙ same_if (has_long_counts old) (short_points_of old == 0) (long_points_of new) (long_points_of old) (short_points_of old) (long_relaid r)

same_and : (b : Bool) (f : ℕ → Bool) (x z : ℕ) → (b ≡ true → x ≡ z) → (b && f x) ≡ (b && f z)
same_and true f x z same = ap f (same refl)
same_and false f x z same = refl

counts_relaid : {old new : List ℕ} {from to : ℕ} {piece : List ℕ} {offset count format : ℕ} → IsRelaid old new from to piece offset count format
    → has_bad_counts new ≡ has_bad_counts old
counts_relaid {old = old} {new = new} r =
    let differ = λ (s l : ℕ). let b : Bool = nat_le (2 ^ 32) l || (not (s == 0) && not (l == 0) && not (s == l)) in b in
    ap (λ (m : ℕ). (m == 4) && differ (short_points_of new) (long_points_of new)) (minor_relaid r)
    ∙ ap (λ (s : ℕ). has_long_counts old && differ s (long_points_of new)) (short_relaid r)
    ∙ same_and (has_long_counts old) (differ (short_points_of old)) (long_points_of new) (long_points_of old) (long_relaid r)

pub records_relaid : {old new : List ℕ} {from to : ℕ} {piece : List ℕ} {offset count format : ℕ} → IsRelaid old new from to piece offset count format
    → format % 128 ≡ format_of old → SameRecords old new
records_relaid {old = old} r same_format =
    let least = least_any (minor_of old) in
    record {
      format = ap (λ (b : ℕ). b % 128) (byte_relaid r) ∙ same_format;
      record_length = number_relaid r 2 105 (omega arith) (omega (arith, r.after, r.head.header_size));
    }

-- the new list is a head, if its offset, its VLRs and its format are right
pub relaid_head : {old new : List ℕ} {from to : ℕ} {piece : List ℕ} {offset count format : ℕ} → IsRelaid old new from to piece offset count format
    → offset ≡ length new → offset < 2 ^ 32 → count < 2 ^ 32 → format % 128 ≡ format_of old → vlr_start count new ≤ length new
    → length new ≤ 16777216 + laszip_size new → IsHead new
relaid_head {old = old} {new = new} {from = from} {offset = offset} {count = count} {format = format} r whole fits few same_format inside near =
    let is = r.head in
    let least = least_any (minor_of old) in
    let header_size = is.header_size in
    let front = front_relaid r in
    let minor : minor_of new ≡ minor_of old = byte_front 25 old new front (omega arith) in
    let header = header_relaid r in
    let new_format : format_of new ≡ format_of old = ap (λ (b : ℕ). b % 128) (byte_relaid r) ∙ same_format in
    let record_length : record_length_of new ≡ record_length_of old = number_relaid r 2 105 (omega arith) (omega (arith, r.after)) in
    let size = size_relaid r in
    let before : header_size_of old ≤ length new = omega (arith, r.after, r.end, r.order) in
    let was_long = λ (h : has_long_counts new ≡ true). let l : has_long_counts old ≡ true = ap (λ (m : ℕ). m == 4) (sym minor) ∙ h in l in
    let far = λ (h : has_long_counts old ≡ true). let l : 375 ≤ header_size_of old = omega (arith, least_block (minor_of old) h) in l in
    let points = points_relaid r in
    let counts = counts_relaid r in
    record {
      block = omega arith;
      long_block = λ h. omega (arith, far (was_long h));
      signature = sym (signature_part new) ∙ ap (λ (zs : List ℕ). starts_with nat_eq zs (codes "LASF")) front ∙ signature_part old ∙ is.signature;
      major = byte_front 24 old new front (omega arith) ∙ is.major;
      minor = omega (arith, minor, is.minor);
      header_size = subst (λ (m : ℕ). least_header_size m ≤ header_size_of new) (sym minor) (omega (arith, header, header_size));
      whole = offset_relaid r fits ∙ whole;
      vlrs = subst (λ (n : ℕ). vlr_start n new ≤ length new) (sym (count_relaid r few)) inside;
      format = omega (arith, new_format, is.format);
      record_length = subst (λ (f : ℕ). format_size f ≤ record_length_of new) (sym new_format) (omega (arith, record_length, is.record_length));
      extra = subst (λ (f : ℕ). record_length_of new ≤ format_size f + 192) (sym new_format) (omega (arith, record_length, is.extra));
      extended = λ h. number_relaid r 4 243 (omega arith) (omega (arith, far (was_long h), r.after)) ∙ is.extended (was_long h);
      counts = counts ∙ is.counts;
      points = omega (arith, points, is.points);
      small = omega (arith, whole, fits);
      near = near;
    }
