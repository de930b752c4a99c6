-- A head with other counts is a head.
use Rattle.std.proofs.lemmas.Bool.{lt-leb, and_left}
use Rattle.std.proofs.Common.{◌≡◌, ℕ, ◌+◌, ◌<◌, ◌≤◌, ◌^◌, ◌==◌, ◌&&◌, ◌%◌, nat_le, nat_eq, Bool, true, false, cond, List, length, take, drop, codes, slice_index, refl, sym, ap, ◌∙◌, subst, arith, not, ◌||◌, eq-eqb}
use Rattle.std.proofs.lemmas.List.{take-take, get_or-take}
use Rattle.std.specs.List.{splice, starts_with, flat_map}
use Rattle.std.proofs.Math.Bool.{and-false}
use Rattle.byteorder.specs.Endian.{little_bytes}
use Rattle.las_header.specs.declared.vlrs.VlrPlace.{VlrPlace}
use Rattle.las_header.specs.Numbers.{number_at}
use Rattle.las_header.specs.Fields.{minor_of, header_size_of, least_header_size, point_offset_of, vlr_count_of, is_packed, format_of, format_size, record_length_of, has_long_counts, extended_count_of, short_points_of, long_points_of, points_of}
use Rattle.las_header.specs.Vlrs.{vlr_start, vlrs_end, laszip_vlrs_of, first_size}
use Rattle.las_header.specs.Heads.{IsHead, laszip_size, KeepsLayout}
use Rattle.las_header.specs.Counting.{short_bytes, long_bytes, with_sums}
use Rattle.las_header.proofs.NumberLemmas.{number_at-take, number_at-splice, number_at-splice_after, number_at-splice_first, take-splice, drop-splice, length-splice}
use Rattle.las_header.proofs.VlrLemmas.{SameIn-tail, header_before, vlr_start-same, laszips, laszips-same}
use Rattle.las_header.specs.Refusals.{has_bad_counts}
use Rattle.las_header.proofs.CauseLemmas.{least_any, least_block}

-- the fields before the counts are the same, and so is all from the header size on
pub record SameLayout (old new : List ℕ) : Type 0 where
  pub size : length new ≡ length old
  pub front : take 107 new ≡ take 107 old
  pub tail : drop (header_size_of old) new ≡ drop (header_size_of old) old

pub splice-layout : (head ys : List ℕ) (i j : ℕ) → 107 ≤ i → i + length ys ≡ j → j ≤ header_size_of head → header_size_of head ≤ length head
    → SameLayout head (splice head i j ys)
splice-layout head ys i j after fits before within = record {
  size = length-splice head i j ys fits (omega arith);
  front = sym (take-take 107 i (splice head i j ys) after) ∙ ap (λ (zs : List ℕ). take 107 zs) (take-splice head i j ys (omega arith)) ∙ take-take 107 i head after;
  tail = drop-splice head i j (header_size_of head) ys fits (omega arith) before;
}

number_front : (width at : ℕ) (old new : List ℕ) → take 107 new ≡ take 107 old → at + width ≤ 107 → number_at width at new ≡ number_at width at old
number_front width at old new same within =
    sym (number_at-take width at 107 new within) ∙ ap (number_at width at) same ∙ number_at-take width at 107 old within

byte_front : (k : ℕ) (old new : List ℕ) → take 107 new ≡ take 107 old → k < 107 → slice_index new k ≡ slice_index old k
byte_front k old new same within =
    sym (get_or-take 107 new k 0 within) ∙ ap (λ (zs : List ℕ). slice_index zs k) same ∙ get_or-take 107 old k 0 within

signature_part : (xs : List ℕ) → starts_with nat_eq (take 107 xs) (codes "LASF") ≡ starts_with nat_eq xs (codes "LASF")
signature_part xs = rw (take-take 4 107 xs (omega arith)) refl

signature_front : (old new : List ℕ) → take 107 new ≡ take 107 old → starts_with nat_eq new (codes "LASF") ≡ starts_with nat_eq old (codes "LASF")
signature_front old new same = sym (signature_part new) ∙ ap (λ (b : List ℕ). starts_with nat_eq b (codes "LASF")) same ∙ signature_part old

keeps : (old new : List ℕ) → IsHead old → SameLayout old new → KeepsLayout old new
keeps old new is same =
    let header : header_size_of new ≡ header_size_of old = number_front 2 94 old new same.front (omega arith) in
    let count : vlr_count_of new ≡ vlr_count_of old = number_front 4 100 old new same.front (omega arith) in
    let byte : slice_index new 104 ≡ slice_index old 104 = byte_front 104 old new same.front (omega arith) in
    let tail = SameIn-tail (header_size_of old) (length old) old new same.tail in
    record {
      size = same.size;
      packed = ap (λ (b : ℕ). nat_le 128 b) byte;
      laszip = ap (λ (n : ℕ). laszips n new) count ∙ laszips-same (vlr_count_of old) (length old) old new header tail is.vlrs;
      records = record { format = ap (λ (b : ℕ). b % 128) byte; record_length = number_front 2 105 old new same.front (omega arith) };
    }

-- so the new list is a head where the old one was, if its counts are right
pub IsHead-layout : (old new : List ℕ) → IsHead old → SameLayout old new → (has_long_counts new ≡ true → extended_count_of new ≡ 0) → has_bad_counts new ≡ false → points_of new < 2 ^ 32 → IsHead new
IsHead-layout old new is same extended counts points =
    let minor : minor_of new ≡ minor_of old = byte_front 25 old new same.front (omega arith) in
    let header : header_size_of new ≡ header_size_of old = number_front 2 94 old new same.front (omega arith) in
    let offset : point_offset_of new ≡ point_offset_of old = number_front 4 96 old new same.front (omega arith) in
    let count : vlr_count_of new ≡ vlr_count_of old = number_front 4 100 old new same.front (omega arith) in
    let byte : slice_index new 104 ≡ slice_index old 104 = byte_front 104 old new same.front (omega arith) in
    let record_length : record_length_of new ≡ record_length_of old = number_front 2 105 old new same.front (omega arith) in
    let format : format_of new ≡ format_of old = ap (λ (b : ℕ). b % 128) byte in
    let tail = SameIn-tail (header_size_of old) (length old) old new same.tail in
    let end : vlrs_end new ≡ vlrs_end old =
    ap (λ (n : ℕ). vlr_start n new) count ∙ vlr_start-same (vlr_count_of old) (length old) old new header tail is.vlrs in
    let laszip : laszip_size new ≡ laszip_size old =
    ap (λ (b : ℕ). cond (nat_le 128 b) (first_size (laszip_vlrs_of new)) 0) byte
    ∙ ap (λ (ps : List VlrPlace). cond (is_packed old) (first_size ps) 0)
    (ap (λ (n : ℕ). laszips n new) count ∙ laszips-same (vlr_count_of old) (length old) old new header tail is.vlrs) in
    record {
      block = omega (arith, is.block, same.size);
      long_block = λ four. let long = is.long_block (ap (λ (m : ℕ). m == 4) (sym minor) ∙ four) in omega (arith, same.size);
      signature = signature_front old new same.front ∙ is.signature;
      major = byte_front 24 old new same.front (omega arith) ∙ is.major;
      minor = omega (arith, minor, is.minor);
      header_size = subst (λ (m : ℕ). least_header_size m ≤ header_size_of new) (sym minor) (omega (arith, header, is.header_size));
      whole = offset ∙ is.whole ∙ sym same.size;
      vlrs = omega (arith, end, is.vlrs, same.size);
      format = omega (arith, format, is.format);
      record_length = subst (λ (f : ℕ). format_size f ≤ record_length_of new) (sym format) (omega (arith, record_length, is.record_length));
      extra = subst (λ (f : ℕ). record_length_of new ≤ format_size f + 192) (sym format) (omega (arith, record_length, is.extra));
      extended = extended;
      counts = counts;
      points = points;
      small = omega (arith, is.small, same.size);
      near = subst (λ (n : ℕ). length new ≤ 16777216 + n) (sym laszip) (omega (arith, is.near, same.size));
    }

-- the number of points is read back from either set
pub points-short_bytes : (points at : ℕ) (returns head : List ℕ) → at ≤ length head → points < 2 ^ 32 → number_at 4 at (splice head at (at + 24) (short_bytes points returns)) ≡ points
unfolding short_bytes
points-short_bytes points at returns head within fits = number_at-splice_first 4 at (at + 24) points head (flat_map (little_bytes 4) returns) within fits

pub points-long_bytes : (points at : ℕ) (returns head : List ℕ) → at ≤ length head → points < 2 ^ 32 → number_at 8 at (splice head at (at + 128) (long_bytes points returns)) ≡ points
unfolding long_bytes
points-long_bytes points at returns head within fits = number_at-splice_first 8 at (at + 128) points head (flat_map (little_bytes 8) returns) within (omega arith)

SameLayout-trans : (a b c : List ℕ) → SameLayout a b → SameLayout b c → SameLayout a c
SameLayout-trans a b c ab bc =
    let header : header_size_of b ≡ header_size_of a = number_front 2 94 a b ab.front (omega arith) in
    record {
      size = bc.size ∙ ab.size;
      front = bc.front ∙ ab.front;
      tail = subst (λ (n : ℕ). drop n c ≡ drop n b) header bc.tail ∙ ab.tail;
    }

either : (b c : Bool) (x y n : ℕ) → x ≡ n → y ≡ n → cond (b && c) x y ≡ n
either true true x y n p q = p
either true false x y n p q = q
either false c x y n p q = q

-- a head with other counts, and its number of points
pub record IsCounted (old head : List ℕ) (number : ℕ) : Type 0 where
  pub is_head : IsHead head
  pub kept : KeepsLayout old head
  pub points : points_of head ≡ number

same_counts : (b c n : Bool) → (b || (c && n && not true)) ≡ b
same_counts true c n = refl
same_counts false true true = refl
same_counts false true false = refl
same_counts false false n = refl

-- both numbers of points are the same and fit
right_counts : (head : List ℕ) (n : ℕ) → n < 2 ^ 32 → short_points_of head ≡ n → long_points_of head ≡ n → has_bad_counts head ≡ false
right_counts head n fits short long =
    let small : nat_le (2 ^ 32) n ≡ false = lt-leb (2 ^ 32) n fits in
    ap (λ (s : ℕ). has_long_counts head && (nat_le (2 ^ 32) (long_points_of head) || (not (s == 0) && not (long_points_of head == 0) && not (s == long_points_of head)))) short
    ∙ ap (λ (l : ℕ). has_long_counts head && (nat_le (2 ^ 32) l || (not (n == 0) && not (l == 0) && not (n == l)))) long
    ∙ ap (λ (b : Bool). has_long_counts head && (nat_le (2 ^ 32) n || (not (n == 0) && not (n == 0) && not b))) (eq-eqb n n refl)
    ∙ ap (λ (b : Bool). has_long_counts head && b) (same_counts (nat_le (2 ^ 32) n) (not (n == 0)) (not (n == 0)) ∙ small)
    ∙ and-false (has_long_counts head)

short_counted : (points : ℕ) (returns head : List ℕ) → IsHead head → points < 2 ^ 32 → length (short_bytes points returns) ≡ 24 → has_long_counts head ≡ false
    → IsCounted head (splice head 107 131 (short_bytes points returns)) points
short_counted points returns head is fits short_size no_long =
    let new = splice head 107 131 (short_bytes points returns) in
    let least = least_any (minor_of head) in
    let header = is.header_size in
    let inside : header_size_of head ≤ length head = omega (arith, is.vlrs, header_before (vlr_count_of head) head) in
    let layout = splice-layout head (short_bytes points returns) 107 131 (omega arith) (omega (arith, short_size)) (omega arith) inside in
    let minor : minor_of new ≡ minor_of head = byte_front 25 head new layout.front (omega arith) in
    let long : has_long_counts new ≡ false = ap (λ (m : ℕ). m == 4) minor ∙ no_long in
    let short : short_points_of new ≡ points = points-short_bytes points 107 returns head (omega (arith, is.block)) fits in
    let counted : points_of new ≡ points = ap (λ (b : Bool). cond (b && (short_points_of new == 0)) (long_points_of new) (short_points_of new)) long ∙ short in
    record {
      is_head = IsHead-layout head new is layout (λ four. let clash : true ≡ false = sym four ∙ long in absurd (cc)) (and_left _ _ long) (omega (arith, counted));
      kept = keeps head new is layout;
      points = counted;
    }

long_counted : (points : ℕ) (returns long_returns head : List ℕ) → IsHead head → points < 2 ^ 32 → length (short_bytes points returns) ≡ 24 → length (long_bytes points long_returns) ≡ 128 → has_long_counts head ≡ true
    → IsCounted head (splice (splice head 107 131 (short_bytes points returns)) 247 375 (long_bytes points long_returns)) points
long_counted points returns long_returns head is fits short_size long_size four =
    let once = splice head 107 131 (short_bytes points returns) in
    let new = splice once 247 375 (long_bytes points long_returns) in
    let least = least_block (minor_of head) four in
    let header = is.header_size in
    let inside : header_size_of head ≤ length head = omega (arith, is.vlrs, header_before (vlr_count_of head) head) in
    let first = splice-layout head (short_bytes points returns) 107 131 (omega arith) (omega (arith, short_size)) (omega arith) inside in
    let same_header : header_size_of once ≡ header_size_of head = number_front 2 94 head once first.front (omega arith) in
    let second = splice-layout once (long_bytes points long_returns) 247 375 (omega arith) (omega (arith, long_size)) (omega arith) (omega (arith, first.size)) in
    let layout = SameLayout-trans head once new first second in
    let short : short_points_of new ≡ points =
    number_at-splice 4 107 247 375 once (long_bytes points long_returns) (omega arith) (omega (arith, first.size))
    ∙ points-short_bytes points 107 returns head (omega (arith, is.block)) fits in
    let long : long_points_of new ≡ points = points-long_bytes points 247 long_returns once (omega (arith, first.size)) fits in
    let counted : points_of new ≡ points = either (has_long_counts new) (short_points_of new == 0) (long_points_of new) (short_points_of new) points long short in
    let extended : extended_count_of new ≡ extended_count_of head =
    number_at-splice 4 243 247 375 once (long_bytes points long_returns) (omega arith) (omega (arith, first.size))
    ∙ number_at-splice_after 4 243 107 131 head (short_bytes points returns) (omega (arith, short_size)) (omega (arith, is.block)) (omega arith) in
    record {
      is_head = IsHead-layout head new is layout (λ same. extended ∙ is.extended four) (right_counts new points fits short long) (omega (arith, counted));
      kept = keeps head new is layout;
      points = counted;
    }

by_set : (b : Bool) (points : ℕ) (returns long_returns head : List ℕ) → IsHead head → points < 2 ^ 32 → length (short_bytes points returns) ≡ 24 → length (long_bytes points long_returns) ≡ 128 → has_long_counts head ≡ b
    → IsCounted head (cond b (splice (splice head 107 131 (short_bytes points returns)) 247 375 (long_bytes points long_returns)) (splice head 107 131 (short_bytes points returns))) points
by_set true points returns long_returns head is fits short_size long_size which = long_counted points returns long_returns head is fits short_size long_size which
by_set false points returns long_returns head is fits short_size long_size which = short_counted points returns head is fits short_size which

-- a head with other counts is a head with that number of points
pub counted_head : (points : ℕ) (returns long_returns head : List ℕ) → IsHead head → points < 2 ^ 32 → length (short_bytes points returns) ≡ 24 → length (long_bytes points long_returns) ≡ 128
    → IsCounted head (with_sums points returns long_returns head) points
counted_head points returns long_returns head is fits short_size long_size = by_set (has_long_counts head) points returns long_returns head is fits short_size long_size refl
