-- What is known if no condition of a list holds, and that the front of a file decides the conditions of its front.
use Rattle.std.proofs.Common.{◌≡◌, ℕ, zero, suc, ◌+◌, ◌^◌, ◌<◌, ◌≤◌, Bool, true, false, not, ◌&&◌, ◌||◌, cond, nat_lt, nat_le, nat_eq, ◌==◌, ltb-false, List, [], ◌∷◌, length, take, codes, slice_index, None, refl, sym, ap, ◌∙◌, arith}
use Rattle.std.specs.List.{starts_with}
use Rattle.std.proofs.lemmas.Bool.{eqb-true, leb-false, or_parts, not-false, and_left, or_from, le-ltb}
use Rattle.std.proofs.Math.Nat.{pow-succ'}
use Rattle.std.proofs.lemmas.List.{take-take, get_or-take, length-take-le}
use Rattle.byteorder.specs.Endian.{little_from}
use Rattle.las_header.specs.declared.refusal.Refusal.{Refusal}
use Rattle.las_header.specs.declared.refusal.Refusal.TheVariants as cause
use Rattle.las_header.specs.Numbers.{number_at}
use Rattle.las_header.specs.Fields.{major_of, minor_of, header_size_of, least_header_size, point_offset_of, vlr_count_of, offset_limit, is_packed, format_of, format_size, record_length_of, has_long_counts, short_points_of, long_points_of, points_of, extended_count_of}
use Rattle.las_header.specs.Vlrs.{vlrs_end}
use Rattle.las_header.specs.Heads.{IsHead, FrontIsFine, PackedIsFine}
use Rattle.las_header.specs.Refusals.{first_cause, front_causes, head_causes, FirstOfBoth, FrontDecides, is_short, lacks_signature, has_other_version, has_short_header, has_bad_offset, has_long_vlrs, has_other_format, has_bad_record_length, has_extended_vlrs, has_bad_counts, ends_early, goes_on, has_stray_vlr}
use Rattle.las_header.proofs.NumberLemmas.{number_at-take}
use Rattle.las_header.proofs.VlrLemmas.{header_before}

-- if no condition of a list holds, the first one does not, and none of the others does
pub none_first : (a : Bool) (x : Refusal) (cs : List (Bool × Refusal)) → first_cause ((a, x) ∷ cs) ≡ None → (a ≡ false) × (first_cause cs ≡ None)
none_first true x cs e = absurd (cc)
none_first false x cs e = (refl, e)

false_both : (a b : Bool) → (a && b) ≡ false → a ≡ true → b ≡ false
false_both true b e is = e
false_both false b e is = absurd (cc)

-- the first of two joined lists
pub first_of_both : FirstOfBoth
first_of_both [] ys = refl
first_of_both ((true, c) ∷ xs) ys = refl
first_of_both ((false, c) ∷ xs) ys = first_of_both xs ys

-- what is known of a front that is not refused
pub record IsFront (front : List ℕ) (size : ℕ) : Type 0 where
  pub block : 227 ≤ size
  pub signature : starts_with nat_eq front (codes "LASF") ≡ true
  pub major : major_of front ≡ 1
  pub minor : minor_of front ≤ 4
  pub header_size : least_header_size (minor_of front) ≤ header_size_of front
  pub after : header_size_of front ≤ point_offset_of front
  pub within : point_offset_of front ≤ size
  pub near : point_offset_of front ≤ offset_limit front

pub accepted_front : (front : List ℕ) (size : ℕ) → first_cause (front_causes front size) ≡ None → IsFront front size
accepted_front front size accepted =
    let offset_causes = (has_bad_offset front size, cause.Offset) ∷ [] in
    let header_causes = (has_short_header front, cause.HeaderSize) ∷ offset_causes in
    let version_causes = (has_other_version front, cause.Version) ∷ header_causes in
    let short = none_first (is_short size) cause.Short ((lacks_signature front, cause.Magic) ∷ version_causes) accepted in
    let magic = none_first (lacks_signature front) cause.Magic version_causes short.1 in
    let version = none_first (has_other_version front) cause.Version header_causes magic.1 in
    let header = none_first (has_short_header front) cause.HeaderSize offset_causes version.1 in
    let offset = none_first (has_bad_offset front size) cause.Offset [] header.1 in
    let numbers = or_parts _ _ version.0 in
    let far = or_parts _ _ offset.0 in
    let inside = or_parts _ _ far.0 in
    record {
      block = ltb-false size 227 short.0;
      signature = not-false _ magic.0;
      major = eqb-true _ _ (not-false _ numbers.0);
      minor = ltb-false 4 (minor_of front) numbers.1;
      header_size = ltb-false _ _ header.0;
      after = ltb-false _ _ inside.0;
      within = ltb-false _ _ inside.1;
      near = ltb-false _ _ far.1;
    }

-- the first 227 bytes decide the conditions of the front
pub front_causes-take : (file : List ℕ) (n size : ℕ) → 227 ≤ n → front_causes (take n file) size ≡ front_causes file size
front_causes-take file n size block =
    let signature : take 4 (take n file) ≡ take 4 file = take-take 4 n file (omega arith) in
    let byte = λ (k : ℕ) (h : k < 227). get_or-take n file k 0 (omega arith) in
    let number = λ (width at : ℕ) (h : at + width ≤ 227). number_at-take width at n file (omega arith) in
    rw (signature, byte 24 (omega arith), byte 25 (omega arith), number 2 94 (omega arith), number 4 96 (omega arith), byte 104 (omega arith)) refl

pub front_decides : FrontDecides
front_decides file size = front_causes-take file 227 size (omega arith)

-- a number of `width` bytes is below that power of 256
pub number_at-bound : (width at : ℕ) (xs : List ℕ) → ((k : ℕ) → slice_index xs k < 256) → number_at width at xs < 256 ^ width
unfolding number_at
number_at-bound zero at xs bytes = omega arith
number_at-bound (suc n) at xs bytes =
    let first = bytes at in
    let rest : little_from (suc at) n xs < 256 ^ n = number_at-bound n (suc at) xs bytes in
    rw (pow-succ' 256 n) (omega arith)

short_points_fit : (head : List ℕ) (b : Bool) → ((k : ℕ) → slice_index head k < 256) → nat_le (2 ^ 32) (long_points_of head) ≡ false
    → cond b (long_points_of head) (short_points_of head) < 2 ^ 32
short_points_fit head false bytes h = number_at-bound 4 107 head bytes
short_points_fit head true bytes h = leb-false _ _ h

each_points_fit : (head : List ℕ) (b : Bool) → ((k : ℕ) → slice_index head k < 256)
    → (b && (nat_le (2 ^ 32) (long_points_of head) || (not (short_points_of head == 0) && not (long_points_of head == 0) && not (short_points_of head == long_points_of head)))) ≡ false
    → cond (b && (short_points_of head == 0)) (long_points_of head) (short_points_of head) < 2 ^ 32
each_points_fit head false bytes h = number_at-bound 4 107 head bytes
each_points_fit head true bytes h = short_points_fit head (short_points_of head == 0) bytes (or_parts _ _ h).0

-- the number of points fits four bytes
pub points_fit : (head : List ℕ) → ((k : ℕ) → slice_index head k < 256) → has_bad_counts head ≡ false → points_of head < 2 ^ 32
points_fit head bytes fine = each_points_fit head (has_long_counts head) bytes fine

-- what is known of a head that is not refused
pub record IsAcceptedHead (head : List ℕ) (size : ℕ) : Type 0 where
  pub vlrs : vlrs_end head ≤ point_offset_of head
  pub format : format_of head ≤ 3
  pub record_length : format_size (format_of head) ≤ record_length_of head
  pub extra : record_length_of head ≤ format_size (format_of head) + 192
  pub extended : has_extended_vlrs head ≡ false
  pub counts : has_bad_counts head ≡ false
  pub early : ends_early head size ≡ false
  pub on : goes_on head size ≡ false
  pub stray : has_stray_vlr head ≡ false

pub accepted_head : (head : List ℕ) (size : ℕ) → first_cause (head_causes head size) ≡ None → IsAcceptedHead head size
accepted_head head size accepted =
    let stray_causes = (has_stray_vlr head, cause.StrayVlr) ∷ [] in
    let on_causes = (goes_on head size, cause.Trailing) ∷ stray_causes in
    let early_causes = (ends_early head size, cause.Count) ∷ on_causes in
    let counts_causes = (has_bad_counts head, cause.PointCounts) ∷ early_causes in
    let extended_causes = (has_extended_vlrs head, cause.Extended) ∷ counts_causes in
    let length_causes = (has_bad_record_length head, cause.RecordLength) ∷ extended_causes in
    let vlrs = none_first (has_long_vlrs head) cause.Vlrs ((has_other_format head, cause.Format) ∷ length_causes) accepted in
    let format = none_first (has_other_format head) cause.Format length_causes vlrs.1 in
    let lengths = none_first (has_bad_record_length head) cause.RecordLength extended_causes format.1 in
    let extended = none_first (has_extended_vlrs head) cause.Extended counts_causes lengths.1 in
    let counts = none_first (has_bad_counts head) cause.PointCounts early_causes extended.1 in
    let early = none_first (ends_early head size) cause.Count on_causes counts.1 in
    let on = none_first (goes_on head size) cause.Trailing stray_causes early.1 in
    let stray = none_first (has_stray_vlr head) cause.StrayVlr [] on.1 in
    let both = or_parts _ _ lengths.0 in
    record {
      vlrs = ltb-false _ _ vlrs.0;
      format = ltb-false _ _ format.0;
      record_length = ltb-false _ _ both.0;
      extra = ltb-false _ _ both.1;
      extended = extended.0;
      counts = counts.0;
      early = early.0;
      on = on.0;
      stray = stray.0;
    }

pub limit-bound : (b : Bool) → cond b 16777216 16777104 ≤ 16777216
limit-bound true = omega arith
limit-bound false = omega arith

-- LAS 1.4 has a longer header block
pub least_block : (minor : ℕ) → (minor == 4) ≡ true → least_header_size minor ≡ 375
least_block minor four = rw (eqb-true minor 4 four) refl

least_cases : (b c : Bool) → 227 ≤ cond b 227 (cond c 235 375)
least_cases true c = omega arith
least_cases false true = omega arith
least_cases false false = omega arith

pub least_any : (minor : ℕ) → 227 ≤ least_header_size minor
least_any minor = least_cases (nat_lt minor 3) (minor == 3)

-- the front of a head that is accepted is that of the head
pub accepted_bytes : (head : List ℕ) (size : ℕ) → first_cause (front_causes (take 227 head) size) ≡ None → first_cause (front_causes head size) ≡ None
accepted_bytes head size accepted = ap first_cause (sym (front_causes-take head 227 size (omega arith))) ∙ accepted

pub whole_bytes : (head : List ℕ) → point_offset_of (take 227 head) ≡ length head → point_offset_of head ≡ length head
whole_bytes head whole = sym (number_at-take 4 96 227 head (omega arith)) ∙ whole

-- the lengths that reading a head needs
pub record HasBlocks (head : List ℕ) (size : ℕ) : Type 0 where
  pub block : 227 ≤ length head
  pub long : has_long_counts head ≡ true → 375 ≤ length head
  pub header : header_size_of head ≤ length head
  pub whole : point_offset_of head ≡ length head
  pub within : point_offset_of head ≤ size
  pub near : length head ≤ 16777216

pub has_blocks : (head : List ℕ) (size : ℕ) → first_cause (front_causes (take 227 head) size) ≡ None
    → point_offset_of (take 227 head) ≡ length head → HasBlocks head size
has_blocks head size accepted whole =
    let front = accepted_front head size (accepted_bytes head size accepted) in
    let reaches = whole_bytes head whole in
    let least = least_any (minor_of head) in
    let limit = limit-bound (is_packed head) in
    record {
      block = omega (arith, front.header_size, front.after, reaches, least);
      long = λ four. omega (arith, front.header_size, front.after, reaches, least_block (minor_of head) four);
      header = omega (arith, front.after, reaches);
      whole = reaches;
      within = front.within;
      near = omega (arith, front.near, limit, reaches);
    }

-- the bytes that `need` and `Head::read` accept are a head
pub is_head : (head : List ℕ) (size : ℕ) → points_of head < 2 ^ 32 → first_cause (front_causes (take 227 head) size) ≡ None
    → point_offset_of (take 227 head) ≡ length head → first_cause (head_causes head size) ≡ None → IsHead head
is_head head size points accepted whole fine =
    let front = accepted_front head size (accepted_bytes head size accepted) in
    let blocks = has_blocks head size accepted whole in
    let known = accepted_head head size fine in
    record {
      block = blocks.block;
      long_block = blocks.long;
      signature = front.signature;
      major = front.major;
      minor = front.minor;
      header_size = front.header_size;
      whole = blocks.whole;
      vlrs = omega (arith, known.vlrs, blocks.whole);
      format = known.format;
      record_length = known.record_length;
      extra = known.extra;
      extended = λ four. eqb-true _ _ (not-false _ (false_both _ _ known.extended four));
      counts = known.counts;
      points = points;
      small = omega (arith, blocks.near);
      near = omega (arith, blocks.near);
    }

-- no condition of the front holds of a head within its limits
not_true : (b : Bool) → b ≡ true → not b ≡ false
not_true true e = refl
not_true false e = absurd (cc)

pub first_none : (a : Bool) (x : Refusal) (cs : List (Bool × Refusal)) → a ≡ false → first_cause cs ≡ None → first_cause ((a, x) ∷ cs) ≡ None
first_none true x cs e f = absurd (cc)
first_none false x cs e f = f

header_within : (head : List ℕ) → IsHead head → header_size_of head ≤ length head
header_within head is = omega (arith, header_before (vlr_count_of head) head, is.vlrs)

pub no_extended : (head : List ℕ) (b : Bool) → has_long_counts head ≡ b → IsHead head → (b && not (extended_count_of head == 0)) ≡ false
no_extended head true long is = ap (λ (n : ℕ). not (n == 0)) (is.extended long)
no_extended head false long is = refl

pub front_is_fine : FrontIsFine
front_is_fine head size is within near =
    let after = header_within head is in
    let offset_causes = (has_bad_offset head size, cause.Offset) ∷ [] in
    let header_causes = (has_short_header head, cause.HeaderSize) ∷ offset_causes in
    let version_causes = (has_other_version head, cause.Version) ∷ header_causes in
    let magic_causes = (lacks_signature head, cause.Magic) ∷ version_causes in
    let inside = or_from (nat_lt (point_offset_of head) (header_size_of head)) (nat_lt size (point_offset_of head))
    (le-ltb _ _ (omega (arith, after, is.whole))) (le-ltb _ _ (omega (arith, is.whole, within))) in
    let far = le-ltb (offset_limit head) (point_offset_of head) (omega (arith, is.whole, near)) in
    let offset = first_none (has_bad_offset head size) cause.Offset [] (or_from _ _ inside far) refl in
    let header = first_none (has_short_header head) cause.HeaderSize offset_causes (le-ltb _ _ is.header_size) offset in
    let number = or_from (not (major_of head == 1)) (nat_lt 4 (minor_of head)) (ap (λ (m : ℕ). not (m == 1)) is.major) (le-ltb 4 (minor_of head) is.minor) in
    let version = first_none (has_other_version head) cause.Version header_causes number header in
    let magic = first_none (lacks_signature head) cause.Magic version_causes (not_true (starts_with nat_eq head (codes "LASF")) is.signature) version in
    first_none (is_short size) cause.Short magic_causes (le-ltb size 227 (omega (arith, is.block, within))) magic

-- and none of the head of a packed file
pub packed_is_fine : PackedIsFine
packed_is_fine head size is packed =
    let plain : not (is_packed head) ≡ false = ap not packed in
    let stray_causes = (has_stray_vlr head, cause.StrayVlr) ∷ [] in
    let on_causes = (goes_on head size, cause.Trailing) ∷ stray_causes in
    let early_causes = (ends_early head size, cause.Count) ∷ on_causes in
    let counts_causes = (has_bad_counts head, cause.PointCounts) ∷ early_causes in
    let extended_causes = (has_extended_vlrs head, cause.Extended) ∷ counts_causes in
    let length_causes = (has_bad_record_length head, cause.RecordLength) ∷ extended_causes in
    let format_causes = (has_other_format head, cause.Format) ∷ length_causes in
    let stray = first_none (has_stray_vlr head) cause.StrayVlr [] (and_left _ _ plain) refl in
    let on = first_none (goes_on head size) cause.Trailing stray_causes (and_left _ _ plain) stray in
    let early = first_none (ends_early head size) cause.Count on_causes (and_left _ _ plain) on in
    let counts = first_none (has_bad_counts head) cause.PointCounts early_causes is.counts early in
    let extended = first_none (has_extended_vlrs head) cause.Extended counts_causes (no_extended head (has_long_counts head) refl is) counts in
    let lengths = first_none (has_bad_record_length head) cause.RecordLength extended_causes (or_from _ _ (le-ltb _ _ is.record_length) (le-ltb _ _ is.extra)) extended in
    let format = first_none (has_other_format head) cause.Format length_causes (le-ltb _ _ is.format) lengths in
    first_none (has_long_vlrs head) cause.Vlrs format_causes (le-ltb _ _ (omega (arith, is.vlrs, is.whole))) format

-- What `need` accepted of a file's front is what `Head::read` needs of the bytes before its points. Meant for callers.
pub record CanRead (head : List ℕ) (size : ℕ) : Type 0 where
  pub accepted : first_cause (front_causes (take 227 head) size) ≡ None
  pub whole : point_offset_of (take 227 head) ≡ length head

pub can_read : (file : List ℕ) (offset size : ℕ) → 227 ≤ offset → offset ≤ length file → first_cause (front_causes (take 227 file) size) ≡ None
    → offset ≡ point_offset_of (take 227 file) → CanRead (take offset file) size
can_read file offset size block within accepted is =
    let same : take 227 (take offset file) ≡ take 227 file = take-take 227 offset file block in
    record {
      accepted = ap (λ (f : List ℕ). first_cause (front_causes f size)) same ∙ accepted;
      whole = ap point_offset_of same ∙ sym is ∙ sym (length-take-le offset file within);
    }
