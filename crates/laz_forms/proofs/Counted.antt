-- Heads with other counts: packed before or after, counted twice, and counted by patches.
use Rattle.std.proofs.Common.{◌≡◌, ℕ, ◌+◌, ◌≤◌, ◌==◌, ◌%◌, Bool, true, false, cond, List, ◌++◌, length, take, drop, refl, sym, ap, ◌∙◌, arith, length-append, length-drop}
use Rattle.std.proofs.lemmas.List.{length-take-le}
use Rattle.std.specs.List.{splice}
use Rattle.las_header.specs.declared.limits.TheConstants.{VLR_HEAD}
use Rattle.las_header.specs.Counting.{with_count_bytes}
use Rattle.las_header.specs.Fields.{format_byte_of, has_long_counts, format_of, header_size_of, minor_of, point_offset_of, record_length_of, vlr_count_of}
use Rattle.las_header.specs.Heads.{IsHead}
use Rattle.las_header.specs.Plain.{laszip_vlr, with_layout, with_vlr}
use Rattle.las_header.specs.Vlrs.{vlr_start, vlrs_end}
use Rattle.las_header.proofs.Public.{least_any, least_block, splice-layout, layout_bytes, length-splice, number_at-splice, slice_index-splice, SameIn-tail, header_before, vlr_start-same}
use Rattle.laz_forms.proofs.Splices.{splice-splice}

-- a part of a head after its layout and within its header
record IsCountsPart (head ys : List ℕ) (i j : ℕ) : Type 0 where
  after : 107 ≤ i
  fits : i + length ys ≡ j
  before : j ≤ header_size_of head
  vlrs : vlrs_end head ≤ length head

module _ (head ys : List ℕ) (i j : ℕ) (p : IsCountsPart head ys i j) where
  new : List ℕ
  new = splice head i j ys

  within : header_size_of head ≤ length head
  within = omega (arith, header_before (vlr_count_of head) head, p.vlrs)

  inside : j ≤ length head
  inside = omega (arith, within, p.before)

  starts : i ≤ length head
  starts = omega (arith, inside, p.fits)

  header_same : header_size_of new ≡ header_size_of head
  unfolding new
  header_same = number_at-splice 2 94 i j head ys (omega (arith, p.after)) starts

  count_same : vlr_count_of new ≡ vlr_count_of head
  unfolding new
  count_same = number_at-splice 4 100 i j head ys (omega (arith, p.after)) starts

  offset_same : point_offset_of new ≡ point_offset_of head
  unfolding new
  offset_same = number_at-splice 4 96 i j head ys (omega (arith, p.after)) starts

  format_same : format_byte_of new ≡ format_byte_of head
  unfolding new
  format_same = slice_index-splice 104 i j head ys (omega (arith, p.after)) starts

  lengths_same : record_length_of new ≡ record_length_of head
  unfolding new
  lengths_same = number_at-splice 2 105 i j head ys (omega (arith, p.after)) starts

  size_same : length new ≡ length head
  unfolding new
  size_same = length-splice head i j ys p.fits inside

  end_same : vlrs_end new ≡ vlrs_end head
  unfolding new
  end_same =
      let layout = splice-layout head ys i j p.after p.fits p.before within in
      ap (λ (n : ℕ). vlr_start n new) count_same
      ∙ vlr_start-same (vlr_count_of head) (length head) head new header_same (SameIn-tail (header_size_of head) (length head) head new layout.tail) p.vlrs

  -- the head is packed before or after the part is replaced
  packed_same : (payload : List ℕ) → with_vlr payload new ≡ splice (with_vlr payload head) i j ys
  unfolding new
  packed_same payload =
      let size = VLR_HEAD + length payload in
      let vlr = laszip_vlr payload in
      let end = vlrs_end head in
      let packed = splice head end end vlr in
      let layout = layout_bytes (point_offset_of head + size) (vlr_count_of head + 1) (format_byte_of head + 128) in
      let far : j ≤ end = omega (arith, p.before, header_before (vlr_count_of head) head) in
      let long : i ≤ length packed =
      omega (arith, length-append (take end head) (vlr ++ drop end head), length-take-le end head p.vlrs, far, p.fits) in
      ap (λ (o : ℕ). with_layout (o + size) (vlr_count_of new + 1) (format_byte_of new + 128) (splice new (vlrs_end new) (vlrs_end new) vlr)) offset_same
      ∙ ap (λ (n : ℕ). with_layout (point_offset_of head + size) (n + 1) (format_byte_of new + 128) (splice new (vlrs_end new) (vlrs_end new) vlr)) count_same
      ∙ ap (λ (f : ℕ). with_layout (point_offset_of head + size) (vlr_count_of head + 1) (f + 128) (splice new (vlrs_end new) (vlrs_end new) vlr)) format_same
      ∙ ap (λ (e : ℕ). with_layout (point_offset_of head + size) (vlr_count_of head + 1) (format_byte_of head + 128) (splice new e e vlr)) end_same
      ∙ ap (λ (zs : List ℕ). splice zs 96 105 layout) (splice-splice head ys vlr i j end end p.fits far (omega arith) p.vlrs)
      ∙ sym (splice-splice packed layout ys 96 105 i j (omega arith) (omega (arith, p.after)) (omega (arith, p.fits)) long)

-- what a packed head keeps
module _ (payload head : List ℕ) (is : IsHead head) where
  abbrev vlr : List ℕ
  vlr = laszip_vlr payload

  abbrev inserted : List ℕ
  inserted = splice head (vlrs_end head) (vlrs_end head) (laszip_vlr payload)

  abbrev layout : List ℕ
  layout = layout_bytes (point_offset_of head + (VLR_HEAD + length payload)) (vlr_count_of head + 1) (format_byte_of head + 128)

  far_end : 227 ≤ vlrs_end head
  far_end = omega (arith, is.header_size, least_any (minor_of head), header_before (vlr_count_of head) head)

  length-inserted : length inserted ≡ length head + length vlr
  length-inserted = omega (
    arith,
    length-append (take (vlrs_end head) head) (vlr ++ drop (vlrs_end head) head),
    length-append vlr (drop (vlrs_end head) head),
    length-take-le (vlrs_end head) head is.vlrs,
    length-drop (vlrs_end head) head,
    is.vlrs,
  )

  pub packed_long : has_long_counts (with_vlr payload head) ≡ has_long_counts head
  packed_long =
      ap (λ (m : ℕ). m == 4) (slice_index-splice 25 96 105 inserted layout (omega arith) (omega (arith, length-inserted, is.block))
      ∙ slice_index-splice 25 (vlrs_end head) (vlrs_end head) head vlr (omega (arith, far_end)) is.vlrs)

  pub packed_longer : length head ≤ length (with_vlr payload head)
  packed_longer = omega (arith, length-splice inserted 96 105 layout (omega arith) (omega (arith, length-inserted, is.block)), length-inserted)

-- both sets of counts, as far as the head has them
module _ (head short long : List ℕ) (is : IsHead head) (short_size : length short ≡ 24) (long_size : length long ≡ 128) where
  once : List ℕ
  once = splice head 107 131 short

  abbrev counted : (both : Bool) → List ℕ
  counted both = cond both (splice (splice head 107 131 short) 247 375 long) (splice head 107 131 short)

  first : IsCountsPart head short 107 131
  first = record {
    after = omega arith;
    fits = omega (arith, short_size);
    before = omega (arith, is.header_size, least_any (minor_of head));
    vlrs = is.vlrs;
  }

  second : has_long_counts head ≡ true → IsCountsPart (splice head 107 131 short) long 247 375
  unfolding new
  second four = record {
    after = omega arith;
    fits = omega (arith, long_size);
    before = omega (arith, header_same head short 107 131 first, is.header_size, least_block (minor_of head) four);
    vlrs = omega (arith, end_same head short 107 131 first, size_same head short 107 131 first, is.vlrs);
  }

  format_by : (both : Bool) → has_long_counts head ≡ both → format_byte_of (counted both) ≡ format_byte_of head
  unfolding new
  format_by false which = format_same head short 107 131 first
  format_by true which = format_same (splice head 107 131 short) long 247 375 (second which) ∙ format_same head short 107 131 first

  lengths_by : (both : Bool) → has_long_counts head ≡ both → record_length_of (counted both) ≡ record_length_of head
  unfolding new
  lengths_by false which = lengths_same head short 107 131 first
  lengths_by true which = lengths_same (splice head 107 131 short) long 247 375 (second which) ∙ lengths_same head short 107 131 first

  packed_by : (payload : List ℕ) (both : Bool) → has_long_counts head ≡ both
      → with_vlr payload (counted both) ≡ cond both (splice (splice (with_vlr payload head) 107 131 short) 247 375 long) (splice (with_vlr payload head) 107 131 short)
  unfolding new
  packed_by payload false which = packed_same head short 107 131 first payload
  packed_by payload true which =
      packed_same (splice head 107 131 short) long 247 375 (second which) payload
      ∙ ap (λ (t : List ℕ). splice t 247 375 long) (packed_same head short 107 131 first payload)

  -- a head with other counts has its format and its record length
  pub counted_format : format_of (with_count_bytes short long head) ≡ format_of head
  counted_format = ap (λ (b : ℕ). b % 128) (format_by (has_long_counts head) refl)

  pub counted_lengths : record_length_of (with_count_bytes short long head) ≡ record_length_of head
  counted_lengths = lengths_by (has_long_counts head) refl

  -- it is counted before or after it is packed
  pub counted_packed : (payload : List ℕ) → with_vlr payload (with_count_bytes short long head) ≡ with_count_bytes short long (with_vlr payload head)
  counted_packed payload =
      packed_by payload (has_long_counts head) refl
      ∙ ap (λ (b : Bool). cond b (splice (splice (with_vlr payload head) 107 131 short) 247 375 long) (splice (with_vlr payload head) 107 131 short)) (sym (packed_long payload head is))

-- a head with other counts is as long as before
length-by : (both : Bool) (head short long : List ℕ) → 131 ≤ length head → (both ≡ true → 375 ≤ length head) → length short ≡ 24 → length long ≡ 128
    → length (cond both (splice (splice head 107 131 short) 247 375 long) (splice head 107 131 short)) ≡ length head
length-by false head short long enough far short_size long_size = length-splice head 107 131 short (omega (arith, short_size)) enough
length-by true head short long enough far short_size long_size =
    let once = length-splice head 107 131 short (omega (arith, short_size)) enough in
    length-splice (splice head 107 131 short) 247 375 long (omega (arith, long_size)) (omega (arith, once, far refl)) ∙ once

pub length-counted : (head short long : List ℕ) → 131 ≤ length head → (has_long_counts head ≡ true → 375 ≤ length head) → length short ≡ 24 → length long ≡ 128
    → length (with_count_bytes short long head) ≡ length head
length-counted head short long enough far short_size long_size = length-by (has_long_counts head) head short long enough far short_size long_size
