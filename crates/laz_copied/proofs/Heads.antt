-- The head of a copied file: the plain head of the first file with other counts, packed for counted chunks.
use Rattle.std.proofs.Common.{◌≡◌, ℕ, zero, suc, ◌+◌, ◌-◌, ◌<◌, ◌≤◌, true, List, [], ◌∷◌, ◌++◌, length, take, drop, slice_get, slice_index, Some, None, refl, sym, ap, subst, ◌∙◌, arith, lit<, length-drop}
use Rattle.std.proofs.lemmas.List.{drop-drop, get_or-take, length-take-le, take_at}
use Rattle.std.specs.List.{splice}
use Rattle.byteorder.specs.Endian.{little_bytes}
use Rattle.las_header.specs.declared.vlrs.VlrPlace.{VlrPlace}
use Rattle.las_header.specs.Counting.{long_bytes, short_bytes, with_sums}
use Rattle.las_header.specs.Fields.{format_byte_of, format_of, format_size, has_long_counts, head_of, is_packed, minor_of, point_offset_of, points_of, record_length_of, vlr_count_of}
use Rattle.las_header.specs.Heads.{IsPlainOf, PacksHead}
use Rattle.las_header.specs.Plain.{laszip_vlr, plain_of, without_vlr}
use Rattle.las_header.specs.Refusals.{first_cause}
use Rattle.las_header.specs.Vlrs.{laszip_vlrs_of, vlr_size, vlrs_end}
use Rattle.las_header.proofs.Public.{least_any, IsCounted, counted_head, IsRelaid, after_relaid, drop_part, front_relaid, layout_bytes, size_relaid, CanPack, packs, can_unpack, plains, found_within, header_before}
use Rattle.laz_range.specs.Span.{IsBytes}
use Rattle.laz_table.specs.Payload.{laszip_payload}
use Rattle.laz_table.specs.VlrCauses.{chunk_size_in, chunk_size_of, extra_of, payload_at, payload_causes, payload_of, vlr_causes}
use Rattle.laz_table.proofs.Public.{IsBytes-append, IsBytes-little, payload-decides, payload-is, payload_within}
use Rattle.laz_chunk.specs.Layouts.{layout_of}
use Rattle.laz_forms.specs.Packing.{packed_head, record_layout}
use Rattle.laz_forms.proofs.Public.{payload-short, IsBytes-splice, short-are, long-are, set-are}
use Rattle.laz_copied.specs.Copied.{first_head, long_returns_in, points_of_files, returns_in}
use Rattle.laz_copied.proofs.PackedFiles.{IsPackedFile}
use Rattle.laz_copied.proofs.Payloads.{counted-chunk, counted-fine}

-- ---- bytes

no-bytes : IsBytes []
no-bytes = λ i. lit< tt

one-byte : (x : ℕ) → x < 256 → IsBytes (x ∷ [])
one-byte x small zero = small
one-byte x small (suc i) = lit< tt

layout-are : (offset count format : ℕ) → format < 256 → IsBytes (layout_bytes offset count format)
layout-are offset count format small =
    IsBytes-append (little_bytes 4 offset) (little_bytes 4 count ++ format ∷ []) (IsBytes-little 4 offset)
    (IsBytes-append (little_bytes 4 count) (format ∷ []) (IsBytes-little 4 count) (one-byte format small))

-- ---- the sums
short-size : (files : List (List ℕ)) → length (short_bytes (points_of_files files) (returns_in files)) ≡ 24
unfolding short_bytes
short-size files = refl

long-size : (files : List (List ℕ)) → length (long_bytes (points_of_files files) (long_returns_in files)) ≡ 128
unfolding long_bytes
long-size files = refl

-- ---- the plain head of a packed one
one_place : (ps : List VlrPlace) → length ps ≡ 1 → (place : VlrPlace) × (slice_get ps 0 ≡ Some place)
one_place [] e = absurd (omega (arith, e))
one_place (p ∷ ps) e = (p, refl)

pub record IsPlainHead (head plain : List ℕ) (place : VlrPlace) : Type 0 where
  pub found : slice_get (laszip_vlrs_of head) 0 ≡ Some place
  pub plain_is : IsPlainOf head plain
  pub size : length plain + (54 + place.length) ≡ length head
  pub bytes : IsBytes plain
  pub minor : minor_of plain ≡ minor_of head

pub plain_known : (file : List ℕ) → IsPackedFile file → is_packed (head_of file) ≡ true → (place : VlrPlace) × IsPlainHead (head_of file) (plain_of (head_of file)) place
plain_known file p packed =
    let head = head_of file in
    let first = one_place (laszip_vlrs_of head) p.front.one in
    let place = first.0 in
    let is = plains head place p.head packed p.front.one first.1 in
    let u = can_unpack head place p.head packed p.front.one first.1 in
    let within = found_within head place first.1 in
    let start : place.start ≡ _ = ap (λ (q : VlrPlace). q.start) u.1.at.there in
    let relaid : IsRelaid head (without_vlr place head) place.start (place.start + vlr_size place) [] (point_offset_of head - vlr_size place) (vlr_count_of head - 1) (format_of head) = record {
      is = refl;
      head = p.head;
      after = omega (arith, header_before u.0 head, start);
      order = omega arith;
      end = omega (arith, within, p.head.vlrs);
    } in
    let size = size_relaid relaid in
    let known : IsPlainHead head (without_vlr place head) place = record {
      found = first.1;
      plain_is = is;
      size = omega (arith, size, within, p.head.vlrs);
      bytes = IsBytes-splice (splice head place.start (place.start + vlr_size place) []) 96 105 (layout_bytes (point_offset_of head - vlr_size place) (vlr_count_of head - 1) (format_of head))
          (IsBytes-splice head place.start (place.start + vlr_size place) [] p.bytes no-bytes)
          (layout-are (point_offset_of head - vlr_size place) (vlr_count_of head - 1) (format_of head) (omega (arith, p.head.format)));
      minor = sym (get_or-take 96 (without_vlr place head) 25 0 (omega arith)) ∙ ap (λ (t : List ℕ). slice_index t 25) (front_relaid relaid) ∙ get_or-take 96 head 25 0 (omega arith);
    } in
    (place, subst (λ (t : List ℕ). IsPlainHead head t place) is.bytes known)

-- ---- the copied head, packed
module _ (files : List (List ℕ)) (file : List ℕ) (first : first_head files ≡ head_of file) (p : IsPackedFile file) (packed : is_packed (head_of file) ≡ true) (few : points_of_files files < 4294967296) where
  abbrev old : List ℕ
  old = plain_of (head_of file)

  abbrev pub new : List ℕ
  new = with_sums (points_of_files files) (returns_in files) (long_returns_in files) (plain_of (head_of file))

  plain : (place : VlrPlace) × IsPlainHead (head_of file) old place
  plain = plain_known file p packed

  counted : IsCounted old new (points_of_files files)
  counted = counted_head (points_of_files files) (returns_in files) (long_returns_in files) old (plain.1.plain_is.is_head) few (short-size files) (long-size files)

  new-bytes : IsBytes new
  new-bytes = set-are (has_long_counts old) old (short_bytes (points_of_files files) (returns_in files)) (long_bytes (points_of_files files) (long_returns_in files)) plain.1.bytes (short-are (points_of_files files) (returns_in files)) (long-are (points_of_files files) (long_returns_in files))

  pub new_format : format_of new ≡ format_of (head_of file)
  new_format = counted.kept.records.format ∙ plain.1.plain_is.records.format

  pub new_lengths : record_length_of new ≡ record_length_of (head_of file)
  new_lengths = counted.kept.records.record_length ∙ plain.1.plain_is.records.record_length

  pub new_points : points_of new ≡ points_of_files files
  new_points = counted.points

  abbrev payload : List ℕ
  payload = laszip_payload (format_of new) (extra_of new) 4294967295

  can : CanPack payload new
  can = record {
    head_is = counted.is_head;
    plain = counted.kept.packed ∙ plain.1.plain_is.plain;
    none = counted.kept.laszip ∙ plain.1.plain_is.none;
    short = payload-short (format_of new) (extra_of new) 4294967295;
    bytes = new-bytes;
  }

  pub new_packed : PacksHead payload new (packed_head new 4294967295)
  new_packed = packs payload new can

  extra-is : extra_of new ≡ extra_of (head_of file)
  extra-is = ap (λ (n : ℕ). n - format_size (format_of new)) new_lengths ∙ ap (λ (n : ℕ). record_length_of (head_of file) - format_size n) new_format

  -- the laszip VLR is as long as that of the first file
  pub new_near : length (packed_head new 4294967295) ≤ 16777216
  new_near =
      let head = head_of file in
      let place = plain.0 in
      let there : length (payload_of head) ≡ place.length =
      ap length (payload-is head place plain.1.found)
      ∙ length-take-le place.length (drop (place.start + 54) head) (omega (arith, length-drop (place.start + 54) head, payload_within head place plain.1.found p.head.vlrs)) in
      let same : length payload ≡ length (payload_of head) =
      ap (λ (f : ℕ). length (laszip_payload f (extra_of new) 4294967295)) new_format
      ∙ ap (λ (e : ℕ). length (laszip_payload (format_of head) e 4294967295)) extra-is ∙ sym (p.front.payload.size 4294967295) in
      omega (arith, new_packed.size, counted.kept.size, plain.1.size, there, same, p.front.near)

  -- no condition of its laszip VLR holds
  abbrev there : VlrPlace
  there = record { start = vlrs_end new; length = length payload }

  relaid : IsRelaid new (packed_head new 4294967295) (vlrs_end new) (vlrs_end new) (laszip_vlr payload) (point_offset_of new + (54 + length payload)) (vlr_count_of new + 1) (format_byte_of new + 128)
  relaid = record {
    is = refl;
    head = counted.is_head;
    after = header_before (vlr_count_of new) new;
    order = omega arith;
    end = counted.is_head.vlrs;
  }

  payload_there : payload_at there (packed_head new 4294967295) ≡ payload
  payload_there =
      let end = vlrs_end new in
      let big = packed_head new 4294967295 in
      let is = counted.is_head in
      let far : 105 ≤ end = omega (arith, is.header_size, least_any (minor_of new), header_before (vlr_count_of new) new) in
      let vlr : drop end big ≡ laszip_vlr payload ++ drop end new = after_relaid relaid end far ∙ drop_part new end end (laszip_vlr payload) is.vlrs in
      ap (λ (t : List ℕ). take (length payload) t) (sym (drop-drop 54 end big) ∙ ap (λ (t : List ℕ). drop 54 t) vlr)
      ∙ take_at payload (drop end new) (length payload) refl

  extra_same : extra_of (packed_head new 4294967295) ≡ extra_of new
  extra_same =
      ap (λ (n : ℕ). n - format_size (format_of (packed_head new 4294967295))) new_packed.records.record_length
      ∙ ap (λ (n : ℕ). record_length_of new - format_size n) new_packed.records.format

  pub new_vlr : first_cause (vlr_causes (packed_head new 4294967295)) ≡ None
  new_vlr =
      let big = packed_head new 4294967295 in
      payload-decides big payload there (format_of big) (extra_of big) (points_of big) None (ap length new_packed.laszip) (ap (λ (ps : List VlrPlace). slice_get ps 0) new_packed.laszip)
      (sym payload_there) refl refl refl
      (sym (ap (λ (f : ℕ). first_cause (payload_causes f (extra_of big) (points_of big) payload)) new_packed.records.format
      ∙ ap (λ (e : ℕ). first_cause (payload_causes (format_of new) e (points_of big) payload)) extra_same ∙ counted-fine (format_of new) (extra_of new) (points_of big)))

  pub new_chunk : chunk_size_of (packed_head new 4294967295) ≡ 4294967295
  new_chunk =
      ap chunk_size_in (payload-is (packed_head new 4294967295) there (ap (λ (ps : List VlrPlace). slice_get ps 0) new_packed.laszip) ∙ payload_there)
      ∙ counted-chunk (format_of new) (extra_of new)

  pub new_big_points : points_of (packed_head new 4294967295) ≡ points_of_files files
  new_big_points = new_packed.points ∙ new_points

  pub new_layout : record_layout (packed_head new 4294967295) ≡ record_layout (head_of file)
  new_layout =
      ap (λ (f : ℕ). layout_of f (extra_of (packed_head new 4294967295))) (new_packed.records.format ∙ new_format)
      ∙ ap (layout_of (format_of (head_of file))) (extra_same ∙ extra-is)
