-- The head of an accepted plain file, packed: what is known of it, and that no condition of its laszip VLR holds.
use Rattle.std.proofs.Common.{◌≡◌, ℕ, zero, suc, ◌+◌, ◌-◌, ◌≤◌, List, ◌++◌, length, take, drop, slice_get, None, refl, sym, ap, ◌∙◌, arith}
use Rattle.std.proofs.lemmas.List.{drop-drop, take_at}
use Rattle.las_header.specs.declared.vlrs.VlrPlace.{VlrPlace}
use Rattle.las_header.specs.Fields.{format_byte_of, format_of, format_size, head_of, minor_of, point_offset_of, points_of, record_length_of, vlr_count_of}
use Rattle.las_header.specs.Heads.{PacksHead}
use Rattle.las_header.specs.Plain.{laszip_vlr}
use Rattle.las_header.specs.Refusals.{first_cause}
use Rattle.las_header.specs.Vlrs.{vlrs_end}
use Rattle.las_header.proofs.Public.{least_any, IsRelaid, after_relaid, drop_part, CanPack, packs, header_before}
use Rattle.laz_table.specs.Payload.{laszip_payload}
use Rattle.laz_table.specs.VlrCauses.{chunk_size_in, chunk_size_of, extra_of, payload_at, payload_causes, vlr_causes}
use Rattle.laz_table.proofs.Public.{payload-decides, payload-is}
use Rattle.laz_chunk.specs.Layouts.{layout_of, record_length}
use Rattle.laz_forms.specs.Packing.{packed_head, record_layout}
use Rattle.laz_forms.proofs.Accepted.{IsPlainFile}
use Rattle.laz_forms.proofs.Payloads.{payload-chunk, payload-fine, payload-short}

-- the layout of the records is that of their format and length
pub layout-length : (format extra : ℕ) → format ≤ 3 → record_length (layout_of format extra) ≡ format_size format + extra
layout-length zero extra known = omega arith
layout-length (suc zero) extra known = omega arith
layout-length (suc (suc zero)) extra known = omega arith
layout-length (suc (suc (suc zero))) extra known = omega arith
layout-length (suc (suc (suc (suc format)))) extra known = absurd (omega (arith, known))

module _ (file : List ℕ) (chunk : ℕ) (p : IsPlainFile file) (least : 256 ≤ chunk) (few : chunk ≤ 250000) where
  abbrev head : List ℕ
  head = head_of file

  abbrev payload : List ℕ
  payload = laszip_payload (format_of head) (extra_of head) chunk

  abbrev packed : List ℕ
  packed = packed_head head chunk

  can : CanPack payload head
  can = record {
    head_is = p.head;
    plain = p.plain;
    none = p.none;
    short = payload-short (format_of head) (extra_of head) chunk;
    bytes = p.head_bytes;
  }

  pub head_packed : PacksHead payload head packed
  head_packed = packs payload head can

  abbrev place : VlrPlace
  place = record { start = vlrs_end head; length = length payload }

  relaid : IsRelaid head packed (vlrs_end head) (vlrs_end head) (laszip_vlr payload) (point_offset_of head + (54 + length payload)) (vlr_count_of head + 1) (format_byte_of head + 128)
  relaid = record {
    is = refl;
    head = p.head;
    after = header_before (vlr_count_of head) head;
    order = omega arith;
    end = p.head.vlrs;
  }

  -- the payload stands where the VLR says
  payload_there : payload_at place packed ≡ payload
  payload_there =
      let end = vlrs_end head in
      let far : 105 ≤ end = omega (arith, p.head.header_size, least_any (minor_of head), header_before (vlr_count_of head) head) in
      let vlr : drop end packed ≡ laszip_vlr payload ++ drop end head = after_relaid relaid end far ∙ drop_part head end end (laszip_vlr payload) p.head.vlrs in
      ap (λ (t : List ℕ). take (length payload) t) (sym (drop-drop 54 end packed) ∙ ap (λ (t : List ℕ). drop 54 t) vlr)
      ∙ take_at payload (drop end head) (length payload) refl

  extra_same : extra_of packed ≡ extra_of head
  extra_same = ap (λ (n : ℕ). n - format_size (format_of packed)) head_packed.records.record_length ∙ ap (λ (n : ℕ). record_length_of head - format_size n) head_packed.records.format

  pub vlr_fine : first_cause (vlr_causes packed) ≡ None
  vlr_fine =
      let fine = payload-fine (format_of head) (extra_of head) (points_of packed) chunk (omega (arith, head_packed.is_head.points)) least few in
      payload-decides packed payload place (format_of packed) (extra_of packed) (points_of packed) None (ap length head_packed.laszip) (ap (λ (ps : List VlrPlace). slice_get ps 0) head_packed.laszip)
      (sym payload_there) refl refl refl
      (sym (ap (λ (f : ℕ). first_cause (payload_causes f (extra_of packed) (points_of packed) payload)) head_packed.records.format
      ∙ ap (λ (e : ℕ). first_cause (payload_causes (format_of head) e (points_of packed) payload)) extra_same ∙ fine))

  pub chunk_size_is : chunk_size_of packed ≡ chunk
  chunk_size_is =
      ap chunk_size_in (payload-is packed place (ap (λ (ps : List VlrPlace). slice_get ps 0) head_packed.laszip) ∙ payload_there)
      ∙ payload-chunk (format_of head) (extra_of head) chunk (omega (arith, few))

  pub layout_same : record_layout packed ≡ record_layout head
  layout_same = ap (λ (f : ℕ). layout_of f (extra_of packed)) head_packed.records.format ∙ ap (layout_of (format_of head)) extra_same
