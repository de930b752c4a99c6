-- The records of an accepted file are whole.
use Rattle.std.proofs.Common.{◌≡◌, ℕ, zero, suc, ◌+◌, ◌*◌, ◌/◌, ◌<◌, ◌≤◌, List, ◌∷◌, length, take, drop, sym, ◌∙◌, ap, subst, arith}
use Rattle.std.specs.Prelude.{All, slice_index_or}
use Rattle.std.specs.List.{concat}
use Rattle.std.proofs.Math.Nat.{mul-div_cancel_left}
use Rattle.las_header.specs.Fields.{head_of, point_offset_of, points_of, record_length_of}
use Rattle.las_header.specs.Plain.{cut_records, plain_head}
use Rattle.las_header.proofs.Public.{cut_length, cut_whole}
use Rattle.laz_range.specs.Span.{IsBytes}
use Rattle.laz_range.proofs.Public.{IsBytes-take, IsBytes-drop}
use Rattle.laz_forms.specs.Outputs.{records_after}
use Rattle.laz_forms.proofs.Public.{plain_file, plain-is, reads_plain}
use Rattle.laz_copied.proofs.Public.{all_there}
use Rattle.las_run.specs.EndingLaws.{AreWhole, PackedRecordsAreWhole, PlainRecordsAreWhole}

cut_bytes : (size n : ℕ) (bytes : List ℕ) → IsBytes bytes → All IsBytes (cut_records size n bytes)
cut_bytes size zero bytes are = λ k d within. absurd (omega (arith, within))
cut_bytes size (suc n) bytes are = go (cut_bytes size n (drop size bytes) (IsBytes-drop size bytes are))
  where
    go : All IsBytes (cut_records size n (drop size bytes)) → (k : ℕ) (d : List ℕ) → k < length (take size bytes ∷ cut_records size n (drop size bytes))
        → IsBytes (slice_index_or (take size bytes ∷ cut_records size n (drop size bytes)) k d)
    go rest zero d within = IsBytes-take size bytes are
    go rest (suc k) d within = rest k d (omega (arith, within))

pub plain_records_are_whole : PlainRecordsAreWhole
plain_records_are_whole file rule records accepted plain bytes splits =
    let p = plain_file file accepted plain bytes in
    let head = head_of file in
    let text = drop (point_offset_of file) file in
    let size = record_length_of head in
    let some : 0 < size = omega (arith, p.head.record_length) in
    let many : length text / size ≡ points_of head = ap (λ (n : ℕ). n / size) p.records ∙ mul-div_cancel_left (points_of head) some in
    let fits : size * (length text / size) ≤ length text = omega (arith, p.records, ap (λ (n : ℕ). size * n) many) in
    let joined : concat splits.0 ≡ text = reads_plain file accepted plain bytes splits.1.0 splits.0 splits.1.1 splits.1.2 in
    let cut : records_after head text ≡ records = ap (records_after head) (sym joined) ∙ splits.2.records_are in
    let whole : AreWhole head (records_after head text) = record {
      head_is = p.head;
      plain = p.plain;
      none = p.none;
      near = p.near;
      head_bytes = p.head_bytes;
      each = cut_whole size (length text / size) text fits;
      bytes = cut_bytes size (length text / size) text p.record_bytes;
      few = omega (arith, cut_length size (length text / size) text, many, p.head.points);
    } in
    subst (λ (rs : List (List ℕ)). AreWhole (plain_head file) rs) cut (subst (λ (h : List ℕ). AreWhole h (records_after head text)) (plain-is file plain) whole)

pub packed_records_are_whole : PackedRecordsAreWhole
packed_records_are_whole file rule records accepted packed bytes near splits =
    let there = all_there file accepted packed bytes splits.0 splits.1 in
    let head = head_of file in
    let text = concat splits.0 in
    let size = record_length_of head in
    let same : record_length_of (plain_head file) ≡ size = there.head.records.record_length in
    let some : 0 < size = omega (arith, there.head.is_head.record_length, same) in
    let many : length text / size ≡ points_of head = ap (λ (n : ℕ). n / size) there.long ∙ mul-div_cancel_left (points_of head) some in
    let fits : size * (length text / size) ≤ length text = omega (arith, there.long, ap (λ (n : ℕ). size * n) many) in
    let whole : AreWhole (plain_head file) (records_after head text) = record {
      head_is = there.head.is_head;
      plain = there.head.plain;
      none = there.head.none;
      near = near;
      head_bytes = there.head_bytes;
      each = subst (λ (n : ℕ). All (λ r. length r ≡ n) (records_after head text)) (sym same) (cut_whole size (length text / size) text fits);
      bytes = cut_bytes size (length text / size) text there.bytes;
      few = omega (arith, cut_length size (length text / size) text, many, there.head.is_head.points, there.head.points);
    } in
    subst (λ (rs : List (List ℕ)). AreWhole (plain_head file) rs) splits.2.records_are whole
