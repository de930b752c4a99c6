-- A made file is accepted, and so is its packed form.
use Rattle.std.proofs.Common.{◌≡◌, ℕ, ◌+◌, ◌*◌, ◌/◌, ◌<◌, cond, List, [], ◌∷◌, ◌++◌, length, take, drop, None, sym, ◌∙◌, ap, subst, length-append, false, arith, lit<}
use Rattle.std.specs.List.{concat}
use Rattle.std.proofs.Math.Nat.{mul-div_cancel_left}
use Rattle.std.proofs.lemmas.List.{append-nil, take_all}
use Rattle.las_header.specs.declared.refusal.Refusal.TheVariants as cause
use Rattle.las_header.specs.Conditions.{conditions}
use Rattle.las_header.specs.Counting.{counts_bytes, long_counts_bytes, with_counts}
use Rattle.las_header.specs.Fields.{head_of, is_packed, point_offset_of, points_of, record_length_of}
use Rattle.las_header.specs.Plain.{cut_records, plain_head}
use Rattle.las_header.specs.Refusals.{causes_of, first_cause, front_causes, head_causes}
use Rattle.las_header.proofs.Public.{first_is_tested}
use Rattle.las_header.specs.Limits.{IsChunkSize}
use Rattle.las_points.specs.Tally.{counts_of}
use Rattle.laz_table.specs.VlrCauses.{vlr_causes}
use Rattle.laz_table.proofs.Public.{IsBytes-append}
use Rattle.laz_forms.specs.Laws.{AreHeadAndRecords, CanBePacked}
use Rattle.laz_forms.specs.Outputs.{records_after}
use Rattle.laz_forms.specs.Refusing.{IsAcceptedFile, chunk_causes, has_bad_pointer, tested_causes}
use Rattle.laz_forms.proofs.Public.{IsFirst-none, both_none, length-counted, long-size, short-size, are_counted, packed_accepted, plain-is, unpacks_again, accepted_plain, head-is, offset-is, plain-kept, records-is}
use Rattle.las_make.specs.declared.settings.Settings.{Settings}
use Rattle.las_make.specs.Laws.{CanPackMade, UnpacksMade}
use Rattle.las_make.specs.Made.{IsInRange, blank_head, made_file, made_head, made_length, made_records}
use Rattle.las_make.proofs.Blank.{blank-is_head, blank-laszip, blank-length, blank-plain, blank-points, blank-record_length, length_some}
use Rattle.las_make.proofs.Bytes.{all_length, cut_again}
use Rattle.las_make.proofs.MadeBytes.{blank-bytes, records-bytes}

module _ (s : Settings) (range : IsInRange s) where
  abbrev blank : List ℕ
  blank = blank_head s

  abbrev records : List ℕ
  records = concat (made_records s)

  -- ---- the blank head is that of an empty file

  blank_alone : AreHeadAndRecords blank []
  blank_alone = record {
    head_is = blank-is_head s range;
    plain = blank-plain s range;
    none = blank-laszip s range;
    near = omega (arith, blank-length s range);
    head_bytes = blank-bytes s (omega (arith, range.format));
    whole = omega (arith, ap (λ (n : ℕ). record_length_of blank * n) (blank-points s range));
    record_bytes = λ i. lit< tt;
  }

  no_causes : first_cause (causes_of blank) ≡ None
  no_causes =
      let accepted : IsAcceptedFile blank = subst IsAcceptedFile (append-nil blank) (accepted_plain blank [] blank_alone) in
      let tests = IsFirst-none (conditions (tested_causes blank)) (chunk_causes (is_packed (head_of blank)) blank) accepted in
      let none = sym (first_is_tested (tested_causes blank) None tests.0) in
      (both_none (causes_of blank) (cond (is_packed (head_of blank)) (vlr_causes (head_of blank) ++ (has_bad_pointer blank, cause.TablePointer) ∷ []) []) none).0

  both_causes : (first_cause (front_causes blank 227) ≡ None) × (first_cause (head_causes blank 227) ≡ None)
  both_causes =
      let both = both_none (front_causes blank (length blank)) (head_causes (head_of blank) (length blank)) no_causes in
      let size = blank-length s range in
      let head : head_of blank ≡ blank = ap head_of (sym (append-nil blank)) ∙ head-is blank [] blank_alone in (
        ap (λ (n : ℕ). first_cause (front_causes blank n)) (sym size) ∙ both.0,
        ap (λ (n : ℕ). first_cause (head_causes blank n)) (sym size) ∙ ap (λ (h : List ℕ). first_cause (head_causes h (length blank))) (sym head) ∙ both.1,
      )

  blank-front : first_cause (front_causes blank 227) ≡ None
  blank-front = both_causes.0

  blank-head : first_cause (head_causes blank 227) ≡ None
  blank-head = both_causes.1

  pub blank_read : (bytes : List ℕ) → bytes ≡ blank → (first_cause (front_causes (take 227 bytes) 227) ≡ None) × (point_offset_of (take 227 bytes) ≡ length bytes)
  blank_read bytes is =
      let all : take 227 bytes ≡ blank = ap (λ (b : List ℕ). take 227 b) is ∙ take_all 227 blank (omega (arith, blank-length s range)) in (
        ap (λ (b : List ℕ). first_cause (front_causes b 227)) all ∙ blank-front,
        ap point_offset_of all ∙ (blank-is_head s range).whole ∙ ap (λ (b : List ℕ). length b) (sym is),
      )

  pub blank_causes : (bytes : List ℕ) → bytes ≡ blank → first_cause (head_causes bytes 227) ≡ None
  blank_causes bytes is = ap (λ (b : List ℕ). first_cause (head_causes b 227)) is ∙ blank-head

  -- ---- the head with its counts, and the records

  count_is : length records / made_length s ≡ s.points
  count_is =
      let some : 0 < made_length s = omega (arith, length_some s range) in
      ap (λ (n : ℕ). n / made_length s) (all_length s range 0 s.points) ∙ mul-div_cancel_left s.points some

  cut_is : records_after blank records ≡ made_records s
  cut_is =
      ap (λ (n : ℕ). cut_records n (length records / n) records) (blank-record_length s range)
      ∙ ap (λ (n : ℕ). cut_records (made_length s) n records) count_is ∙ cut_again s range 0 s.points

  pub made_parts : AreHeadAndRecords (made_head s) records
  made_parts =
      let whole : length records ≡ record_length_of blank * s.points = all_length s range 0 s.points ∙ ap (λ (n : ℕ). n * s.points) (sym (blank-record_length s range)) in
      subst (λ (rs : List (List ℕ)). AreHeadAndRecords (with_counts (counts_of rs) blank) records) cut_is
      (are_counted blank records s.points (blank-is_head s range) (blank-plain s range) (blank-laszip s range) (omega (arith, blank-length s range)) (blank-bytes s (omega (arith, range.format)))
      (records-bytes s 0 s.points) whole (omega (arith, range.points)))

  pub made_can : (chunk : ℕ) → IsChunkSize chunk → CanBePacked (made_file s) chunk
  made_can chunk size = record {
    accepted = accepted_plain (made_head s) records made_parts;
    plain = plain-kept (made_head s) records made_parts;
    bytes = IsBytes-append (made_head s) records made_parts.head_bytes made_parts.record_bytes;
    size = size;
  }

  pub made_records-is : drop (point_offset_of (made_file s)) (made_file s) ≡ records
  made_records-is = records-is (made_head s) records made_parts

  -- where the records stand in a made file, and how many bytes they take
  pub made_offset : point_offset_of (made_file s) ≡ 227
  made_offset =
      offset-is (made_head s) records made_parts
      ∙ length-counted blank (counts_bytes (counts_of (made_records s))) (long_counts_bytes (counts_of (made_records s))) (omega (arith, blank-length s range)) (blank-is_head s range).long_block (short-size (made_records s)) (long-size (made_records s))
      ∙ blank-length s range

  pub made_whole : length (made_file s) ≡ 227 + record_length_of (head_of (made_file s)) * points_of (head_of (made_file s))
  made_whole =
      let head : head_of (made_file s) ≡ made_head s = head-is (made_head s) records made_parts in
      let front : length (made_head s) ≡ 227 = sym (offset-is (made_head s) records made_parts) ∙ made_offset in
      let rest : length records ≡ record_length_of (head_of (made_file s)) * points_of (head_of (made_file s)) = made_parts.whole ∙ ap (λ (h : List ℕ). record_length_of h * points_of h) (sym head) in
      length-append (made_head s) records ∙ ap (λ (n : ℕ). n + length records) front ∙ ap (λ (n : ℕ). 227 + n) rest

  pub made_plain : is_packed (head_of (made_file s)) ≡ false
  made_plain = plain-kept (made_head s) records made_parts

  pub made_plain_head : plain_head (made_file s) ≡ made_head s
  made_plain_head = sym (plain-is (made_file s) (plain-kept (made_head s) records made_parts)) ∙ head-is (made_head s) records made_parts

pub can_pack_made : CanPackMade
can_pack_made s chunk range size = made_can s range chunk size

pub unpacks_made : UnpacksMade
unpacks_made s chunk range size =
    let can = made_can s range chunk size in
    (packed_accepted (made_file s) chunk can, unpacks_again (made_file s) chunk can)
