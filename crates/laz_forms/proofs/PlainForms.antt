-- A plain head and the records that it counts are an accepted file.
use Rattle.std.proofs.Common.{◌≡◌, ℕ, ◌+◌, ◌-◌, ◌&&◌, not, nat_lt, Bool, true, false, cond, List, [], ◌∷◌, ◌++◌, length, take, drop, Option, None, refl, sym, ap, subst, ◌∙◌, arith, length-append}
use Rattle.std.proofs.lemmas.List.{drop_at, take-take, take_at}
use Rattle.std.proofs.lemmas.Bool.{or_from, le-ltb}
use Rattle.las_header.specs.declared.refusal.Refusal.{Refusal}
use Rattle.las_header.specs.declared.refusal.Refusal.TheVariants as cause
use Rattle.las_header.specs.declared.vlrs.VlrPlace.{VlrPlace}
use Rattle.las_header.specs.Conditions.{IsFirst, conditions}
use Rattle.las_header.specs.Fields.{format_of, format_size, has_long_counts, head_of, is_packed, offset_limit, point_offset_of, record_length_of}
use Rattle.las_header.specs.Numbers.{number_at}
use Rattle.las_header.specs.Refusals.{causes_of, counted_size, ends_early, first_cause, front_causes, goes_on, has_bad_counts, has_bad_record_length, has_extended_vlrs, has_long_vlrs, has_other_format, has_stray_vlr, head_causes}
use Rattle.las_header.specs.Vlrs.{laszip_vlrs_of, vlrs_end}
use Rattle.las_header.proofs.Public.{front_decides, front_is_fine, IsFirst-append_none, IsFirst-tests, number_at-take}
use Rattle.las_header.proofs.Public.{no_extended, first_none}
use Rattle.las_header.specs.Limits.{IsChunkSize}
use Rattle.laz_table.specs.VlrCauses.{vlr_causes}
use Rattle.laz_table.proofs.Public.{IsBytes-append}
use Rattle.laz_forms.specs.Laws.{AreHeadAndRecords, CanBePacked, IsAcceptedPack, IsAcceptedPlain}
use Rattle.laz_forms.specs.Packing.{pack, packed_file}
use Rattle.laz_forms.specs.Records.{Unpacks}
use Rattle.laz_forms.specs.Refusing.{IsAcceptedFile, chunk_causes, has_bad_pointer, tested_causes}
use Rattle.laz_forms.proofs.Packed.{packed_accepted, plain-is, unpacks_again}
use Rattle.laz_forms.proofs.Forms.{both-fine}

and_false : (a b : Bool) → b ≡ false → (a && b) ≡ false
and_false true b e = e
and_false false b e = refl

module _ (head records : List ℕ) (p : AreHeadAndRecords head records) where
  abbrev file : List ℕ
  file = head ++ records

  front : take (length head) file ≡ head
  front = take_at head records (length head) refl

  pub offset-is : point_offset_of file ≡ length head
  offset-is = sym (number_at-take 4 96 (length head) file (omega (arith, p.head_is.block))) ∙ ap (number_at 4 96) front ∙ p.head_is.whole

  pub head-is : head_of file ≡ head
  head-is = ap (λ (n : ℕ). take n file) offset-is ∙ front

  pub records-is : drop (point_offset_of file) file ≡ records
  records-is = ap (λ (n : ℕ). drop n file) offset-is ∙ drop_at head records (length head) refl

  pub plain-kept : is_packed (head_of file) ≡ false
  plain-kept = ap is_packed head-is ∙ p.plain

  left : length file - point_offset_of head ≡ counted_size head
  left = omega (arith, length-append head records, p.whole, p.head_is.whole)

  front-fine : first_cause (front_causes file (length file)) ≡ None
  front-fine =
      let size = length file in
      let limit : offset_limit head ≡ 16777104 = ap (λ (b : Bool). cond b 16777216 16777104) p.plain in
      let same : take 227 file ≡ take 227 head = sym (take-take 227 (length head) file p.head_is.block) ∙ ap (λ (t : List ℕ). take 227 t) front in
      ap first_cause (sym (front_decides file size) ∙ ap (λ (t : List ℕ). front_causes t size) same ∙ front_decides head size)
      ∙ front_is_fine head size p.head_is (omega (arith, length-append head records)) (omega (arith, p.near, limit))

  head-fine : first_cause (head_causes head (length file)) ≡ None
  head-fine =
      let size = length file in
      let is = p.head_is in
      let stray_causes : List (Bool × Refusal) = (has_stray_vlr head, cause.StrayVlr) ∷ [] in
      let on_causes : List (Bool × Refusal) = (goes_on head size, cause.Trailing) ∷ stray_causes in
      let early_causes : List (Bool × Refusal) = (ends_early head size, cause.Count) ∷ on_causes in
      let counts_causes : List (Bool × Refusal) = (has_bad_counts head, cause.PointCounts) ∷ early_causes in
      let extended_causes : List (Bool × Refusal) = (has_extended_vlrs head, cause.Extended) ∷ counts_causes in
      let length_causes : List (Bool × Refusal) = (has_bad_record_length head, cause.RecordLength) ∷ extended_causes in
      let format_causes : List (Bool × Refusal) = (has_other_format head, cause.Format) ∷ length_causes in
      first_none (has_long_vlrs head) cause.Vlrs format_causes (le-ltb (point_offset_of head) (vlrs_end head) (omega (arith, is.vlrs, is.whole)))
      (first_none (has_other_format head) cause.Format length_causes (le-ltb 3 (format_of head) is.format)
      (first_none (has_bad_record_length head) cause.RecordLength extended_causes
      (or_from (nat_lt (record_length_of head) (format_size (format_of head))) (nat_lt (format_size (format_of head) + 192) (record_length_of head)) (le-ltb (record_length_of head) (format_size (format_of head)) is.record_length) (le-ltb (format_size (format_of head) + 192) (record_length_of head) is.extra))
      (first_none (has_extended_vlrs head) cause.Extended counts_causes (no_extended head (has_long_counts head) refl is)
      (first_none (has_bad_counts head) cause.PointCounts early_causes is.counts
      (first_none (ends_early head size) cause.Count on_causes (and_false (not (is_packed head)) (nat_lt (size - point_offset_of head) (counted_size head)) (le-ltb (size - point_offset_of head) (counted_size head) (omega (arith, left))))
      (first_none (goes_on head size) cause.Trailing stray_causes (and_false (not (is_packed head)) (nat_lt (counted_size head) (size - point_offset_of head)) (le-ltb (counted_size head) (size - point_offset_of head) (omega (arith, left))))
      (first_none (has_stray_vlr head) cause.StrayVlr [] (and_false (not (is_packed head)) (nat_lt 0 (length (laszip_vlrs_of head))) (ap (λ (ps : List VlrPlace). nat_lt 0 (length ps)) p.none)) refl)))))))

  more : List (Bool × Refusal)
  more = vlr_causes (head_of file) ++ (has_bad_pointer file, cause.TablePointer) ∷ []

  tests-fine : first_cause (tested_causes file) ≡ None
  unfolding more
  tests-fine =
      both-fine (causes_of file) (cond (is_packed (head_of file)) more [])
      (both-fine (front_causes file (length file)) (head_causes (head_of file) (length file)) front-fine (ap (λ (t : List ℕ). first_cause (head_causes t (length file))) head-is ∙ head-fine))
      (ap (λ (b : Bool). first_cause (cond b more [])) plain-kept)

  pub plain_accepted : IsAcceptedFile file
  plain_accepted =
      IsFirst-append_none (conditions (tested_causes file)) (chunk_causes (is_packed (head_of file)) file) None
      (subst (λ (o : Option Refusal). IsFirst (conditions (tested_causes file)) o) tests-fine (IsFirst-tests (tested_causes file)))
      (subst (λ (b : Bool). IsFirst (chunk_causes b file) None) (sym plain-kept) refl)

  can : (chunk : ℕ) → IsChunkSize chunk → CanBePacked file chunk
  can chunk size = record {
    accepted = plain_accepted;
    plain = plain-kept;
    bytes = IsBytes-append head records p.head_bytes p.record_bytes;
    size = size;
  }

  form-is : (chunk : ℕ) → packed_file file chunk ≡ pack head records chunk
  form-is chunk =
      ap (λ (h : List ℕ). pack h (drop (point_offset_of file) file) chunk) (sym (plain-is file plain-kept) ∙ head-is)
      ∙ ap (λ (rs : List ℕ). pack head rs chunk) records-is

  pub pack_accepted : (chunk : ℕ) → IsChunkSize chunk → IsAcceptedFile (pack head records chunk) × Unpacks (pack head records chunk) file
  pack_accepted chunk size = (
    subst (λ (form : List ℕ). IsAcceptedFile form) (form-is chunk) (packed_accepted file chunk (can chunk size)),
    subst (λ (form : List ℕ). Unpacks form file) (form-is chunk) (unpacks_again file chunk (can chunk size)),
  )

pub accepted_plain : IsAcceptedPlain
accepted_plain head records p = plain_accepted head records p

pub accepted_pack : IsAcceptedPack
accepted_pack head records chunk p size = pack_accepted head records p chunk size
