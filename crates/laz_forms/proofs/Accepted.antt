-- What is known of an accepted plain file: its head, and its records.
use Rattle.std.proofs.Common.{◌≡◌, inl, inr, ℕ, ◌*◌, ◌-◌, ◌≤◌, ◌&&◌, not, nat_le, Bool, true, false, cond, ltb-false, List, [], ◌∷◌, ◌++◌, length, take, drop, Option, Some, None, refl, sym, ap, ◌∙◌, arith, length-drop}
use Rattle.std.proofs.lemmas.List.{get_or-take, length-take-le, nil_from_length}
use Rattle.las_header.specs.declared.refusal.Refusal.{Refusal}
use Rattle.las_header.specs.declared.refusal.Refusal.TheVariants as cause
use Rattle.las_header.specs.Conditions.{Condition, IsFirst, conditions}
use Rattle.las_header.specs.Fields.{head_of, is_packed, minor_of, point_offset_of, points_of, record_length_of}
use Rattle.las_header.specs.Heads.{IsHead}
use Rattle.las_header.specs.Refusals.{causes_of, counted_size, first_cause, front_causes, head_causes, or_else}
use Rattle.las_header.specs.Vlrs.{laszip_vlrs_of}
use Rattle.las_header.proofs.Public.{accepted_front, accepted_head, can_read, first_of_both, front_decides, is_head, least_any, points_fit, first_is_tested, number_at-take}
use Rattle.laz_range.specs.Span.{IsBytes}
use Rattle.laz_range.proofs.Public.{IsBytes-drop, IsBytes-take}
use Rattle.laz_table.specs.VlrCauses.{vlr_causes}
use Rattle.laz_forms.specs.Refusing.{IsAcceptedFile, has_bad_pointer, chunk_causes, tested_causes}

-- if none of two joined lists of conditions holds, none of each does
pub IsFirst-none : (xs ys : List Condition) → IsFirst (xs ++ ys) None → IsFirst xs None × IsFirst ys None
IsFirst-none [] ys is = (refl, is)
IsFirst-none (c ∷ xs) ys is = elim is [
  | inl here ↦ let clash = here.1 in absurd (cc)
  | inr after ↦
      let rest = IsFirst-none xs ys after.1 in
      (inr (after.0, rest.0), rest.1)
]

-- and none of tests
or_none : (a b : Option Refusal) → or_else a b ≡ None → (a ≡ None) × (b ≡ None)
or_none None b e = (refl, e)
or_none (Some c) b e = absurd (cc)

pub both_none : (xs ys : List (Bool × Refusal)) → first_cause (xs ++ ys) ≡ None → (first_cause xs ≡ None) × (first_cause ys ≡ None)
both_none xs ys e = or_none (first_cause xs) (first_cause ys) (sym (first_of_both xs ys) ∙ e)

-- what is known of an accepted file before its points
pub record IsPlainFile (file : List ℕ) : Type 0 where
  pub head : IsHead (head_of file)
  pub plain : is_packed (head_of file) ≡ false
  pub none : laszip_vlrs_of (head_of file) ≡ []
  pub near : length (head_of file) ≤ 16777104
  pub head_bytes : IsBytes (head_of file)
  pub records : length (drop (point_offset_of file) file) ≡ record_length_of (head_of file) * points_of (head_of file)
  pub record_bytes : IsBytes (drop (point_offset_of file) file)

either_is : (b c : Bool) → b ≡ false → (not b && c) ≡ false → c ≡ false
either_is true c e f = absurd (cc)
either_is false c e f = f

limit_is : (b : Bool) (far near : ℕ) → b ≡ false → cond b far near ≡ near
limit_is true far near e = absurd (cc)
limit_is false far near e = refl

no_causes : (file : List ℕ) → IsAcceptedFile file → first_cause (causes_of file) ≡ None
no_causes file accepted =
    let tests = IsFirst-none (conditions (tested_causes file)) (chunk_causes (is_packed (head_of file)) file) accepted in
    let none = sym (first_is_tested (tested_causes file) None tests.0) in
    (both_none (causes_of file) (cond (is_packed (head_of file)) (vlr_causes (head_of file) ++ (has_bad_pointer file, cause.TablePointer) ∷ []) []) none).0

-- the head of an accepted file goes on to its points
pub head_long : (file : List ℕ) → IsAcceptedFile file → length (head_of file) ≡ point_offset_of file
head_long file accepted =
    let causes = both_none (front_causes file (length file)) (head_causes (head_of file) (length file)) (no_causes file accepted) in
    length-take-le (point_offset_of file) file (accepted_front file (length file) causes.0).within

-- it is a head
pub accepted_is_head : (file : List ℕ) → IsAcceptedFile file → IsBytes file → IsHead (head_of file)
accepted_is_head file accepted bytes =
    let size = length file in
    let offset = point_offset_of file in
    let head = head_of file in
    let causes = both_none (front_causes file size) (head_causes head size) (no_causes file accepted) in
    let front = accepted_front file size causes.0 in
    let fine = accepted_head head size causes.1 in
    let least : 227 ≤ offset = omega (arith, front.header_size, front.after, least_any (minor_of file)) in
    let front_none : first_cause (front_causes (take 227 file) size) ≡ None = ap first_cause (front_decides file size) ∙ causes.0 in
    let can = can_read file offset size least front.within front_none (sym (number_at-take 4 96 227 file (omega arith))) in
    is_head head size (points_fit head (IsBytes-take offset file bytes) fine.counts) can.accepted can.whole causes.1

pub plain_file : (file : List ℕ) → IsAcceptedFile file → is_packed (head_of file) ≡ false → IsBytes file → IsPlainFile file
plain_file file accepted plain bytes =
    let size = length file in
    let offset = point_offset_of file in
    let head = head_of file in
    let causes = both_none (front_causes file size) (head_causes head size) (no_causes file accepted) in
    let front = accepted_front file size causes.0 in
    let fine = accepted_head head size causes.1 in
    let least : 227 ≤ offset = omega (arith, front.header_size, front.after, least_any (minor_of file)) in
    let front_none : first_cause (front_causes (take 227 file) size) ≡ None = ap first_cause (front_decides file size) ∙ causes.0 in
    let can = can_read file offset size least front.within front_none (sym (number_at-take 4 96 227 file (omega arith))) in
    let head_bytes : IsBytes head = IsBytes-take offset file bytes in
    let long : length head ≡ offset = length-take-le offset file front.within in
    let is = is_head head size (points_fit head head_bytes fine.counts) can.accepted can.whole causes.1 in
    let early = ltb-false (size - point_offset_of head) (counted_size head) (either_is (is_packed head) _ plain fine.early) in
    let on = ltb-false (counted_size head) (size - point_offset_of head) (either_is (is_packed head) _ plain fine.on) in
    let stray = ltb-false 0 (length (laszip_vlrs_of head)) (either_is (is_packed head) _ plain fine.stray) in
    let kind : is_packed file ≡ false = ap (λ (b : ℕ). nat_le 128 b) (sym (get_or-take offset file 104 0 (omega (arith, least)))) ∙ plain in
    record {
      head = is;
      plain = plain;
      none = nil_from_length (laszip_vlrs_of head) (omega (arith, stray));
      near = omega (arith, front.near, long, limit_is (is_packed file) 16777216 16777104 kind);
      head_bytes = head_bytes;
      records = omega (arith, length-drop offset file, early, on, is.whole, long);
      record_bytes = IsBytes-drop offset file bytes;
    }

-- as many records follow the head of an accepted plain file as it counts
pub plain_records : (file : List ℕ) → IsAcceptedFile file → is_packed (head_of file) ≡ false → IsHead (head_of file) → length (drop (point_offset_of file) file) ≡ record_length_of (head_of file) * points_of (head_of file)
plain_records file accepted plain is =
    let size = length file in
    let offset = point_offset_of file in
    let head = head_of file in
    let causes = both_none (front_causes file size) (head_causes head size) (no_causes file accepted) in
    let front = accepted_front file size causes.0 in
    let fine = accepted_head head size causes.1 in
    let long : length head ≡ offset = length-take-le offset file front.within in
    let early = ltb-false (size - point_offset_of head) (counted_size head) (either_is (is_packed head) _ plain fine.early) in
    let on = ltb-false (counted_size head) (size - point_offset_of head) (either_is (is_packed head) _ plain fine.on) in
    omega (arith, length-drop offset file, early, on, is.whole, long)
