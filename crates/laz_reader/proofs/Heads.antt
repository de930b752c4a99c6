-- What is known of a file from what was read of its front, its head and its table.
use Rattle.std.proofs.Common.{◌≡◌, ℕ, ◌≤◌, min, nat_lt, ltb-false, Bool, false, not, ◌&&◌, List, [], ◌∷◌, subst, length, take, drop, Option, Some, None, Result, Ok, Err, refl, sym, ◌∙◌, ap, arith}
use Rattle.std.specs.Prelude.{IsErrAnd}
use Rattle.std.proofs.lemmas.List.{take_min}
use Rattle.std.proofs.lemmas.Result.{err_from_is_err_and}
use Rattle.las_header.specs.declared.refusal.Refusal.{Refusal}
use Rattle.las_header.specs.Fields.{head_of, is_packed, point_offset_of}
use Rattle.las_header.specs.declared.vlrs.VlrPlace.{VlrPlace}
use Rattle.las_header.specs.Vlrs.{laszip_vlrs_of}
use Rattle.las_header.specs.Heads.{HeadView}
use Rattle.las_header.specs.Refusals.{causes_of, first_cause, front_causes, head_causes, or_else}
use Rattle.las_header.proofs.Public.{accepted_head, first_of_both, front_decides, number_at-take}
use Rattle.las_outside.specs.Files.{FileMap, WhereKnown}
use Rattle.las_outside.specs.Outside.{Outside}
use Rattle.laz_forms.proofs.Public.{known_three}
use Rattle.laz_forms.specs.declared.fault.Fault.{Fault}
use Rattle.laz_forms.specs.declared.fault.Fault.TheVariants.{Refused, Read, Write, Memory}
use Rattle.laz_reader.specs.Reading.{FailsReading, IsHeadOf}

-- the exit of a `?` gives the fault
pub residual_is : {T : Type 0} (r : Result T Fault) (fault : Fault) (cause : Refusal) → IsErrAnd r (λ e. e ≡ fault) → r ≡ Err (Refused cause) → fault ≡ Refused cause
residual_is r fault cause exit is = let p = err_from_is_err_and r exit in let given = p.1 in let same = p.2 in cc

-- a call that reads bytes that are there refuses nothing
pub not_refused : {X : Type 0} (old new : Outside) (fault : Fault) (cause : Refusal) → FailsReading old new fault → fault ≡ Refused cause → X
not_refused old new (Refused c) cause ends is = absurd ends
not_refused old new Read cause ends is = absurd (cc)
not_refused old new Write cause ends is = absurd ends
not_refused old new Memory cause ends is = absurd (cc)

pub never_refused : {T X : Type 0} (old new : Outside) (r : Result T Fault) (fault : Fault) (cause : Refusal) → IsErrAnd r (λ e. e ≡ fault) → FailsReading old new fault → r ≡ Err (Refused cause) → X
never_refused old new r fault cause exit ends is = not_refused old new fault cause ends (residual_is r fault cause exit is)

-- the cause in an answer
pub same_cause : {T : Type 0} (a b : Refusal) → ◌≡◌ {A = Result T Fault} (Err (Refused a)) (Err (Refused b)) → a ≡ b
same_cause a b is = cc

-- a call that answers Ok if there is no cause, and else the cause
pub none_of_ok : {T : Type 0} (o : Option Refusal) (r : Result T Refusal) (v x : T) → (o ≡ None → r ≡ Ok v) → ((cause : Refusal) → o ≡ Some cause → r ≡ Err cause) → r ≡ Ok x → (o ≡ None) × (x ≡ v)
none_of_ok None r v x ok err is = (refl, let given = ok refl in cc)
none_of_ok (Some cause) r v x ok err is = absurd (let given = err cause refl in cc)

pub cause_of_err : {T : Type 0} (o : Option Refusal) (r : Result T Refusal) (v : T) (cause : Refusal) → (o ≡ None → r ≡ Ok v) → ((cause : Refusal) → o ≡ Some cause → r ≡ Err cause) → r ≡ Err cause → o ≡ Some cause
cause_of_err None r v cause ok err is = absurd (let given = ok refl in cc)
cause_of_err (Some other) r v cause ok err is = let given = err other refl in let same : other ≡ cause = cc in ap (λ (x : Refusal). Some x) same

-- the front of a file
pub front_read : (file old new : List ℕ) (size start most : ℕ) → size ≡ length file → most ≡ min size 227 → old ≡ [] → start ≡ 0 → (old ≡ take start (drop 0 file) → new ≡ take most (drop 0 file)) → new ≡ take 227 file
front_read file old new size start most size_is most_is none first read =
    let few : most ≡ min 227 (length file) = omega (arith, size_is, most_is) in
    read (none ∙ ap (λ (n : ℕ). take n file) (sym first)) ∙ ap (λ (n : ℕ). take n file) few ∙ take_min 227 file

pub front_cause : (file front : List ℕ) (size : ℕ) (r : Result ℕ Refusal) (a b : Refusal) → front ≡ take 227 file
    → (first_cause (front_causes front size) ≡ None → r ≡ Ok (point_offset_of front)) → ((c : Refusal) → first_cause (front_causes front size) ≡ Some c → r ≡ Err c) → r ≡ Err a → a ≡ b
    → first_cause (front_causes file size) ≡ Some b
front_cause file front size r a b same ok err is ab =
    ap first_cause (sym (front_decides file size) ∙ ap (λ (f : List ℕ). front_causes f size) (sym same)) ∙ cause_of_err (first_cause (front_causes front size)) r (point_offset_of front) a ok err is ∙ ap (λ (x : Refusal). Some x) ab

-- the causes of front and head, one after another
parts : (file : List ℕ) → first_cause (causes_of file) ≡ or_else (first_cause (front_causes file (length file))) (first_cause (head_causes (head_of file) (length file)))
parts file = first_of_both (front_causes file (length file)) (head_causes (head_of file) (length file))

pub refused_by_front : (file : List ℕ) (size : ℕ) (cause : Refusal) → size ≡ length file → first_cause (front_causes file size) ≡ Some cause → first_cause (causes_of file) ≡ Some cause
refused_by_front file size cause size_is is =
    parts file ∙ ap (λ (o : Option Refusal). or_else o (first_cause (head_causes (head_of file) (length file)))) (ap (λ (n : ℕ). first_cause (front_causes file n)) (sym size_is) ∙ is)

-- the head that was read after the front
pub record HeadRead (file front bytes : List ℕ) (size offset : ℕ) : Type 0 where
  pub size_is : size ≡ length file
  pub front_is : front ≡ take 227 file
  pub fine : first_cause (front_causes front size) ≡ None
  pub offset_is : offset ≡ point_offset_of front
  pub bytes_are : bytes ≡ take offset (drop 0 file)

module _ (file front bytes : List ℕ) (size offset : ℕ) (h : HeadRead file front bytes size offset) where
  pub read_head_is : bytes ≡ head_of file
  read_head_is = h.bytes_are ∙ ap (λ (n : ℕ). take n file) (h.offset_is ∙ ap point_offset_of h.front_is ∙ number_at-take 4 96 227 file (omega arith))

  front_fine : first_cause (front_causes file (length file)) ≡ None
  front_fine =
      ap first_cause (ap (λ (n : ℕ). front_causes file n) (sym h.size_is) ∙ sym (front_decides file size) ∙ ap (λ (f : List ℕ). front_causes f size) (sym h.front_is)) ∙ h.fine

  causes_are : first_cause (causes_of file) ≡ first_cause (head_causes bytes size)
  causes_are =
      parts file ∙ ap (λ (o : Option Refusal). or_else o (first_cause (head_causes (head_of file) (length file)))) front_fine
      ∙ ap (λ (b : List ℕ). first_cause (head_causes b (length file))) (sym read_head_is) ∙ ap (λ (n : ℕ). first_cause (head_causes bytes n)) (sym h.size_is)

  pub head_accepted : (r : Result HeadView Refusal) (head : HeadView) → (first_cause (head_causes bytes size) ≡ None → r ≡ Ok (record { bytes = bytes; size = size })) → ((c : Refusal) → first_cause (head_causes bytes size) ≡ Some c → r ≡ Err c) → r ≡ Ok head → IsHeadOf file head
  head_accepted r head ok err is =
      let both = none_of_ok (first_cause (head_causes bytes size)) r (record { bytes = bytes; size = size }) head ok err is in
      record {
        bytes = ap (λ (v : HeadView). v.bytes) both.1 ∙ read_head_is;
        size = ap (λ (v : HeadView). v.size) both.1 ∙ h.size_is;
        none = causes_are ∙ both.0;
      }

  pub head_refused : (r : Result HeadView Refusal) (a b : Refusal) → (first_cause (head_causes bytes size) ≡ None → r ≡ Ok (record { bytes = bytes; size = size })) → ((c : Refusal) → first_cause (head_causes bytes size) ≡ Some c → r ≡ Err c) → r ≡ Err a → a ≡ b → first_cause (causes_of file) ≡ Some b
  head_refused r a b ok err is ab =
      causes_are ∙ cause_of_err (first_cause (head_causes bytes size)) r (record { bytes = bytes; size = size }) a ok err is ∙ ap (λ (x : Refusal). Some x) ab

-- what Head::read gives is what it was given
pub head_given : (bytes : List ℕ) (size : ℕ) (r : Result HeadView Refusal) (head : HeadView) → (first_cause (head_causes bytes size) ≡ None → r ≡ Ok (record { bytes = bytes; size = size })) → ((c : Refusal) → first_cause (head_causes bytes size) ≡ Some c → r ≡ Err c) → r ≡ Ok head → head ≡ record { bytes = bytes; size = size }
head_given bytes size r head ok err is = (none_of_ok (first_cause (head_causes bytes size)) r (record { bytes = bytes; size = size }) head ok err is).1

-- what was read in two steps, if the files are known
pub head_known : (held : Option FileMap) (name front bytes : List ℕ) (size offset long : ℕ) → WhereKnown held name (λ file. size ≡ length file) → WhereKnown held name (λ file. front ≡ take 227 file)
    → WhereKnown held name (λ file. front ≡ take long (drop 0 file) → bytes ≡ take offset (drop 0 file)) → long ≡ 227 → first_cause (front_causes front size) ≡ None → offset ≡ point_offset_of front → WhereKnown held name (λ file. HeadRead file front bytes size offset)
head_known held name front bytes size offset long sized fronted read long_is fine offset_is =
    known_three held name (λ file. size ≡ length file) (λ file. front ≡ take 227 file) (λ file. front ≡ take long (drop 0 file) → bytes ≡ take offset (drop 0 file)) (λ file. HeadRead file front bytes size offset)
    (λ file s f r. record { size_is = s; front_is = f; fine = fine; offset_is = offset_is; bytes_are = r (f ∙ ap (λ (n : ℕ). take n file) (sym long_is)) }) sized fronted read

-- a plain head that is not refused has no laszip VLR
no_places : (places : List VlrPlace) → length places ≤ 0 → places ≡ []
no_places [] h = refl
no_places (p ∷ places) h = absurd (omega arith)

pub no_stray : (head : List ℕ) (size : ℕ) → first_cause (head_causes head size) ≡ None → is_packed head ≡ false → laszip_vlrs_of head ≡ []
no_stray head size none plain =
    let stray = (accepted_head head size none).stray in
    no_places (laszip_vlrs_of head) (ltb-false 0 (length (laszip_vlrs_of head)) (ap (λ (b : Bool). not b && nat_lt 0 (length (laszip_vlrs_of head))) (sym plain) ∙ stray))

pub no_stray_read : (bytes : List ℕ) (size : ℕ) (r : Result HeadView Refusal) (head : HeadView) → (first_cause (head_causes bytes size) ≡ None → r ≡ Ok (record { bytes = bytes; size = size })) → ((c : Refusal) → first_cause (head_causes bytes size) ≡ Some c → r ≡ Err c) → r ≡ Ok head → is_packed head.bytes ≡ false → laszip_vlrs_of head.bytes ≡ []
no_stray_read bytes size r head ok err is =
    let both = none_of_ok (first_cause (head_causes bytes size)) r (record { bytes = bytes; size = size }) head ok err is in
    subst (λ (b : List ℕ). is_packed b ≡ false → laszip_vlrs_of b ≡ []) (sym (ap (λ (v : HeadView). v.bytes) both.1)) (no_stray bytes size both.0)
