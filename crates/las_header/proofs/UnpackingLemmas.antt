-- A packed head without its laszip VLR: it is a head, and has no laszip VLR.
use Rattle.std.proofs.Common.{◌≡◌, ℕ, zero, suc, ◌+◌, ◌-◌, ◌<◌, ◌≤◌, ◌^◌, ◌==◌, ◌&&◌, inl, inr, nat_le, nat_eq, Bool, true, false, cond, List, [], ◌∷◌, length, drop, slice_get, Some, refl, sym, ap, ◌∙◌, subst, arith, length-append}
use Rattle.std.proofs.lemmas.List.{drop-drop, nil_from_length}
use Rattle.std.proofs.lemmas.Bool.{cases_eq, lt-leb}
use Rattle.std.specs.List.{splice, starts_with}
use Rattle.las_header.specs.declared.limits.TheConstants.{LASZIP_USER_ID, LASZIP_RECORD_ID}
use Rattle.las_header.specs.declared.vlrs.VlrPlace.{VlrPlace}
use Rattle.las_header.specs.Numbers.{number_at}
use Rattle.las_header.specs.Fields.{minor_of, point_offset_of, vlr_count_of, is_packed, format_of}
use Rattle.las_header.specs.Vlrs.{payload_length_at, vlr_start, vlr_place, vlrs_end, is_laszip, laszip_vlrs_of, first_size}
use Rattle.las_header.specs.Heads.{IsHead, laszip_size, IsPlainOf}
use Rattle.las_header.specs.Plain.{without_vlr, without_first}
use Rattle.las_header.proofs.NumberLemmas.{number_at-drop}
use Rattle.las_header.proofs.VlrLemmas.{vlr_start-mono, header_before, count_within, vlr_start-same, laszips, laszips-suc, laszips-same, IsLaszipAt, found_at}
use Rattle.las_header.proofs.CauseLemmas.{least_any}
use Rattle.las_header.proofs.LayoutLemmas.{IsRelaid, size_relaid, count_relaid, byte_relaid, after_relaid, header_relaid, vlrs_relaid, relaid_head, drop_part, records_relaid, points_relaid}

-- a packed head, its laszip VLR, and the number of this one among the VLRs
pub record CanUnpack (head : List ℕ) (place : VlrPlace) (k : ℕ) : Type 0 where
  pub head_is : IsHead head
  pub packed : is_packed head ≡ true
  pub only : laszip_vlrs_of head ≡ place ∷ []
  pub at : IsLaszipAt k (vlr_count_of head) head place

one_only : (ps : List VlrPlace) (place : VlrPlace) → length ps ≡ 1 → slice_get ps 0 ≡ Some place → ps ≡ place ∷ []
one_only [] place one first = absurd (cc)
one_only (p ∷ []) place one first = ap (λ (q : VlrPlace). q ∷ []) (cc)
one_only (p ∷ q ∷ ps) place one first = absurd (omega (arith, one))

pub can_unpack : (head : List ℕ) (place : VlrPlace) → IsHead head → is_packed head ≡ true → length (laszip_vlrs_of head) ≡ 1 → slice_get (laszip_vlrs_of head) 0 ≡ Some place
    → (k : ℕ) × CanUnpack head place k
can_unpack head place is packed one first =
    let found = found_at (vlr_count_of head) head place first in
    (found.0, record { head_is = is; packed = packed; only = one_only (laszip_vlrs_of head) place one first; at = found.1 })

place_start : {head : List ℕ} {place : VlrPlace} {k : ℕ} → CanUnpack head place k → place.start ≡ vlr_start k head
place_start u = ap (λ (p : VlrPlace). p.start) u.at.there

place_end : {head : List ℕ} {place : VlrPlace} {k : ℕ} → CanUnpack head place k → place.start + (54 + place.length) ≡ vlr_start (suc k) head
place_end u = ap (λ (p : VlrPlace). p.start + (54 + p.length)) u.at.there ∙ omega arith

relaid : {head : List ℕ} {place : VlrPlace} {k : ℕ} → CanUnpack head place k
    → IsRelaid head (without_vlr place head) place.start (place.start + (54 + place.length)) [] (point_offset_of head - (54 + place.length)) (vlr_count_of head - 1) (format_of head)
relaid {head = head} {place = place} {k = k} u = record {
  is = refl;
  head = u.head_is;
  after = omega (arith, place_start u, header_before k head);
  order = omega arith;
  end = omega (arith, place_end u, vlr_start-mono (suc k) (vlr_count_of head) head (omega (arith, u.at.below)), u.head_is.vlrs);
}

block_before : {head : List ℕ} {place : VlrPlace} {k : ℕ} → CanUnpack head place k → 227 ≤ place.start
block_before {head = head} {k = k} u =
    let least = least_any (minor_of head) in
    omega (arith, place_start u, header_before k head, u.head_is.header_size)

-- what stood after the laszip VLR stands before by its size
drop_moved : {head : List ℕ} {place : VlrPlace} {k : ℕ} → CanUnpack head place k → (a : ℕ) → place.start ≤ a
    → drop a (without_vlr place head) ≡ drop (a + (54 + place.length)) head
drop_moved {head = head} {place = place} u a after =
    let s = place.start in
    let n = 54 + place.length in
    let middle = splice head s (s + n) [] in
    let reach : s + (a - s) ≡ a = omega arith in
    let moved : s + n + (a - s) ≡ a + n = omega arith in
    let r = relaid u in
    after_relaid r a (omega (arith, block_before u))
    ∙ ap (λ (m : ℕ). drop m middle) (sym reach) ∙ sym (drop-drop (a - s) s middle)
    ∙ ap (λ (zs : List ℕ). drop (a - s) zs) (drop_part head s (s + n) [] (omega (arith, r.end)))
    ∙ drop-drop (a - s) (s + n) head ∙ ap (λ (m : ℕ). drop m head) moved

number_moved : {head : List ℕ} {place : VlrPlace} {k : ℕ} → CanUnpack head place k → (width a b : ℕ) → place.start ≤ a → a + (54 + place.length) ≡ b
    → number_at width a (without_vlr place head) ≡ number_at width b head
number_moved {head = head} {place = place} u width a b after moved =
    number_at-drop width a (without_vlr place head) ∙ ap (number_at width 0) (drop_moved u a after ∙ ap (λ (m : ℕ). drop m head) moved)
    ∙ sym (number_at-drop width b head)

start_kept : {head : List ℕ} {place : VlrPlace} {k : ℕ} → CanUnpack head place k → vlr_start k (without_vlr place head) ≡ vlr_start k head
start_kept {head = head} {place = place} {k = k} u =
    vlr_start-same k place.start head (without_vlr place head) (header_relaid (relaid u)) (vlrs_relaid (relaid u)) (omega (arith, place_start u))

start_here : {head : List ℕ} {place : VlrPlace} {k : ℕ} → CanUnpack head place k → (m : ℕ) → k ≡ m
    → vlr_start m (without_vlr place head) + (54 + place.length) ≡ vlr_start (suc m) head
start_here {head = head} {place = place} {k = k} u m same =
    subst (λ (i : ℕ). vlr_start i (without_vlr place head) + (54 + place.length) ≡ vlr_start (suc i) head) same
    (ap (λ (s : ℕ). s + (54 + place.length)) (start_kept u ∙ sym (place_start u)) ∙ place_end u)

start_after : {head : List ℕ} {place : VlrPlace} {k : ℕ} → CanUnpack head place k → (m : ℕ) → k ≤ m → place.start ≤ vlr_start m (without_vlr place head)
start_after {head = head} {place = place} {k = k} u m h =
    omega (arith, vlr_start-mono k m (without_vlr place head) h, start_kept u, place_start u)

-- each later VLR begins before by the size of the laszip VLR
start_moved : {head : List ℕ} {place : VlrPlace} {k : ℕ} → CanUnpack head place k → (m : ℕ) → k ≤ m
    → vlr_start m (without_vlr place head) + (54 + place.length) ≡ vlr_start (suc m) head
start_moved u zero h = start_here u zero (omega arith)
start_moved {head = head} {place = place} {k = k} u (suc m) h = elim (cases_eq k (suc m)) [
  | inl same ↦ start_here u (suc m) same
  | inr other ↦
      let before : k ≤ m = omega arith in
      let n = 54 + place.length in
      let v = vlr_start m (without_vlr place head) in
      let earlier = start_moved u m before in
      let payload : payload_length_at v (without_vlr place head) ≡ payload_length_at (vlr_start (suc m) head) head =
      number_moved u 2 (v + 20) (vlr_start (suc m) head + 20) (omega (arith, start_after u m before)) (omega (arith, earlier)) in
      omega (arith, earlier, payload)
]

flag_moved : {head : List ℕ} {place : VlrPlace} {k : ℕ} → CanUnpack head place k → (m : ℕ) → k ≤ m
    → is_laszip (without_vlr place head) (vlr_place m (without_vlr place head)) ≡ is_laszip head (vlr_place (suc m) head)
flag_moved {head = head} {place = place} u m h =
    let new = without_vlr place head in
    let v = vlr_start m new in
    let after = start_after u m h in
    let moved = start_moved u m h in
    let at_id : v + 2 + (54 + place.length) ≡ vlr_start (suc m) head + 2 = omega (arith, moved) in
    let id : drop (v + 2) new ≡ drop (vlr_start (suc m) head + 2) head = drop_moved u (v + 2) (omega (arith, after)) ∙ ap (λ (i : ℕ). drop i head) at_id in
    let record_id = number_moved u 2 (v + 18) (vlr_start (suc m) head + 18) (omega (arith, after)) (omega (arith, moved)) in
    ap (λ (zs : List ℕ). starts_with nat_eq zs LASZIP_USER_ID && (number_at 2 (v + 18) new == LASZIP_RECORD_ID)) id
    ∙ ap (λ (r : ℕ). starts_with nat_eq (drop (vlr_start (suc m) head + 2) head) LASZIP_USER_ID && (r == LASZIP_RECORD_ID)) record_id

length_if : (b : Bool) (p : VlrPlace) → length (cond b (p ∷ []) []) ≡ cond b 1 0
length_if true p = refl
length_if false p = refl

count_suc : (n : ℕ) (head : List ℕ) → length (laszips (suc n) head) ≡ length (laszips n head) + cond (is_laszip head (vlr_place n head)) 1 0
count_suc n head =
    ap length (laszips-suc n head) ∙ length-append (laszips n head) (cond (is_laszip head (vlr_place n head)) (vlr_place n head ∷ []) [])
    ∙ ap (λ (m : ℕ). length (laszips n head) + m) (length_if (is_laszip head (vlr_place n head)) (vlr_place n head))

count_here : {head : List ℕ} {place : VlrPlace} {k : ℕ} → CanUnpack head place k → (m : ℕ) → k ≡ m
    → length (laszips m (without_vlr place head)) + 1 ≡ length (laszips (suc m) head)
count_here {head = head} {place = place} {k = k} u m same =
    let kept : laszips k (without_vlr place head) ≡ laszips k head =
    laszips-same k place.start head (without_vlr place head) (header_relaid (relaid u)) (vlrs_relaid (relaid u)) (omega (arith, place_start u)) in
    subst (λ (i : ℕ). length (laszips i (without_vlr place head)) + 1 ≡ length (laszips (suc i) head)) same
    (ap (λ (ps : List VlrPlace). length ps + 1) kept ∙ sym (count_suc k head ∙ ap (λ (b : Bool). length (laszips k head) + cond b 1 0) u.at.flag))

-- and the laszip VLRs are one fewer
count_moved : {head : List ℕ} {place : VlrPlace} {k : ℕ} → CanUnpack head place k → (m : ℕ) → k ≤ m
    → length (laszips m (without_vlr place head)) + 1 ≡ length (laszips (suc m) head)
count_moved u zero h = count_here u zero (omega arith)
count_moved {head = head} {place = place} {k = k} u (suc m) h = elim (cases_eq k (suc m)) [
  | inl same ↦ count_here u (suc m) same
  | inr other ↦
      let before : k ≤ m = omega arith in
      let new = without_vlr place head in
      let earlier = count_moved u m before in
      let flags = ap (λ (b : Bool). cond {A = ℕ} b 1 0) (flag_moved u m before) in
      omega (arith, earlier, flags, count_suc m new, count_suc (suc m) head)
]

last_count : {head : List ℕ} {place : VlrPlace} {k : ℕ} → CanUnpack head place k → suc (vlr_count_of head - 1) ≡ vlr_count_of head
last_count u = omega (arith, u.at.below)

few : {head : List ℕ} {place : VlrPlace} {k : ℕ} → CanUnpack head place k → vlr_count_of head - 1 < 2 ^ 32
few {head = head} u = omega (arith, count_within (vlr_count_of head) head, u.head_is.vlrs, u.head_is.small)

none_left : {head : List ℕ} {place : VlrPlace} {k : ℕ} → CanUnpack head place k → laszip_vlrs_of (without_vlr place head) ≡ []
none_left {head = head} {place = place} u =
    let new = without_vlr place head in
    let counted = count_moved u (vlr_count_of head - 1) (omega (arith, u.at.below)) in
    let one : length (laszips (suc (vlr_count_of head - 1)) head) ≡ 1 = ap (λ (n : ℕ). length (laszips n head)) (last_count u) ∙ ap length u.only in
    ap (λ (n : ℕ). laszips n new) (count_relaid (relaid u) (few u)) ∙ nil_from_length (laszips (vlr_count_of head - 1) new) (omega (arith, counted, one))

plain_there : {head : List ℕ} {place : VlrPlace} {k : ℕ} → CanUnpack head place k → is_packed (without_vlr place head) ≡ false
plain_there {head = head} u = ap (λ (b : ℕ). nat_le 128 b) (byte_relaid (relaid u)) ∙ lt-leb 128 (format_of head) (omega arith)

plain_is_head : {head : List ℕ} {place : VlrPlace} {k : ℕ} → CanUnpack head place k → IsHead (without_vlr place head)
plain_is_head {head = head} {place = place} u =
    let new = without_vlr place head in
    let n = 54 + place.length in
    let size = size_relaid (relaid u) in
    let was : laszip_size head ≡ n = ap (λ (b : Bool). cond b (first_size (laszip_vlrs_of head)) 0) u.packed ∙ ap first_size u.only in
    let whole : point_offset_of head - n ≡ length new = omega (arith, size, u.head_is.whole) in
    let moved = start_moved u (vlr_count_of head - 1) (omega (arith, u.at.below)) in
    let end : vlr_start (suc (vlr_count_of head - 1)) head ≡ vlrs_end head = ap (λ (m : ℕ). vlr_start m head) (last_count u) in
    relaid_head (relaid u) whole (omega (arith, u.head_is.whole, u.head_is.small)) (few u) (omega arith)
    (omega (arith, moved, end, u.head_is.vlrs, size)) (omega (arith, size, was, u.head_is.near))

-- all that is said of a plain head
pub plains : (head : List ℕ) (place : VlrPlace) → IsHead head → is_packed head ≡ true → length (laszip_vlrs_of head) ≡ 1 → slice_get (laszip_vlrs_of head) 0 ≡ Some place
    → IsPlainOf head (without_vlr place head)
plains head place is packed one first =
    let u = (can_unpack head place is packed one first).1 in
    record {
      bytes = sym (ap (λ (b : Bool). cond b (without_first (laszip_vlrs_of head) head) head) u.packed ∙ ap (λ (ps : List VlrPlace). without_first ps head) u.only);
      is_head = plain_is_head u;
      plain = plain_there u;
      records = records_relaid (relaid u) (omega arith);
      points = points_relaid (relaid u);
      none = none_left u;
    }
