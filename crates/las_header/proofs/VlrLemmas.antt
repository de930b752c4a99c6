-- VLRs, one after another: where they begin, and which of them are laszip VLRs.
use Rattle.std.proofs.Common.{IsSomeAnd, Option, None, subst, ◌≡◌, ℕ, zero, suc, ◌+◌, ◌-◌, ◌==◌, ◌&&◌, nat_eq, take, drop, ◌<◌, ◌≤◌, inl, inr, Bool, true, false, cond, List, [], ◌∷◌, ◌++◌, length, Some, refl, sym, ap, ◌∙◌, arith, add-one, filter, slice_get, append-nil}
use Rattle.std.proofs.lemmas.Bool.{cases_eq}
use Rattle.std.proofs.lemmas.List.Elements.{filter-append}
use Rattle.las_header.specs.declared.vlrs.VlrPlace.{VlrPlace}
use Rattle.las_header.specs.declared.limits.TheConstants.{LASZIP_USER_ID, LASZIP_RECORD_ID}
use Rattle.las_header.specs.Numbers.{number_at}
use Rattle.las_header.specs.Fields.{header_size_of, vlr_count_of}
use Rattle.las_header.proofs.NumberLemmas.{number_at-part}
use Rattle.std.proofs.lemmas.List.{drop-drop, take-take}
use Rattle.std.specs.List.{starts_with}
use Rattle.las_header.specs.Vlrs.{payload_length_at, vlr_start, vlrs_end, laszip_vlrs_of, vlr_place, first_vlrs, is_laszip}

-- a later VLR begins later
pub vlr_start-mono : (m n : ℕ) (head : List ℕ) → m ≤ n → vlr_start m head ≤ vlr_start n head
vlr_start-mono m zero head h = let same : m ≡ 0 = omega arith in rw same (omega arith)
vlr_start-mono m (suc n) head h =
    elim (cases_eq m (suc n)) [
      | inl same ↦ rw same (omega arith)
      | inr other ↦ let earlier = vlr_start-mono m n head (omega arith) in omega arith
    ]

-- the head of a VLR lies before the end of the last one
pub vlr_head_fits : (i count : ℕ) (head : List ℕ) → i < count → vlr_start i head + 54 + payload_length_at (vlr_start i head) head ≤ vlr_start count head
vlr_head_fits i count head h = vlr_start-mono (suc i) count head (omega arith)

-- so a VLR that is met on the way is whole
pub place_fits : (i at : ℕ) (head : List ℕ) → i < vlr_count_of head → at ≡ vlr_start i head → vlrs_end head ≤ length head → at + 54 ≤ length head
place_fits i at head h is whole = let fits = vlr_head_fits i (vlr_count_of head) head h in omega arith

pub vlr_start-more : (i : ℕ) (head : List ℕ) → vlr_start (i + 1) head ≡ vlr_start i head + 54 + payload_length_at (vlr_start i head) head
vlr_start-more i head = rw add-one refl

-- a place that is read is that of the VLR of its number, and its end begins the next one
pub place_is : (p : VlrPlace) (i at : ℕ) (head : List ℕ) → p.start ≡ at → p.length ≡ payload_length_at at head → at ≡ vlr_start i head → p ≡ vlr_place i head
place_is p i at head start payload is =
    let first = start ∙ is in
    let second = payload ∙ ap (λ (a : ℕ). payload_length_at a head) is in
    λ j. record { start = first j; length = second j }

pub end_is : (p : VlrPlace) (i e : ℕ) (head : List ℕ) → p ≡ vlr_place i head → e ≡ p.start + 54 + p.length → e ≡ vlr_start (i + 1) head
end_is p i e head place is = is ∙ ap (λ (q : VlrPlace). q.start + 54 + q.length) place ∙ sym (vlr_start-more i head)

-- the laszip VLRs among the first n
abbrev pub laszips : ℕ → List ℕ → List VlrPlace
laszips n head = filter (is_laszip head) (first_vlrs n head)

pub laszips-suc : (n : ℕ) (head : List ℕ) → laszips (suc n) head ≡ laszips n head ++ cond (is_laszip head (vlr_place n head)) (vlr_place n head ∷ []) []
laszips-suc n head = filter-append (is_laszip head) (first_vlrs n head) (vlr_place n head ∷ [])

pub laszips-found : (i : ℕ) (head : List ℕ) → is_laszip head (vlr_place i head) ≡ true → laszips (i + 1) head ≡ laszips i head ++ vlr_place i head ∷ []
laszips-found i head found = rw (add-one) (laszips-suc i head ∙ ap (λ (b : Bool). laszips i head ++ cond b (vlr_place i head ∷ []) []) found)

pub laszips-other : (i : ℕ) (head : List ℕ) → is_laszip head (vlr_place i head) ≡ false → laszips (i + 1) head ≡ laszips i head
laszips-other i head other = rw (add-one) (laszips-suc i head ∙ ap (λ (b : Bool). laszips i head ++ cond b (vlr_place i head ∷ []) []) other ∙ append-nil (laszips i head))

-- the first of a list is the first of a longer one
pub slice_get-append : (xs ys : List VlrPlace) (x : VlrPlace) → slice_get xs 0 ≡ Some x → slice_get (xs ++ ys) 0 ≡ Some x
slice_get-append [] ys x h = absurd (cc)
slice_get-append (y ∷ xs) ys x h = h

pub first_stays : (m n : ℕ) (head : List ℕ) (x : VlrPlace) → m ≤ n → slice_get (laszips m head) 0 ≡ Some x → slice_get (laszips n head) 0 ≡ Some x
first_stays m zero head x h first = let same : m ≡ 0 = omega arith in rw same at first
first_stays m (suc n) head x h first =
    elim (cases_eq m (suc n)) [
      | inl same ↦ rw same at first
      | inr other ↦ rw (laszips-suc n head)
          (slice_get-append (laszips n head) (cond (is_laszip head (vlr_place n head)) (vlr_place n head ∷ []) []) x (first_stays m n head x (omega arith) first))
    ]

-- some bytes of two lists are the same, between two places
abbrev pub SameIn : (from to : ℕ) → (xs ys : List ℕ) → Type 0
SameIn from to xs ys = (a k : ℕ) → from ≤ a → a + k ≤ to → take k (drop a ys) ≡ take k (drop a xs)

pub SameIn-tail : (from to : ℕ) (xs ys : List ℕ) → drop from ys ≡ drop from xs → SameIn from to xs ys
SameIn-tail from to xs ys same a k after within =
    let reach : from + (a - from) ≡ a = omega arith in
    let part = λ (zs : List ℕ). let r : drop (a - from) (drop from zs) ≡ drop a zs = drop-drop (a - from) from zs ∙ ap (λ (n : ℕ). drop n zs) reach in r in
    ap (λ (zs : List ℕ). take k zs) (sym (part ys) ∙ ap (λ (zs : List ℕ). drop (a - from) zs) same ∙ part xs)

number_same : (width at from to : ℕ) (xs ys : List ℕ) → SameIn from to xs ys → from ≤ at → at + width ≤ to → number_at width at ys ≡ number_at width at xs
number_same width at from to xs ys same after within =
    number_at-part width at ys ∙ ap (number_at width 0) (same at width after within) ∙ sym (number_at-part width at xs)

pub header_before : (n : ℕ) (head : List ℕ) → header_size_of head ≤ vlr_start n head
header_before n head = vlr_start-mono 0 n head (omega arith)

-- if the bytes of the VLRs are the same, these begin at the same places, and the same of them are laszip VLRs
pub vlr_start-same : (n to : ℕ) (xs ys : List ℕ) → header_size_of ys ≡ header_size_of xs → SameIn (header_size_of xs) to xs ys
    → vlr_start n xs ≤ to → vlr_start n ys ≡ vlr_start n xs
vlr_start-same zero to xs ys header same within = header
vlr_start-same (suc n) to xs ys header same within =
    let before = vlr_start-same n to xs ys header same (omega arith) in
    let payload = number_same 2 (vlr_start n xs + 20) (header_size_of xs) to xs ys same (omega (arith, header_before n xs)) (omega arith) in
    ap (λ (s : ℕ). s + 54 + payload_length_at s ys) before ∙ ap (λ (p : ℕ). vlr_start n xs + 54 + p) payload

pub vlr_place-same : (n to : ℕ) (xs ys : List ℕ) → header_size_of ys ≡ header_size_of xs → SameIn (header_size_of xs) to xs ys
    → vlr_start (suc n) xs ≤ to → vlr_place n ys ≡ vlr_place n xs
vlr_place-same n to xs ys header same within =
    let before = vlr_start-same n to xs ys header same (omega arith) in
    let payload = number_same 2 (vlr_start n xs + 20) (header_size_of xs) to xs ys same (omega (arith, header_before n xs)) (omega arith) in
    place_is (vlr_place n ys) n (vlr_start n ys) xs refl (ap (λ (s : ℕ). payload_length_at s ys) before ∙ payload ∙ ap (λ (s : ℕ). payload_length_at s xs) (sym before)) before

-- sixteen bytes decide whether a user ID is LASzip's
user_id-part : (xs : List ℕ) → starts_with nat_eq (take 16 xs) LASZIP_USER_ID ≡ starts_with nat_eq xs LASZIP_USER_ID
user_id-part xs = rw (take-take 16 16 xs (omega arith)) refl

user_id-same : (xs ys : List ℕ) → take 16 ys ≡ take 16 xs → starts_with nat_eq ys LASZIP_USER_ID ≡ starts_with nat_eq xs LASZIP_USER_ID
user_id-same xs ys same = sym (user_id-part ys) ∙ ap (λ (b : List ℕ). starts_with nat_eq b LASZIP_USER_ID) same ∙ user_id-part xs

pub is_laszip-same : (n to : ℕ) (xs ys : List ℕ) → header_size_of ys ≡ header_size_of xs → SameIn (header_size_of xs) to xs ys
    → vlr_start (suc n) xs ≤ to → is_laszip ys (vlr_place n ys) ≡ is_laszip xs (vlr_place n xs)
is_laszip-same n to xs ys header same within =
    let after = header_before n xs in
    let id = same (vlr_start n xs + 2) 16 (omega arith) (omega arith) in
    let record_id = number_same 2 (vlr_start n xs + 18) (header_size_of xs) to xs ys same (omega arith) (omega arith) in
    ap (is_laszip ys) (vlr_place-same n to xs ys header same within)
    ∙ ap (λ (b : Bool). b && (number_at 2 (vlr_start n xs + 18) ys == LASZIP_RECORD_ID)) (user_id-same (drop (vlr_start n xs + 2) xs) (drop (vlr_start n xs + 2) ys) id)
    ∙ ap (λ (r : ℕ). starts_with nat_eq (drop (vlr_start n xs + 2) xs) LASZIP_USER_ID && (r == LASZIP_RECORD_ID)) record_id

pub laszips-same : (n to : ℕ) (xs ys : List ℕ) → header_size_of ys ≡ header_size_of xs → SameIn (header_size_of xs) to xs ys
    → vlr_start n xs ≤ to → laszips n ys ≡ laszips n xs
laszips-same zero to xs ys header same within = refl
laszips-same (suc n) to xs ys header same within =
    let before = laszips-same n to xs ys header same (omega arith) in
    laszips-suc n ys
    ∙ ap (λ (b : Bool). laszips n ys ++ cond b (vlr_place n ys ∷ []) []) (is_laszip-same n to xs ys header same within)
    ∙ ap (λ (p : VlrPlace). laszips n ys ++ cond (is_laszip xs (vlr_place n xs)) (p ∷ []) []) (vlr_place-same n to xs ys header same within)
    ∙ ap (λ (ps : List VlrPlace). ps ++ cond (is_laszip xs (vlr_place n xs)) (vlr_place n xs ∷ []) []) before
    ∙ sym (laszips-suc n xs)

-- there are no more VLRs than bytes
pub count_within : (n : ℕ) (head : List ℕ) → n ≤ vlr_start n head
count_within zero head = omega arith
count_within (suc n) head = let before = count_within n head in omega arith

-- the first laszip VLR among some is one of them
pub record IsLaszipAt (k n : ℕ) (head : List ℕ) (place : VlrPlace) : Type 0 where
  pub below : k < n
  pub there : place ≡ vlr_place k head
  pub flag : is_laszip head (vlr_place k head) ≡ true

last_found : (n : ℕ) (head : List ℕ) (place : VlrPlace) (b : Bool) → is_laszip head (vlr_place n head) ≡ b
    → slice_get (cond b (vlr_place n head ∷ []) []) 0 ≡ Some place → IsLaszipAt n (suc n) head place
last_found n head place true flag found = record { below = omega arith; there = cc; flag = flag }
last_found n head place false flag found = absurd (cc)

found_in : (n : ℕ) (head : List ℕ) (place : VlrPlace) (ps : List VlrPlace) → ((slice_get ps 0 ≡ Some place) → (k : ℕ) × IsLaszipAt k n head place)
    → slice_get (ps ++ cond (is_laszip head (vlr_place n head)) (vlr_place n head ∷ []) []) 0 ≡ Some place → (k : ℕ) × IsLaszipAt k (suc n) head place
found_in n head place [] earlier found = (n, last_found n head place (is_laszip head (vlr_place n head)) refl found)
found_in n head place (p ∷ ps) earlier found =
    let at = earlier found in
    (at.0, record { below = omega (arith, at.1.below); there = at.1.there; flag = at.1.flag })

pub found_at : (n : ℕ) (head : List ℕ) (place : VlrPlace) → slice_get (laszips n head) 0 ≡ Some place → (k : ℕ) × IsLaszipAt k n head place
found_at zero head place found = absurd (cc)
found_at (suc n) head place found =
    found_in n head place (laszips n head) (found_at n head place) (ap (λ (ps : List VlrPlace). slice_get ps 0) (sym (laszips-suc n head)) ∙ found)

-- so its end lies before the end of the last VLR
pub found_within : (head : List ℕ) (place : VlrPlace) → slice_get (laszip_vlrs_of head) 0 ≡ Some place → place.start + 54 + place.length ≤ vlrs_end head
found_within head place found =
    let at = found_at (vlr_count_of head) head place found in
    let fits = vlr_head_fits at.0 (vlr_count_of head) head at.1.below in
    subst (λ (p : VlrPlace). p.start + 54 + p.length ≤ vlrs_end head) (sym at.1.there) fits

-- and it begins after the header
pub found_after : (head : List ℕ) (place : VlrPlace) → slice_get (laszip_vlrs_of head) 0 ≡ Some place → header_size_of head ≤ place.start
found_after head place found =
    let at = found_at (vlr_count_of head) head place found in
    let start = ap (λ (p : VlrPlace). p.start) at.1.there in
    omega (arith, start, header_before at.0 head)

-- the first laszip VLR, if something is said of it
pub first_said : (o : Option VlrPlace) (P : VlrPlace → Type 0) → IsSomeAnd o P → (place : VlrPlace) × (o ≡ Some place) × P place
first_said None P h = absurd h
first_said (Some place) P h = (place, refl, h)
