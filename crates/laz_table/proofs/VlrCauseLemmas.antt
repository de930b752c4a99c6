-- The first cause of a packed file that its laszip VLR decides, if there is one laszip VLR.
use Rattle.std.proofs.Common.{◌≡◌, ℕ, ◌+◌, ◌≤◌, not, false, List, [], ◌∷◌, length, Option, Some, None, Result, Err, sym, ap, ◌∙◌, arith}
use Rattle.std.specs.Prelude.{slice_get}
use Rattle.std.proofs.lemmas.Bool.{eq-eqb, cond-false}
use Rattle.las_header.specs.declared.vlrs.VlrPlace.{VlrPlace}
use Rattle.las_header.specs.declared.refusal.Refusal.{Refusal}
use Rattle.las_header.specs.declared.refusal.Refusal.TheVariants as cause
use Rattle.las_header.specs.Fields.{format_of, points_of}
use Rattle.las_header.specs.Vlrs.{laszip_vlrs_of, vlrs_end}
use Rattle.las_header.specs.Refusals.{first_cause}
use Rattle.las_header.proofs.Public.{found_within}
use Rattle.laz_table.specs.VlrCauses.{extra_of, first_payload, lacks_vlr, payload_at, payload_causes, payload_of, vlr_causes}

some_is : (p q : VlrPlace) → Some p ≡ Some q → p ≡ q
some_is p q e = cc

none_is : (q : VlrPlace) → None ≡ Some q → ⊥
none_is q e = absurd (cc)

first-payload : (places : List VlrPlace) (place : VlrPlace) (head : List ℕ) → slice_get places 0 ≡ Some place → first_payload places head ≡ payload_at place head
first-payload [] place head e = absurd (none_is place e)
first-payload (p ∷ places) place head e = ap (λ q. payload_at q head) (some_is p place e)

pub payload-is : (head : List ℕ) (place : VlrPlace) → slice_get (laszip_vlrs_of head) 0 ≡ Some place → payload_of head ≡ payload_at place head
payload-is head place e = first-payload (laszip_vlrs_of head) place head e

-- the first cause is that of the payload
pub payload-decides : (head payload : List ℕ) (place : VlrPlace) (format extra points : ℕ) (first : Option Refusal) → length (laszip_vlrs_of head) ≡ 1 → slice_get (laszip_vlrs_of head) 0 ≡ Some place
    → payload ≡ payload_at place head → format ≡ format_of head → extra ≡ extra_of head → points ≡ points_of head → first ≡ first_cause (payload_causes format extra points payload)
    → first_cause (vlr_causes head) ≡ first
payload-decides head payload place format extra points first one found is f e p decided =
    let same : payload_of head ≡ payload = payload-is head place found ∙ sym is in
    let lacks : lacks_vlr head ≡ false = ap not (eq-eqb (length (laszip_vlrs_of head)) 1 one) in
    cond-false (lacks_vlr head) (Some cause.NoVlr) (first_cause (payload_causes (format_of head) (extra_of head) (points_of head) (payload_of head))) lacks
    ∙ (ap (λ b. first_cause (payload_causes (format_of head) (extra_of head) (points_of head) b)) same
    ∙ (ap (λ n. first_cause (payload_causes n (extra_of head) (points_of head) payload)) (sym f)
    ∙ (ap (λ n. first_cause (payload_causes format n (points_of head) payload)) (sym e)
    ∙ (ap (λ n. first_cause (payload_causes format extra n payload)) (sym p) ∙ sym decided))))

no_cause : (r : Option Refusal) (cause : Refusal) → r ≡ None → r ≡ Some cause → ⊥
no_cause r cause e f = absurd (cc)

one_cause : (r : Option Refusal) (a b : Refusal) → r ≡ Some a → r ≡ Some b → a ≡ b
one_cause r a b e f = cc

-- what is answered for the first cause
pub answered_cause : {T : Type 0} (r : Option Refusal) (a b : Refusal) → r ≡ Some a → r ≡ Some b → ◌≡◌ {A = Result T Refusal} (Err a) (Err b)
answered_cause r a b e f = ap Err (one_cause r a b e f)

pub unrefused : {X : Type 0} (r : Option Refusal) (cause : Refusal) → r ≡ None → r ≡ Some cause → X
unrefused r cause e f = absurd (no_cause r cause e f)

-- the payload of the one laszip VLR lies in the head
pub payload_within : (head : List ℕ) (place : VlrPlace) → slice_get (laszip_vlrs_of head) 0 ≡ Some place → vlrs_end head ≤ length head → place.start + 54 + place.length ≤ length head
payload_within head place found within = omega (arith, found_within head place found, within)
