-- The VLRs of a head lie in it.
use Rattle.std.proofs.Common.{ℕ, zero, suc, ◌+◌, ◌≤◌, List, length, All, arith}
use Rattle.las_header.specs.Heads.{IsHead}
use Rattle.las_header.specs.Fields.{vlr_count_of}
use Rattle.las_header.specs.Vlrs.{first_vlrs, vlr_place, vlr_start, vlrs_of}
use Rattle.las_header.proofs.Public.{vlr_head_fits}
use Rattle.std.proofs.lemmas.List.Elements.{All-push}

before : (n m : ℕ) (head : List ℕ) → n ≤ m → All (λ place. place.start + 54 ≤ vlr_start m head) (first_vlrs n head)
before zero m head le = λ k d h. absurd (omega (arith, h))
before (suc n) m head le =
    All-push (λ place. place.start + 54 ≤ vlr_start m head) (first_vlrs n head) (vlr_place n head)
    (before n m head (omega (arith, le))) (omega (arith, vlr_head_fits n m head le))

pub places_lie : (head : List ℕ) → IsHead head → All (λ place. place.start + 54 ≤ length head) (vlrs_of head)
places_lie head is k d lt =
    omega (arith, before (vlr_count_of head) (vlr_count_of head) head (omega arith) k d lt, is.vlrs)
