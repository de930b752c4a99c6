-- The variable-length records (VLRs): one after another from the header size on, each a head of 54 bytes and a payload.
use Rattle.std.specs.Prelude.{◌≡◌, ℕ, zero, suc, ◌+◌, ◌==◌, nat_eq, ◌&&◌, Bool, List, [], ◌∷◌, ◌++◌, drop, filter}
use Rattle.std.specs.List.{starts_with}
use Rattle.las_header.specs.declared.limits.TheConstants.{VLR_HEAD, LASZIP_USER_ID, LASZIP_RECORD_ID}
use Rattle.las_header.specs.declared.vlrs.VlrPlace.{VlrPlace}
use Rattle.las_header.specs.Numbers.{number_at}
use Rattle.las_header.specs.Fields.{header_size_of, vlr_count_of}

-- the length of the payload, in the head of the VLR that begins at a place
abbrev pub payload_length_at : ℕ → List ℕ → ℕ
payload_length_at at head = number_at 2 (at + 20) head

-- where the VLR of this number begins, from 0; for the number of VLRs, where the last one ends
abbrev pub vlr_start : ℕ → List ℕ → ℕ
vlr_start zero head = header_size_of head
vlr_start (suc n) head = vlr_start n head + VLR_HEAD + payload_length_at (vlr_start n head) head

-- where the last VLR ends
abbrev pub vlrs_end : List ℕ → ℕ
vlrs_end head = vlr_start (vlr_count_of head) head

-- the place of the VLR of this number, from 0
abbrev pub vlr_place : ℕ → List ℕ → VlrPlace
vlr_place n head = record { start = vlr_start n head; length = payload_length_at (vlr_start n head) head }

-- the places of the first n VLRs
abbrev pub first_vlrs : ℕ → List ℕ → List VlrPlace
first_vlrs zero head = []
first_vlrs (suc n) head = first_vlrs n head ++ vlr_place n head ∷ []

-- the places of all VLRs, in order
abbrev pub vlrs_of : List ℕ → List VlrPlace
vlrs_of head = first_vlrs (vlr_count_of head) head

-- how many bytes a VLR takes
abbrev pub vlr_size : VlrPlace → ℕ
vlr_size place = VLR_HEAD + place.length

-- a laszip VLR has LASzip's user ID and record ID (Isenburg, LASzip, PE&RS 2013)
abbrev pub is_laszip : List ℕ → VlrPlace → Bool
is_laszip head place =
    starts_with nat_eq (drop (place.start + 2) head) LASZIP_USER_ID
    && (number_at 2 (place.start + 18) head == LASZIP_RECORD_ID)

-- the places of the laszip VLRs, in order
abbrev pub laszip_vlrs_of : List ℕ → List VlrPlace
laszip_vlrs_of head = filter (is_laszip head) (vlrs_of head)

-- how many bytes the first of some VLRs takes
abbrev pub first_size : List VlrPlace → ℕ
first_size [] = 0
first_size (place ∷ places) = vlr_size place

-- there is one laszip VLR, and it stands here
abbrev pub HasOneVlr : (start length : ℕ) → (head : List ℕ) → Type 0
HasOneVlr start length head = laszip_vlrs_of head ≡ record { start = start; length = length } ∷ []
