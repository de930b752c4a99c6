-- What contracts see of a crew: the rooms of its hands, and their spaces.
use Rattle.std.specs.Prelude.{◌≡◌, ℕ, ◌-◌, ◌++◌, replicate, Option, Some, None, option_to_list, List, [], ◌∷◌, length, take, map, flat_map}
use Rattle.std.specs.Prelude.{Contains}
use Rattle.laz_workers.specs.declared.held.Held.{Held}
use Rattle.laz_workers.specs.declared.held.Held.TheVariants.{Empty, Full, Refused}

-- a room's bytes, and what it holds
pub record RoomSeen : Type 0 where
  pub bytes : List ℕ
  pub held : Held

-- a hand's space and its two rooms
pub record HandSeen (S : Type 0) : Type 0 where
  pub space : S
  pub first : RoomSeen
  pub second : RoomSeen

-- the bytes, with zeros after them until there are n
abbrev pub lengthened : ℕ → List ℕ → List ℕ
lengthened n bytes = bytes ++ replicate (n - length bytes) 0

-- the number of the input that was worked into a room
abbrev pub number_of : Held → Option ℕ
number_of Empty = None
number_of (Full number n) = Some number
number_of (Refused number) = Some number

-- how many bytes at the front of the room are an answer
abbrev pub answer_length : Held → ℕ
answer_length Empty = 0
answer_length (Full number n) = n
answer_length (Refused number) = 0

-- the answer at the front of the bytes: none if the room is empty or the input was refused
abbrev pub answer_in : List ℕ → Held → Option (List ℕ)
answer_in bytes Empty = None
answer_in bytes (Full number n) = Some (take n bytes)
answer_in bytes (Refused number) = None

-- the room without its answer
abbrev pub emptied : RoomSeen → RoomSeen
emptied room = record { bytes = room.bytes; held = Empty }

-- the rooms, hand by hand, each hand's first before its second
abbrev pub rooms_of : {S : Type 0} → List (HandSeen S) → List RoomSeen
rooms_of hands = flat_map (λ h. h.first ∷ h.second ∷ []) hands

-- how many bytes each room has
abbrev pub lengths_of : List RoomSeen → List ℕ
lengths_of rooms = map (λ r. length r.bytes) rooms

-- the numbers that stand in rooms, in the order of the rooms
abbrev pub numbers_in : List RoomSeen → List ℕ
numbers_in rooms = flat_map (λ r. option_to_list (number_of r.held)) rooms

-- one of the rooms, in which the number stands
abbrev pub StandsIn : List RoomSeen → ℕ → RoomSeen → Type 0
StandsIn rooms number room = Contains rooms room × (number_of room.held ≡ Some number)

-- an empty room of this length
abbrev pub IsEmptyRoom : ℕ → RoomSeen → Type 0
IsEmptyRoom n room = (length room.bytes ≡ n) × (room.held ≡ Empty)

-- a hand with this space and two empty rooms of this length
abbrev pub IsNew : {S : Type 0} → S → ℕ → HandSeen S → Type 0
IsNew space n hand = (hand.space ≡ space) × IsEmptyRoom n hand.first × IsEmptyRoom n hand.second
