-- What a job's work leaves in a room, in the job's own words. A job's meaning is a relation between an input and its
-- answer, which may be none.
use Rattle.std.specs.Prelude.{◌≡◌, ℕ, ◌<◌, ◌≤◌, Option, Some, None, List, [], ◌∷◌, length, take, map, MatchOption}
use Rattle.std.specs.Prelude.{slice_index_or, Vec}
use Rattle.laz_workers.specs.Rooms.{RoomSeen, HandSeen, number_of, answer_in}

-- what `work` returns, read as the answer to its input: none, or the first `size` bytes of the room
abbrev pub Answers : (Option (List ℕ) → Type 0) → Option ℕ → List ℕ → Type 0
Answers answer result room =
    MatchOption result (answer None) (λ size. (size ≤ length room) × answer (Some (take size room)))

-- if the room holds something, it is the answer to the input of its number, or the refusal of that input
abbrev pub HoldsAnswer : (List ℕ → Option (List ℕ) → Type 0) → List (List ℕ) → RoomSeen → Type 0
HoldsAnswer answer inputs room = (number : ℕ) → number_of room.held ≡ Some number
    → (number < length inputs) × answer (slice_index_or inputs number []) (answer_in room.bytes room.held)

-- the rooms of a hand, first before second
abbrev pub both_rooms : {S : Type 0} → HandSeen S → List RoomSeen
both_rooms h = h.first ∷ h.second ∷ []

-- the bytes of each input
abbrev pub texts : {A : Type 0} → List (Vec ℕ A) → List (List ℕ)
texts inputs = map (λ v. v.items) inputs
