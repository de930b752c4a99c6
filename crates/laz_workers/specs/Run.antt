-- What `run_all` needs of the passes, what the work of one hand does, and what `run_all` leaves.
use Rattle.std.specs.Prelude.{◌≡◌, ℕ, ◌+◌, ◌-◌, ◌<◌, ◌≤◌, true, false, nat_lt, Option, Some, None, List, [], ◌∷◌, ◌++◌}
use Rattle.std.specs.Prelude.{length, filter, All, slice_index_or, ◌⊎◌}
use Rattle.laz_workers.specs.declared.hand.Hand.{Hand}
use Rattle.laz_workers.specs.declared.held.Held.TheVariants.{Empty}
use Rattle.laz_workers.specs.Numbers.{HoldsBelow}
use Rattle.laz_workers.specs.Seen.{ClaimsSeen, PassSeen}
use Rattle.laz_workers.specs.Rooms.{emptied, RoomSeen, numbers_in, lengths_of}
use Rattle.laz_workers.specs.Shown.{shown}
use Rattle.laz_workers.specs.Work.{HoldsAnswer, both_rooms}

-- A pass for each hand, before any of them draws: the first is the opening one, and the others were split from it
pub record Dealt (claims : ClaimsSeen) (passes : List PassSeen) : Type 0 where
  pub fresh : All (λ p. (p.claims ≡ claims) × (p.drawn ≡ []) × (p.spent ≡ false)) passes
  pub opening : (d : PassSeen)
      → ((slice_index_or passes 0 d).opens ≡ true) × ((slice_index_or passes 0 d).out ≡ length passes - 1)
  pub split : (k : ℕ) (d : PassSeen) → 0 < k → k < length passes → (slice_index_or passes k d).opens ≡ false

-- The numbers of a list that are below the total
abbrev pub under : ℕ → List ℕ → List ℕ
under total numbers = filter (λ x. nat_lt x total) numbers

-- no room is empty
abbrev pub AllTaken : List RoomSeen → Type 0
AllTaken rooms = length (numbers_in rooms) ≡ length rooms

-- the last number of the list is at or past the total
abbrev pub EndsPast : ℕ → List ℕ → Type 0
EndsPast total numbers = (earlier : List ℕ) × (last : ℕ) × (numbers ≡ earlier ++ last ∷ []) × (total ≤ last)

-- What the work of one hand does, with the pass that it holds
pub record Worked {S : Type 0} (claims : ClaimsSeen) (answer : List ℕ → Option (List ℕ) → Type 0)
    (inputs : List (List ℕ)) (suits : S → Type 0) (old new : Hand S) : Type 0 where
  pub before : PassSeen
  pub after : PassSeen
  pub numbers : List ℕ
  pub held_before : old.pass ≡ Some before
  -- it still holds its pass: one of the same claims, the opening one or a split one as before, with the same `rest` and
  -- `out`
  pub held_after : new.pass ≡ Some after
  pub claims_stay : after.claims ≡ before.claims
  pub opens_stays : after.opens ≡ before.opens
  pub rest_stays : after.rest ≡ before.rest
  pub out_stays : after.out ≡ before.out
  -- the rooms keep their lengths, and the space suits the job
  pub lengths : lengths_of (both_rooms (shown new)) ≡ lengths_of (both_rooms (shown old))
  pub suited : suits new.space
  -- the numbers that it drew stand at the end of the pass's list, and those below the total in the first and then the
  -- second room
  pub drawn : after.drawn ≡ before.drawn ++ numbers
  pub stand : numbers_in (both_rooms (shown new)) ≡ under claims.total numbers
  pub answered : All (HoldsAnswer answer inputs) (both_rooms (shown new))
  -- it went on until the pass was spent, by a last number at or past the total, or neither room was empty
  pub ended : ((after.spent ≡ true) × EndsPast claims.total numbers) ⊎ AllTaken (both_rooms (shown new))
  -- if the pass is the opening one and no other is out, it holds, for some word, each number below it once and no other
  pub whole : after.opens ≡ true → after.out ≡ 0 → (word : ℕ) × HoldsBelow word after.drawn

-- A hand that is ready to work: it holds a pass of these claims that is not spent, its rooms are empty and every input
-- fits them, and its space suits the job
pub record IsReady {S : Type 0} (claims : ClaimsSeen) (fits : List ℕ → ℕ → Type 0) (inputs : List (List ℕ))
    (suits : S → Type 0) (hand : Hand S) : Type 0 where
  pub pass : PassSeen
  pub held : hand.pass ≡ Some pass
  pub own : pass.claims ≡ claims
  pub unspent : pass.spent ≡ false
  pub whole : pass.opens ≡ true → pass.out ≡ 0 → (word : ℕ) × HoldsBelow word pass.drawn
  pub first_empty : hand.first.held ≡ Empty
  pub second_empty : hand.second.held ≡ Empty
  pub first_fits : All (λ input. fits input (length hand.first.bytes)) inputs
  pub second_fits : All (λ input. fits input (length hand.second.bytes)) inputs
  pub suited : suits hand.space

-- the hand with empty rooms and this pass
abbrev pub equipped : {S : Type 0} → Hand S → PassSeen → Hand S
equipped hand pass = record
    { space = hand.space; first = emptied hand.first; second = emptied hand.second; pass = Some pass }

-- Hand k of n holds a pass of these claims: hand 0 the opening one, with the other n - 1 out
pub record HoldsPass {S : Type 0} (claims : ClaimsSeen) (n k : ℕ) (hand : Hand S) : Type 0 where
  pub pass : PassSeen
  pub held : hand.pass ≡ Some pass
  pub own : pass.claims ≡ claims
  pub opens : k ≡ 0 → (pass.opens ≡ true) × (pass.out + 1 ≡ n)
  pub split : 0 < k → pass.opens ≡ false
  pub whole : pass.opens ≡ true → pass.out ≡ 0 → (word : ℕ) × HoldsBelow word pass.drawn

-- the numbers that a pass drew: none if there is no pass
abbrev pub drawn_of : Option PassSeen → List ℕ
drawn_of None = []
drawn_of (Some pass) = pass.drawn

-- the numbers that the pass of a hand drew
abbrev pub drawn_by : {S : Type 0} → Hand S → List ℕ
drawn_by hand = drawn_of hand.pass

-- every input fits a room of each of these lengths
abbrev pub EveryInputFits : (List ℕ → ℕ → Type 0) → List (List ℕ) → List ℕ → Type 0
EveryInputFits fits inputs lengths = All (λ n. All (λ input. fits input n) inputs) lengths

-- What the opening pass is once all others are joined to it: none is out, and for some word it holds each number below
-- it once. Without the numbers at or past the total, its list is the numbers of the rooms, hand by hand, each hand's
-- first room before its second
pub record IsJoined (claims : ClaimsSeen) (rooms : List RoomSeen) (pass : PassSeen) : Type 0 where
  pub own : pass.claims ≡ claims
  pub opens : pass.opens ≡ true
  pub out : pass.out ≡ 0
  pub drawn : under claims.total pass.drawn ≡ numbers_in rooms
  pub whole : (word : ℕ) × HoldsBelow word pass.drawn
