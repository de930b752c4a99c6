-- Lemmas for the callers of `run_all` and `Crew::result`: which numbers stand in rooms, and what stands under them.
use Rattle.std.proofs.Common.{◌≡◌, ℕ, ◌<◌, true, false, Option, List, [], ◌∷◌, get_or, ap, subst, ⊎_elim, arith}
use Rattle.std.specs.Prelude.{All, Contains, ◌==◌, nat_lt}
use Rattle.std.proofs.lemmas.List.Sums.{sum_by-cons}
use Rattle.std.proofs.lemmas.List.Elements.{All-contains}
use Rattle.std.proofs.lemmas.Bool.{cases_Bool}
use Rattle.std.proofs.lemmas.Bool.Decides.{nat_tests}
use Rattle.laz_workers.specs.Numbers.{one_if, times, HoldsBelow}
use Rattle.laz_workers.specs.Rooms.{RoomSeen, numbers_in, answer_in, StandsIn}
use Rattle.laz_workers.specs.Work.{HoldsAnswer}
use Rattle.laz_workers.proofs.RoomLists.{contains_head, contains_tail}

-- if each number below n stands in exactly one room, such a number stands in some room
pub stands_below : (n : ℕ) (rooms : List RoomSeen) (number : ℕ) → HoldsBelow n (numbers_in rooms) → number < n → Contains (numbers_in rooms) number
stands_below n rooms number h lt =
    let t : nat_lt number n ≡ true = grind (arith, nat_tests) in
    there number (numbers_in rooms) (omega (arith, h number, ap one_if t))
  where
    there : (x : ℕ) (xs : List ℕ) → 0 < times x xs → Contains xs x
    there x [] p = absurd (omega arith)
    there x (y ∷ ys) p =
        ⊎_elim
        (λ (t : (y == x) ≡ true). let same : y ≡ x = grind (arith, nat_tests) in let P : ℕ → Type 0 = λ z. Contains (y ∷ ys) z in subst P same (contains_head y ys))
        (λ (t : (y == x) ≡ false). contains_tail y ys x (there x ys (omega (arith, sum_by-cons (λ z. one_if (z == x)) y ys, ap one_if t))))
        (cases_Bool (y == x))

-- if the rooms hold a job's answers, the answer in a room is one to the input of its number
pub answer_there : (answer : List ℕ → Option (List ℕ) → Type 0) (inputs : List (List ℕ)) (rooms : List RoomSeen) (number : ℕ) (room : RoomSeen) → StandsIn rooms number room → All (HoldsAnswer answer inputs) rooms → answer (get_or inputs number []) (answer_in room.bytes room.held)
answer_there answer inputs rooms number room s all = (All-contains (HoldsAnswer answer inputs) rooms room all s.0 number s.1).1
