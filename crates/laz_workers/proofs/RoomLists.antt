-- Rooms among the rooms of a crew, and lists of hands read place by place.
use Rattle.std.proofs.Common.{◌≡◌, ◌⊎◌, ℕ, zero, suc, ◌<◌, Option, Some, None, List, [], ◌∷◌, ◌++◌, length, get_or, map, refl, sym, ap, subst, inl, inr, ⊎_elim, arith}
use Rattle.std.specs.Prelude.{Contains, option_to_list, slice_index_or}
use Rattle.std.proofs.lemmas.List.Elements.{Contains-append_cases}
use Rattle.laz_workers.specs.declared.hand.Hand.{Hand}
use Rattle.laz_workers.specs.Rooms.{RoomSeen, HandSeen, number_of, numbers_in, rooms_of, StandsIn}
use Rattle.laz_workers.specs.Shown.{shown}

module _ {X : Type 0} where
  pub contains_head : (x : X) (xs : List X) → Contains (x ∷ xs) x
  contains_head x xs = (0, omega arith, refl)

  pub contains_tail : (x : X) (xs : List X) (y : X) → Contains xs y → Contains (x ∷ xs) y
  contains_tail x xs y c = (suc c.0, omega (arith, c.1), c.2)

  pub contains_cases : (x : X) (xs : List X) (y : X) → Contains (x ∷ xs) y → (x ≡ y) ⊎ Contains xs y
  contains_cases x xs y c = cases c.0 c.1 c.2
    where
      cases : (k : ℕ) → k < length (x ∷ xs) → slice_index_or (x ∷ xs) k y ≡ y → (x ≡ y) ⊎ Contains xs y
      cases zero h e = inl e
      cases (suc k) h e = inr (k, omega (arith, h), e)

option_there : (o : Option ℕ) (n : ℕ) → Contains (option_to_list o) n → o ≡ Some n
option_there None n c = absurd (omega (arith, c.1))
option_there (Some m) n c = ⊎_elim (λ (e : m ≡ n). ap Some e) (λ (t : Contains [] n). absurd (omega (arith, t.1))) (contains_cases m [] n c)

-- a number among those that stand in rooms stands in one of them
pub room_of : (rooms : List RoomSeen) (number : ℕ) → Contains (numbers_in rooms) number → (room : RoomSeen) × StandsIn rooms number room
room_of [] number c = absurd (omega (arith, c.1))
room_of (r ∷ rs) number c =
    let held = option_to_list (number_of r.held) in
    ⊎_elim
    (λ (t : Contains held number). (r, (contains_head r rs, option_there (number_of r.held) number t)))
    (λ (t : Contains (numbers_in rs) number). let m = room_of rs number t in (m.0, (contains_tail r rs m.0 m.1.0, m.1.1)))
    (Contains-append_cases held (numbers_in rs) number c)

module _ {S : Type 0} where
  abbrev all : List (Hand S) → List RoomSeen
  all hands = rooms_of (map shown hands)

  -- the rooms of each hand are among the crew's
  pub first_there : (hands : List (Hand S)) (k : ℕ) (d : Hand S) → k < length hands → Contains (all hands) (get_or hands k d).first
  first_there [] k d h = absurd (omega arith)
  first_there (x ∷ xs) zero d h = contains_head x.first (x.second ∷ all xs)
  first_there (x ∷ xs) (suc k) d h =
      let r = (get_or xs k d).first in
      contains_tail x.first (x.second ∷ all xs) r (contains_tail x.second (all xs) r (first_there xs k d (omega (arith, h))))

  pub second_there : (hands : List (Hand S)) (k : ℕ) (d : Hand S) → k < length hands → Contains (all hands) (get_or hands k d).second
  second_there [] k d h = absurd (omega arith)
  second_there (x ∷ xs) zero d h = contains_tail x.first (x.second ∷ all xs) x.second (contains_head x.second (all xs))
  second_there (x ∷ xs) (suc k) d h =
      let r = (get_or xs k d).second in
      contains_tail x.first (x.second ∷ all xs) r (contains_tail x.second (all xs) r (second_there xs k d (omega (arith, h))))

  -- the number stands in no room of the hand
  abbrev pub Lacks : ℕ → Hand S → Type 0
  Lacks number h = ¬ (number_of h.first.held ≡ Some number) × ¬ (number_of h.second.held ≡ Some number)

  -- a number that no hand has stands in no room
  pub nowhere : (hands : List (Hand S)) (number : ℕ) (room : RoomSeen) → ((k : ℕ) (d : Hand S) → k < length hands → Lacks number (get_or hands k d)) → Contains (all hands) room → ¬ (number_of room.held ≡ Some number)
  nowhere [] number room lack c = absurd (omega (arith, c.1))
  nowhere (x ∷ xs) number room lack c =
      let P : RoomSeen → Type 0 = λ r. ¬ (number_of r.held ≡ Some number) in
      let here = lack 0 x (omega arith) in
      ⊎_elim
      (λ (e : x.first ≡ room). subst P e here.0)
      (λ (t : Contains (x.second ∷ all xs) room).
      ⊎_elim
      (λ (e : x.second ≡ room). subst P e here.1)
      (λ (u : Contains (all xs) room). nowhere xs number room (λ k d h. lack (suc k) d (omega (arith, h))) u)
      (contains_cases x.second (all xs) room t))
      (contains_cases x.first (x.second ∷ all xs) room c)

  -- the same, of a hand that stands at a place, in a crew that shows the hands
  pub first_at : (hands : List (Hand S)) (k : ℕ) (h : Hand S) (crew : List (HandSeen S)) → k < length hands → h ≡ get_or hands k h → map shown hands ≡ crew → Contains (rooms_of crew) h.first
  first_at hands k h crew lt at is =
      let P : Hand S → Type 0 = λ x. Contains (all hands) x.first in
      let Q : List (HandSeen S) → Type 0 = λ l. Contains (rooms_of l) h.first in
      subst Q is (subst P (sym at) (first_there hands k h lt))

  pub second_at : (hands : List (Hand S)) (k : ℕ) (h : Hand S) (crew : List (HandSeen S)) → k < length hands → h ≡ get_or hands k h → map shown hands ≡ crew → Contains (rooms_of crew) h.second
  second_at hands k h crew lt at is =
      let P : Hand S → Type 0 = λ x. Contains (all hands) x.second in
      let Q : List (HandSeen S) → Type 0 = λ l. Contains (rooms_of l) h.second in
      subst Q is (subst P (sym at) (second_there hands k h lt))

  pub nowhere_in : (hands : List (Hand S)) (crew : List (HandSeen S)) (number : ℕ) → map shown hands ≡ crew → ((k : ℕ) (d : Hand S) → k < length hands → Lacks number (get_or hands k d)) → Contains (numbers_in (rooms_of crew)) number → ⊥
  nowhere_in hands crew number is lack c =
      let r = room_of (rooms_of crew) number c in
      let C : List (HandSeen S) → Type 0 = λ l. Contains (rooms_of l) r.0 in
      nowhere hands number r.0 lack (subst C (sym is) r.1.0) r.1.1

-- two lists whose elements show the same, place by place
pub map_same : {X Y : Type 0} (f : X → Y) (xs ys : List X) → length xs ≡ length ys → ((k : ℕ) (d : X) → k < length xs → f (get_or xs k d) ≡ f (get_or ys k d)) → map f xs ≡ map f ys
map_same f [] [] n h = refl
map_same f [] (y ∷ ys) n h = absurd (omega arith)
map_same f (x ∷ xs) [] n h = absurd (omega arith)
map_same f (x ∷ xs) (y ∷ ys) n h = λ i. h 0 x (omega arith) i ∷ map_same f xs ys (omega arith) (λ k d lt. h (suc k) d (omega (arith, lt))) i

-- a relation that holds place by place of two fronts and of two rests holds place by place of the whole lists
pub place_by_place : {X : Type 0} (R : X → X → Type 0) (front back front' back' : List X) → length front' ≡ length front → ((k : ℕ) (d : X) → k < length front → R (get_or front k d) (get_or front' k d)) → ((k : ℕ) (d : X) → k < length back → R (get_or back k d) (get_or back' k d))
    → (k : ℕ) (d : X) → k < length (front ++ back) → R (get_or (front ++ back) k d) (get_or (front' ++ back') k d)
place_by_place R [] back [] back' n one two k d h = two k d h
place_by_place R [] back (y ∷ ys) back' n one two k d h = absurd (omega (arith, n))
place_by_place R (x ∷ xs) back [] back' n one two k d h = absurd (omega (arith, n))
place_by_place R (x ∷ xs) back (y ∷ ys) back' n one two zero d h = one 0 d (omega arith)
place_by_place R (x ∷ xs) back (y ∷ ys) back' n one two (suc k) d h = place_by_place R xs back ys back' (omega (arith, n)) (λ i e lt. one (suc i) e (omega (arith, lt))) two k d (omega (arith, h))
