-- What stands in a crew once all hands have worked, from what each of them did.
use Rattle.std.proofs.Common.{◌≡◌, ◌⊎◌, ℕ, zero, suc, ◌+◌, ◌*◌, ◌<◌, ◌≤◌, true, false, cond, List, [], ◌∷◌, ◌++◌, length, get_or, map, refl, sym, ap, ◌∙◌, subst, inl, inr, ⊎_elim, arith}
use Rattle.std.specs.Prelude.{◌==◌, nat_lt, Contains, slice_index_or, flat_map, option_to_list}
use Rattle.std.proofs.lemmas.List.Sums.{sum_by-cons, length-filter}
use Rattle.std.proofs.lemmas.List.Elements.{filter-append, Contains-append_left, Contains-append_right}
use Rattle.std.proofs.lemmas.Grind.{flat_map-append}
use Rattle.std.proofs.lemmas.List.{length-append}
use Rattle.std.proofs.lemmas.Bool.{cases_Bool}
use Rattle.std.proofs.lemmas.Bool.Decides.{nat_tests}
use Rattle.laz_workers.specs.declared.hand.Hand.{Hand}
use Rattle.laz_workers.specs.Numbers.{one_if, times, HoldsBelow}
use Rattle.laz_workers.specs.Rooms.{RoomSeen, number_of, numbers_in, rooms_of}
use Rattle.laz_workers.specs.Shown.{shown}
use Rattle.laz_workers.specs.Work.{both_rooms}
use Rattle.laz_workers.specs.Run.{under, AllTaken, drawn_by}
use Rattle.laz_workers.proofs.Counting.{count_of_below, count_below-under}

-- what one hand left: its rooms have the numbers below the total that its pass drew, and either the pass drew one at or past the total or both rooms are taken
pub record Settled {S : Type 0} (total : ℕ) (hand : Hand S) : Type 0 where
  pub matched : under total (drawn_by hand) ≡ numbers_in (both_rooms (shown hand))
  pub ended : ((n : ℕ) × (total ≤ n) × Contains (drawn_by hand) n) ⊎ AllTaken (both_rooms (shown hand))

times_at : (x : ℕ) (xs : List ℕ) (k : ℕ) → k < length xs → slice_index_or xs k x ≡ x → 0 < times x xs
times_at x [] k h e = absurd (omega arith)
times_at x (y ∷ ys) zero h e = let t : (y == x) ≡ true = grind (arith, nat_tests) in omega (arith, sum_by-cons (λ z. one_if (z == x)) y ys, ap one_if t)
times_at x (y ∷ ys) (suc k) h e = omega (arith, sum_by-cons (λ z. one_if (z == x)) y ys, times_at x ys k (omega (arith, h)) e)

times_there : (x : ℕ) (xs : List ℕ) → Contains xs x → 0 < times x xs
times_there x xs c = times_at x xs c.0 c.1 c.2

joins_under : (total x y m n : ℕ) → m ≡ cond (nat_lt x total) n 0 → cond (nat_lt y total) (one_if (y == x) + m) m ≡ cond (nat_lt x total) (one_if (y == x) + n) 0
joins_under total x y m n e = grind (arith, nat_tests)

times_under : (total x : ℕ) (xs : List ℕ) → times x (under total xs) ≡ cond (nat_lt x total) (times x xs) 0
times_under total x [] = ⊎_elim (λ (t : nat_lt x total ≡ true). rw t refl) (λ (t : nat_lt x total ≡ false). rw t refl) (cases_Bool (nat_lt x total))
times_under total x (y ∷ ys) =
    let rest = under total ys in
    let m = times x rest in
    let whole : times x (y ∷ ys) ≡ one_if (y == x) + times x ys = sum_by-cons (λ z. one_if (z == x)) y ys in
    let step : times x (under total (y ∷ ys)) ≡ cond (nat_lt y total) (one_if (y == x) + m) m =
    ⊎_elim
    (λ (t : nat_lt y total ≡ true). rw t (sum_by-cons (λ z. one_if (z == x)) y rest))
    (λ (t : nat_lt y total ≡ false). rw t refl)
    (cases_Bool (nat_lt y total)) in
    step ∙ (joins_under total x y m (times x ys) (times_under total x ys) ∙ ap (λ n. cond (nat_lt x total) n 0) (sym whole))

-- the numbers below the total, of a list that holds each number below an n of at least the total
under_whole : (total n : ℕ) (xs : List ℕ) → total ≤ n → HoldsBelow n xs → HoldsBelow total (under total xs)
under_whole total n xs le h x =
    let e : times x (under total xs) ≡ cond (nat_lt x total) (one_if (nat_lt x n)) 0 = times_under total x xs ∙ ap (λ m. cond (nat_lt x total) m 0) (h x) in
    grind (arith, nat_tests)

abbrev number_in : RoomSeen → List ℕ
number_in r = option_to_list (number_of r.held)

module _ {S : Type 0} (total : ℕ) where
  abbrev pub AllSettled : List (Hand S) → Type 0
  AllSettled hands = (k : ℕ) (d : Hand S) → k < length hands → Settled total (get_or hands k d)

  tail : (h : Hand S) (hs : List (Hand S)) → AllSettled (h ∷ hs) → AllSettled hs
  tail h hs s k d lt = s (suc k) d (omega (arith, lt))

  -- the numbers below the total that were drawn are those that stand in the rooms, in their order
  pub matched_all : (hands : List (Hand S)) → AllSettled hands → under total (flat_map drawn_by hands) ≡ numbers_in (rooms_of (map shown hands))
  matched_all [] s = refl
  matched_all (h ∷ hs) s =
      let one = (s 0 h (omega arith)).matched in
      let more = matched_all hs (tail h hs s) in
      filter-append (λ x. nat_lt x total) (drawn_by h) (flat_map drawn_by hs) ∙ ((λ i. one i ++ more i) ∙ sym (flat_map-append number_in (both_rooms (shown h)) (rooms_of (map shown hs))))

  -- some pass drew a number at or past the total, or all rooms are taken
  ended_all : (hands : List (Hand S)) → AllSettled hands → ((n : ℕ) × (total ≤ n) × Contains (flat_map drawn_by hands) n) ⊎ (length (numbers_in (rooms_of (map shown hands))) ≡ 2 * length hands)
  ended_all [] s = inr refl
  ended_all (h ∷ hs) s =
      ⊎_elim
      (λ (t : (n : ℕ) × (total ≤ n) × Contains (drawn_by h) n). inl (t.0, t.1, Contains-append_left (drawn_by h) (flat_map drawn_by hs) t.0 t.2))
      (λ (t : AllTaken (both_rooms (shown h))).
      ⊎_elim
      (λ (u : (n : ℕ) × (total ≤ n) × Contains (flat_map drawn_by hs) n). inl (u.0, u.1, Contains-append_right (drawn_by h) (flat_map drawn_by hs) u.0 u.2))
      (λ (u : length (numbers_in (rooms_of (map shown hs))) ≡ 2 * length hs).
      let b = both_rooms (shown h) in
      let r = rooms_of (map shown hs) in
      inr (omega (arith, ap length (flat_map-append number_in b r), length-append (numbers_in b) (numbers_in r), t, u)))
      (ended_all hs (tail h hs s)))
      (s 0 h (omega arith)).ended

  -- each number below the total stands in exactly one room
  pub numbers_all : (hands : List (Hand S)) → AllSettled hands → total ≤ 2 * length hands → (word : ℕ) → HoldsBelow word (flat_map drawn_by hands) → HoldsBelow total (numbers_in (rooms_of (map shown hands)))
  numbers_all hands s few word h =
      let list = flat_map drawn_by hands in
      let same = matched_all hands s in
      let enough : total ≤ word =
      ⊎_elim
      (λ (t : (n : ℕ) × (total ≤ n) × Contains list n). let there = times_there t.0 list t.2 in let is = h t.0 in let le = t.1 in grind (arith, nat_tests))
      (λ (t : length (numbers_in (rooms_of (map shown hands))) ≡ 2 * length hands).
      omega (arith, ap length same, length-filter (λ x. nat_lt x total) list, count_of_below (λ x. nat_lt x total) word list h, count_below-under total word, t))
      (ended_all hands s) in
      let P : List ℕ → Type 0 = λ l. HoldsBelow total l in
      subst P same (under_whole total word list enough h)
