-- From the deal of the passes to the gathered crew, hand by hand.
use Rattle.std.proofs.Common.{◌≡◌, ℕ, zero, suc, ◌-◌, ◌<◌, true, Option, Some, List, [], ◌∷◌, ◌++◌, length, get_or, map, refl, sym, ap, ◌∙◌, subst, inl, inr, ⊎_elim, arith}
use Rattle.std.specs.Prelude.{All, Contains}
use Rattle.std.proofs.lemmas.List.Elements.{All-contains, All-nil, All-cons, Contains-push}
use Rattle.std.proofs.lemmas.Bool.Decides.{nat_tests}
use Rattle.laz_workers.specs.declared.hand.Hand.{Hand}
use Rattle.laz_workers.specs.Numbers.{times}
use Rattle.laz_workers.specs.Seen.{ClaimsSeen, PassSeen, opening_pass}
use Rattle.laz_workers.specs.Rooms.{RoomSeen, HandSeen, rooms_of, lengths_of}
use Rattle.laz_workers.specs.Shown.{shown}
use Rattle.laz_workers.specs.Work.{HoldsAnswer, both_rooms}
use Rattle.laz_workers.specs.Run.{Dealt, IsReady, Worked, HoldsPass, EveryInputFits, under, AllTaken, EndsPast, equipped, drawn_of, drawn_by}
use Rattle.laz_workers.proofs.RoomLists.{first_there, second_there}
use Rattle.laz_workers.proofs.Finish.{Settled}

-- what holds of each length in the list holds of the length of each room
rooms_fit : (P : ℕ → Type 0) (rooms : List RoomSeen) → All P (lengths_of rooms) → All (λ r. P (length r.bytes)) rooms
rooms_fit P [] h = All-nil (λ (r : RoomSeen). P (length r.bytes))
rooms_fit P (r ∷ rs) h =
    All-cons (λ (r : RoomSeen). P (length r.bytes)) r rs (h 0 (length r.bytes) (omega arith)) (rooms_fit P rs (λ k d lt. h (suc k) d (omega (arith, lt))))

module _ {S : Type 0} where
  pub shown_at : (hands : List (Hand S)) (k : ℕ) (d : Hand S) → get_or (map shown hands) k (shown d) ≡ shown (get_or hands k d)
  shown_at [] k d = refl
  shown_at (h ∷ hs) zero d = refl
  shown_at (h ∷ hs) (suc k) d = shown_at hs k d

  pub length-shown : (hands : List (Hand S)) → length (map shown hands) ≡ length hands
  length-shown [] = refl
  length-shown (h ∷ hs) = ap suc (length-shown hs)

  -- what holds of each hand, by place, holds of what is shown of all
  pub All-shown : (P : HandSeen S → Type 0) (hands : List (Hand S)) → ((k : ℕ) (d : Hand S) → k < length hands → P (shown (get_or hands k d))) → All P (map shown hands)
  All-shown P [] h = All-nil P
  All-shown P (x ∷ xs) h = All-cons P (shown x) (map shown xs) (h 0 x (omega arith)) (All-shown P xs (λ k d lt. h (suc k) d (omega (arith, lt))))

  pub All-rooms : (P : RoomSeen → Type 0) (hands : List (Hand S)) → ((k : ℕ) (d : Hand S) → k < length hands → All P (both_rooms (shown (get_or hands k d)))) → All P (rooms_of (map shown hands))
  All-rooms P [] h = All-nil P
  All-rooms P (x ∷ xs) h =
      let here = h 0 x (omega arith) in
      All-cons P x.first (x.second ∷ rooms_of (map shown xs)) (here 0 x.first (omega arith))
      (All-cons P x.second (rooms_of (map shown xs)) (here 1 x.second (omega arith)) (All-rooms P xs (λ k d lt. h (suc k) d (omega (arith, lt)))))

  -- two lists of hands whose rooms have the same lengths, hand by hand
  same_lengths : (xs ys : List (Hand S)) → length xs ≡ length ys → ((k : ℕ) (d : Hand S) → k < length xs → lengths_of (both_rooms (shown (get_or xs k d))) ≡ lengths_of (both_rooms (shown (get_or ys k d)))) → lengths_of (rooms_of (map shown xs)) ≡ lengths_of (rooms_of (map shown ys))
  same_lengths [] [] n h = refl
  same_lengths [] (y ∷ ys) n h = absurd (omega arith)
  same_lengths (x ∷ xs) [] n h = absurd (omega arith)
  same_lengths (x ∷ xs) (y ∷ ys) n h =
      let one = h 0 x (omega arith) in
      let more = same_lengths xs ys (omega arith) (λ k d lt. h (suc k) d (omega (arith, lt))) in
      λ i. one i ++ more i

  -- a hand that began with a fresh pass is settled
  settled_one : (claims : ClaimsSeen) (answer : List ℕ → Option (List ℕ) → Type 0) (inputs : List (List ℕ)) (suits : S → Type 0) (old new : Hand S) (w : Worked claims answer inputs suits old new) → w.before.drawn ≡ [] → Settled claims.total new
  settled_one claims answer inputs suits old new w fresh =
      let drew : drawn_by new ≡ w.numbers = ap drawn_of w.held_after ∙ (w.drawn ∙ ap (λ l. l ++ w.numbers) fresh) in
      record {
        matched = ap (under claims.total) drew ∙ sym w.stand;
        ended =
            ⊎_elim
            (λ (t : (w.after.spent ≡ true) × EndsPast claims.total w.numbers).
            let last = t.1.1 in
            let Q : List ℕ → Type 0 = λ l. Contains l last in
            inl (last, t.1.3, subst Q (sym (drew ∙ t.1.2)) (Contains-push t.1.0 last)))
            (λ (t : AllTaken (both_rooms (shown new))). inr t)
            w.ended;
      }

  module _ (claims : ClaimsSeen) (fits : List ℕ → ℕ → Type 0) (answer : List ℕ → Option (List ℕ) → Type 0) (inputs : List (List ℕ)) (suits : S → Type 0) (before dealt : List (Hand S)) (passes : List PassSeen)
      (count : length passes ≡ length before) (same : length dealt ≡ length before) (from : Dealt claims passes)
      (deals : (k : ℕ) (d : Hand S) (e : PassSeen) → k < length before → get_or dealt k d ≡ equipped (get_or before k d) (get_or passes k e)) where
    -- some pass, to read a list of passes with
    some_pass : PassSeen
    some_pass = opening_pass claims

    pub ready_all : EveryInputFits fits inputs (lengths_of (rooms_of (map shown before))) → All (λ (h : HandSeen S). suits h.space) (map shown before) → All (IsReady claims fits inputs suits) dealt
    ready_all room suit k d lt =
        let lt' : k < length before = omega (arith, lt, same) in
        let h = get_or before k d in
        let p = get_or passes k some_pass in
        let fresh = from.fresh k some_pass (omega (arith, lt', count)) in
        let all = λ (r : RoomSeen). All (λ input. fits input (length r.bytes)) inputs in
        let rooms = rooms_fit (λ n. All (λ input. fits input n) inputs) (rooms_of (map shown before)) room in
        let Q : HandSeen S → Type 0 = λ x. suits x.space in
        let ready : IsReady claims fits inputs suits (equipped h p) =
        record {
          pass = p;
          held = refl;
          own = fresh.0;
          unspent = fresh.2;
          whole = λ _ _. (0, λ x. ap (times x) fresh.1 ∙ grind (arith, nat_tests));
          first_empty = refl;
          second_empty = refl;
          first_fits = All-contains all (rooms_of (map shown before)) h.first rooms (first_there before k d lt');
          second_fits = All-contains all (rooms_of (map shown before)) h.second rooms (second_there before k d lt');
          suited = subst Q (shown_at before k d) (suit k (shown d) (omega (arith, lt', length-shown before)));
        } in
        subst (IsReady claims fits inputs suits) (sym (deals k d some_pass lt')) ready

    module _ (worked : List (Hand S)) (same' : length worked ≡ length dealt) (works : (k : ℕ) (d : Hand S) → k < length dealt → Worked claims answer inputs suits (get_or dealt k d) (get_or worked k d)) where
      -- the pass with which a hand began
      began : (k : ℕ) (d : Hand S) (lt : k < length worked) → (works k d (omega (arith, lt, same'))).before ≡ get_or passes k some_pass
      began k d lt =
          let w = works k d (omega (arith, lt, same')) in
          let e = ap (λ (h : Hand S). h.pass) (deals k d some_pass (omega (arith, lt, same, same'))) in
          let is : Some w.before ≡ Some (get_or passes k some_pass) = sym w.held_before ∙ e in
          cc

      pub holds_all : (k : ℕ) (d : Hand S) → k < length worked → HoldsPass claims (length worked) k (get_or worked k d)
      holds_all k d lt =
          let w = works k d (omega (arith, lt, same')) in
          let b = began k d lt in
          let fresh = from.fresh k some_pass (omega (arith, lt, same, same', count)) in
          let opens = w.opens_stays ∙ ap (λ (p : PassSeen). p.opens) b in
          record {
            pass = w.after;
            held = w.held_after;
            own = w.claims_stay ∙ (ap (λ (p : PassSeen). p.claims) b ∙ fresh.0);
            opens = λ z.
                let first = from.opening some_pass in
                let P : ℕ → Type 0 = λ n. ((get_or passes n some_pass).opens ≡ true) × ((get_or passes n some_pass).out ≡ length passes - 1) in
                let here = subst P (sym z) first in
                (opens ∙ here.0, omega (arith, w.out_stays, ap (λ (p : PassSeen). p.out) b, here.1, count, same, same', lt));
            split = λ pos. opens ∙ from.split k some_pass pos (omega (arith, lt, same, same', count));
            whole = w.whole;
          }

      pub settled_all : (k : ℕ) (d : Hand S) → k < length worked → Settled claims.total (get_or worked k d)
      settled_all k d lt =
          let w = works k d (omega (arith, lt, same')) in
          let fresh = from.fresh k some_pass (omega (arith, lt, same, same', count)) in
          settled_one claims answer inputs suits (get_or dealt k d) (get_or worked k d) w (ap (λ (p : PassSeen). p.drawn) (began k d lt) ∙ fresh.1)

      pub lengths_all : lengths_of (rooms_of (map shown worked)) ≡ lengths_of (rooms_of (map shown before))
      lengths_all =
          same_lengths worked before (same' ∙ same)
          (λ k d lt. (works k d (omega (arith, lt, same'))).lengths ∙ ap (λ (h : Hand S). lengths_of (both_rooms (shown h))) (deals k d some_pass (omega (arith, lt, same, same'))))

      pub suited_all : All (λ (h : HandSeen S). suits h.space) (map shown worked)
      suited_all = All-shown (λ (h : HandSeen S). suits h.space) worked (λ k d lt. (works k d (omega (arith, lt, same'))).suited)

      pub answered_all : All (HoldsAnswer answer inputs) (rooms_of (map shown worked))
      answered_all = All-rooms (HoldsAnswer answer inputs) worked (λ k d lt. (works k d (omega (arith, lt, same'))).answered)
