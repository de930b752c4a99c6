-- The work of one hand, from what one or two claims did.
use Rattle.std.proofs.Common.{◌≡◌, ℕ, ◌+◌, true, false, Option, Some, List, [], ◌∷◌, ◌++◌, length, refl, sym, ap, ◌∙◌, inl, inr, ⊎_elim, append_assoc, arith}
use Rattle.std.specs.Prelude.{nat_lt, nat_le, option_to_list}
use Rattle.std.proofs.lemmas.List.{append-nil}
use Rattle.std.proofs.lemmas.List.Elements.{All-nil, All-cons, filter-append}
use Rattle.std.proofs.lemmas.Bool.{cases_Bool}
use Rattle.std.proofs.lemmas.Bool.Decides.{nat_tests}
use Rattle.laz_workers.specs.declared.hand.Hand.{Hand}
use Rattle.laz_workers.specs.declared.held.Held.TheVariants.{Empty}
use Rattle.laz_workers.specs.Seen.{ClaimsSeen, PassSeen, Drew}
use Rattle.laz_workers.specs.Rooms.{RoomSeen, number_of}
use Rattle.laz_workers.specs.Work.{HoldsAnswer}
use Rattle.laz_workers.specs.Run.{under, Worked}

-- one claim, and what it left in a room
pub record Filled (claims : ClaimsSeen) (answer : List ℕ → Option (List ℕ) → Type 0) (inputs : List (List ℕ)) (p q : PassSeen) (size : ℕ) (room : RoomSeen) : Type 0 where
  pub number : ℕ
  pub drew : Drew p q number
  pub stands : option_to_list (number_of room.held) ≡ under claims.total (number ∷ [])
  pub answered : HoldsAnswer answer inputs room
  pub sized : length room.bytes ≡ size

under_low : (total n : ℕ) → nat_le total n ≡ false → under total (n ∷ []) ≡ n ∷ []
under_low total n e = let t : nat_lt n total ≡ true = grind (arith, nat_tests) in rw t refl

nothing_answered : (answer : List ℕ → Option (List ℕ) → Type 0) (inputs : List (List ℕ)) (room : RoomSeen) → room.held ≡ Empty → HoldsAnswer answer inputs room
nothing_answered answer inputs room e number is =
    let none : number_of room.held ≡ number_of Empty = ap number_of e in
    absurd (cc)

module _ {S : Type 0} (claims : ClaimsSeen) (answer : List ℕ → Option (List ℕ) → Type 0) (inputs : List (List ℕ)) (suits : S → Type 0) (old : Hand S) (p : PassSeen) (held : old.pass ≡ Some p) (own : p.claims ≡ claims) where
  total_is : p.claims.total ≡ claims.total
  total_is = ap (λ (c : ClaimsSeen). c.total) own

  pub worked_one : (q : PassSeen) (space : S) (room : RoomSeen) → Filled claims answer inputs p q (length old.first.bytes) room → suits space → q.spent ≡ true → old.second.held ≡ Empty
      → Worked claims answer inputs suits old (record { space = space; first = room; second = old.second; pass = Some q })
  worked_one q space room f suited spent empty =
      let d = f.drew in
      let n = f.number in
      let past : nat_le claims.total n ≡ true = ap (λ t. nat_le t n) (sym total_is) ∙ (sym (ap (λ (x : PassSeen). x.spent) d.pass) ∙ spent) in
      let none : option_to_list (number_of old.second.held) ≡ [] = ap (λ h. option_to_list (number_of h)) empty in
      record {
        before = p;
        after = q;
        numbers = n ∷ [];
        held_before = held;
        held_after = refl;
        claims_stay = ap (λ (x : PassSeen). x.claims) d.pass;
        opens_stays = ap (λ (x : PassSeen). x.opens) d.pass;
        rest_stays = ap (λ (x : PassSeen). x.rest) d.pass;
        out_stays = ap (λ (x : PassSeen). x.out) d.pass;
        lengths = λ i. f.sized i ∷ length old.second.bytes ∷ [];
        suited = suited;
        drawn = ap (λ (x : PassSeen). x.drawn) d.pass;
        stand = ap (λ l. option_to_list (number_of room.held) ++ (l ++ [])) none ∙ (append-nil (option_to_list (number_of room.held)) ∙ f.stands);
        answered = All-cons (HoldsAnswer answer inputs) room (old.second ∷ []) f.answered (All-cons (HoldsAnswer answer inputs) old.second [] (nothing_answered answer inputs old.second empty) (All-nil (HoldsAnswer answer inputs)));
        ended = inl (spent, ([], n, refl, grind (arith, nat_tests)));
        whole = λ o none_out. (n + 1, d.whole (sym (ap (λ (x : PassSeen). x.opens) d.pass) ∙ o) (sym (ap (λ (x : PassSeen). x.out) d.pass) ∙ none_out));
      }

  pub worked_two : (q r : PassSeen) (space : S) (first second : RoomSeen) → Filled claims answer inputs p q (length old.first.bytes) first → Filled claims answer inputs q r (length old.second.bytes) second → suits space → q.spent ≡ false
      → Worked claims answer inputs suits old (record { space = space; first = first; second = second; pass = Some r })
  worked_two q r space first second f h suited unspent =
      let d = f.drew in
      let e = h.drew in
      let n = f.number in
      let m = h.number in
      let low : nat_le claims.total n ≡ false = ap (λ t. nat_le t n) (sym total_is) ∙ (sym (ap (λ (x : PassSeen). x.spent) d.pass) ∙ unspent) in
      let same : q.claims.total ≡ claims.total = ap (λ (x : PassSeen). x.claims.total) d.pass ∙ total_is in
      let o1 = option_to_list (number_of first.held) in
      let o2 = option_to_list (number_of second.held) in
      let one : o1 ≡ n ∷ [] = f.stands ∙ under_low claims.total n low in
      record {
        before = p;
        after = r;
        numbers = n ∷ m ∷ [];
        held_before = held;
        held_after = refl;
        claims_stay = ap (λ (x : PassSeen). x.claims) e.pass ∙ ap (λ (x : PassSeen). x.claims) d.pass;
        opens_stays = ap (λ (x : PassSeen). x.opens) e.pass ∙ ap (λ (x : PassSeen). x.opens) d.pass;
        rest_stays = ap (λ (x : PassSeen). x.rest) e.pass ∙ ap (λ (x : PassSeen). x.rest) d.pass;
        out_stays = ap (λ (x : PassSeen). x.out) e.pass ∙ ap (λ (x : PassSeen). x.out) d.pass;
        lengths = λ i. f.sized i ∷ h.sized i ∷ [];
        suited = suited;
        drawn = ap (λ (x : PassSeen). x.drawn) e.pass ∙ (ap (λ (x : PassSeen). x.drawn ++ m ∷ []) d.pass ∙ append_assoc p.drawn (n ∷ []) (m ∷ []));
        stand = ap (λ l. o1 ++ l) (append-nil o2) ∙ ((λ i. f.stands i ++ h.stands i) ∙ sym (filter-append (λ x. nat_lt x claims.total) (n ∷ []) (m ∷ [])));
        answered = All-cons (HoldsAnswer answer inputs) first (second ∷ []) f.answered (All-cons (HoldsAnswer answer inputs) second [] h.answered (All-nil (HoldsAnswer answer inputs)));
        ended =
            ⊎_elim
            (λ (t : nat_le claims.total m ≡ true). inl (ap (λ (x : PassSeen). x.spent) e.pass ∙ (ap (λ z. nat_le z m) same ∙ t), (n ∷ [], m, refl, grind (arith, nat_tests))))
            (λ (t : nat_le claims.total m ≡ false).
            let two : o2 ≡ m ∷ [] = h.stands ∙ under_low claims.total m t in
            inr (ap length (λ i. one i ++ (two i ++ []))))
            (cases_Bool (nat_le claims.total m));
        whole = λ o none_out.
            (m + 1, e.whole (sym (ap (λ (x : PassSeen). x.opens) e.pass) ∙ o) (sym (ap (λ (x : PassSeen). x.out) e.pass) ∙ none_out));
      }
