use Rattle.std.proofs.Common.{◌≡◌, ℕ, ◌+◌, ◌-◌, ◌<◌, ◌≤◌, Option, Some, List, [], ◌∷◌, ◌++◌, length, get_or, set, take, refl, sym, ap, ◌∙◌, subst, ⊎_elim, append-nil, arith}
use Rattle.std.specs.Prelude.{flat_map, is_some}
use Rattle.std.proofs.lemmas.List.{length-set, get_or-set_same, get_or-set_other, get_or_default, take_more, take_all}
use Rattle.std.proofs.lemmas.List.Concat.{flat_map-append}
use Rattle.std.proofs.lemmas.Bool.{cases_eq}
use Rattle.laz_workers.specs.declared.hand.Hand.{Hand}
use Rattle.laz_workers.specs.Numbers.{HoldsBelow}
use Rattle.laz_workers.specs.Seen.{PassSeen}
use Rattle.laz_workers.specs.Run.{drawn_of, drawn_by}
use Rattle.laz_workers.specs.Shown.{shown}
use Rattle.laz_workers.proofs.RoomLists.{map_same}
use Rattle.laz_workers.proofs.run.join_all.Goals as goal

-- the lists of one element more, in a row
flat_more : {X A : Type 0} (f : X → List A) (xs : List X) (i : ℕ) (d : X) → i < length xs → flat_map f (take (i + 1) xs) ≡ flat_map f (take i xs) ++ f (get_or xs i d)
flat_more f xs i d lt =
    let x = get_or xs i d in
    ap (flat_map f) (take_more xs i d lt) ∙ (flat_map-append f (take i xs) (x ∷ []) ∙ ap (λ l. flat_map f (take i xs) ++ l) (append-nil (f x)))

-- the pass that hand i holds is taken: the other hands stay, and what is shown of each
taken_other : {S : Type 0} (hands : List (Hand S)) (i : ℕ) (x : Hand S) (k : ℕ) (d : Hand S) → i + 1 ≤ k → get_or (set hands i x) k d ≡ get_or hands k d
taken_other hands i x k d le = get_or-set_other hands i k x d (omega arith)

taken_shows : {S : Type 0} (hands : List (Hand S)) (i : ℕ) (x e : Hand S) → i < length hands → shown x ≡ shown e → ((d : Hand S) → e ≡ get_or hands i d) → (k : ℕ) (d : Hand S) → shown (get_or (set hands i x) k d) ≡ shown (get_or hands k d)
taken_shows {S} hands i x e lt same at k d =
    let Same : ℕ → Type 0 = λ j. shown (get_or (set hands i x) j d) ≡ shown (get_or hands j d) in
    ⊎_elim
    (λ (q : k ≡ i). subst Same (sym q) (ap shown (get_or-set_same hands i x d lt) ∙ (same ∙ ap shown (at d))))
    (λ (q : k ≡ i → ⊥). ap shown (get_or-set_other hands i k x d q))
    (cases_eq k i)

-- the pass that a hand gave is the one that it held
taken : (p q : PassSeen) (o : Option PassSeen) → o ≡ Some p → o ≡ Some q → p ≡ q
taken p q o e f = cc

pub take_pass-opening-requires : goal.take_pass-opening-requires
take_pass-opening-requires g c = ap is_some (c.requires.passes 0 c.index-hands-0.result c.requires.hands).held

pub loop-h-init : goal.loop-h-init
loop-h-init g c =
    let hands = c.args.hands.now in
    let hand = c.index-hands-0.result in
    let left = c.take_pass-opening.new.hand in
    let opening = c.take_pass-opening.result in
    let holds = c.requires.passes 0 hand c.requires.hands in
    let same : opening ≡ holds.pass = taken opening holds.pass (get_or hands 0 hand).pass c.take_pass-opening.ensures.pass holds.held in
    let Whole : PassSeen → Type 0 = λ p. p.out ≡ 0 → (word : ℕ) × HoldsBelow word p.drawn in
    record {
      same_length = length-set hands 0 left;
      own = ap (λ (p : PassSeen). p.claims) same ∙ holds.own;
      opens = ap (λ (p : PassSeen). p.opens) same ∙ (holds.opens refl).0;
      out = ap (λ (p : PassSeen). p.out + 1) same ∙ (holds.opens refl).1;
      drawn = sym (flat_more drawn_by hands 0 hand c.requires.hands ∙ ap drawn_of c.take_pass-opening.ensures.pass);
      whole = subst Whole (sym same) (holds.whole (holds.opens refl).0);
      shows = λ k d lt. taken_shows hands 0 left (get_or hands 0 hand) c.requires.hands (ap shown c.take_pass-opening.ensures.hand) (λ e. get_or_default hands 0 hand e c.requires.hands) k d;
      behind = λ k d le. taken_other hands 0 left k d le;
    }

pub take_pass-pass-requires : goal.take_pass-pass-requires
take_pass-pass-requires g c =
    let inv = c.loop-h.invariant in
    let h = c.loop-h.h in
    let hand = c.index-hands-h.result in
    let lt : h < length c.args.hands.now = omega (arith, c.loop-h-test.true, length-set c.args.hands.now 0 c.take_pass-opening.new.hand) in
    ap is_some (ap (λ (x : Hand g.row.S.Denot). x.pass) (inv.behind h hand (omega arith)) ∙ (c.requires.passes h hand lt).held)

pub join-requires-clause-own : goal.join-requires-clause-own
join-requires-clause-own g c =
    let inv = c.loop-h.invariant in
    let h = c.loop-h.h in
    let hand = c.index-hands-h.result in
    let pass = c.take_pass-pass.result in
    let lt : h < length c.args.hands.now = omega (arith, c.loop-h-test.true, length-set c.args.hands.now 0 c.take_pass-opening.new.hand) in
    let holds = c.requires.passes h hand lt in
    let held = ap (λ (x : Hand g.row.S.Denot). x.pass) (inv.behind h hand (omega arith)) ∙ holds.held in
    let same : pass ≡ holds.pass = taken pass holds.pass (get_or c.loop-h.hands h hand).pass c.take_pass-pass.ensures.pass held in
    (inv.own, ap (λ (p : PassSeen). p.claims) same ∙ holds.own)

pub join-requires-clause-opening : goal.join-requires-clause-opening
join-requires-clause-opening g c = c.loop-h.invariant.opens

pub join-requires-clause-split : goal.join-requires-clause-split
join-requires-clause-split g c =
    let inv = c.loop-h.invariant in
    let h = c.loop-h.h in
    let hand = c.index-hands-h.result in
    let pass = c.take_pass-pass.result in
    let lt : h < length c.args.hands.now = omega (arith, c.loop-h-test.true, length-set c.args.hands.now 0 c.take_pass-opening.new.hand) in
    let holds = c.requires.passes h hand lt in
    let held = ap (λ (x : Hand g.row.S.Denot). x.pass) (inv.behind h hand (omega arith)) ∙ holds.held in
    let same : pass ≡ holds.pass = taken pass holds.pass (get_or c.loop-h.hands h hand).pass c.take_pass-pass.ensures.pass held in
    ap (λ (p : PassSeen). p.opens) same ∙ holds.split c.loop-h.auto.h

pub loop-h-preserved : goal.loop-h-preserved
loop-h-preserved g c =
    let all = c.args.hands.now in
    let inv = c.loop-h.invariant in
    let hands = c.loop-h.hands in
    let h = c.loop-h.h in
    let hand = c.index-hands-h.result in
    let left = c.take_pass-pass.new.hand in
    let opening = c.loop-h.opening in
    let joined = c.join.new.pass in
    let pass = c.take_pass-pass.result in
    let lt : h < length all = omega (arith, c.loop-h-test.true, length-set all 0 c.take_pass-opening.new.hand) in
    let here : h < length hands = omega (arith, lt, inv.same_length) in
    let at = inv.behind h hand (omega arith) in
    let held : (get_or all h hand).pass ≡ Some pass = ap (λ (x : Hand g.row.S.Denot). x.pass) (sym at) ∙ c.take_pass-pass.ensures.pass in
    let out : joined.out ≡ opening.out - 1 = ap (λ (p : PassSeen). p.out) c.join.ensures.pass in
    let more = flat_more drawn_by all h hand lt ∙ ap (λ l. flat_map drawn_by (take h all) ++ l) (ap drawn_of held) in
    let kept = length-set hands h left in
    let shows = taken_shows hands h left (get_or hands h hand) here (ap shown c.take_pass-pass.ensures.hand) (λ e. get_or_default hands h hand e here) in
    record {
      same_length = kept ∙ inv.same_length;
      own = ap (λ (p : PassSeen). p.claims) c.join.ensures.pass ∙ inv.own;
      opens = ap (λ (p : PassSeen). p.opens) c.join.ensures.pass ∙ inv.opens;
      out = omega (arith, out, inv.out, c.join.ensures.out);
      drawn = ap (λ (p : PassSeen). p.drawn) c.join.ensures.pass ∙ (ap (λ l. l ++ pass.drawn) inv.drawn ∙ sym more);
      whole = c.join.ensures.whole;
      shows = λ k d in_hands. shows k d ∙ inv.shows k d (omega (arith, in_hands, kept));
      behind = λ k d le. taken_other hands h left k d le ∙ inv.behind k d (omega (arith, le));
    }

pub returns-clause-drawn : goal.returns-clause-drawn
returns-clause-drawn g c =
    let hands = c.args.hands.now in
    let last : length hands ≤ c.loop-h.h = omega (arith, c.loop-h-test.false, length-set hands 0 c.take_pass-opening.new.hand) in
    c.loop-h.invariant.drawn ∙ ap (flat_map drawn_by) (take_all c.loop-h.h hands last)

pub returns-clause-hands : goal.returns-clause-hands
returns-clause-hands g c = map_same shown c.loop-h.hands c.args.hands.now c.loop-h.invariant.same_length c.loop-h.invariant.shows
