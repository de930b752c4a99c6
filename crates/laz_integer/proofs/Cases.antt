-- The four kinds of corrector, by its width: the events after the width, and what follows for all four.
use Rattle.std.proofs.Common.{◌≡◌, ℕ, ◌-◌, ◌/◌, ◌%◌, ◌^◌, ◌<◌, ◌≤◌, eqb, leb, cond, Bool, true, false, List, [], ◌∷◌, refl, sym, ap, subst, ◌∙◌, arith, ⊎_elim}
use Rattle.std.proofs.lemmas.Bool.{cases_lt, cases_eq, cond-true, cond-false, ne_eqb, le-leb, lt-leb}
use Rattle.laz_integer.specs.Events.{Event, Symbol, Flag, raw_events}
use Rattle.laz_integer.specs.Integer.{IntState, bit_name, high_name, rest_events, events_cuts, events_next}

pub events-zero : (kind : List ℕ) (v : ℕ) → rest_events kind 0 v ≡ Flag (bit_name kind) (eqb v 1) ∷ []
unfolding rest_events
events-zero kind v = refl

pub events-most : (kind : List ℕ) (v : ℕ) → rest_events kind 32 v ≡ []
unfolding rest_events
events-most kind v = refl

pub events-narrow : (kind : List ℕ) (k v : ℕ) → 0 < k → k ≤ 8 → rest_events kind k v ≡ Symbol (high_name kind k) (2 ^ k) v ∷ []
unfolding rest_events
events-narrow kind k v some narrow =
    cond-false (eqb k 0) _ _ (ne_eqb k 0 (λ e. omega arith))
    ∙ (cond-false (eqb k 32) _ _ (ne_eqb k 32 (λ e. omega arith)) ∙ cond-true (leb k 8) _ _ (le-leb k 8 narrow))

pub events-wide : (kind : List ℕ) (k v : ℕ) → 8 < k → k < 32 → rest_events kind k v ≡ Symbol (high_name kind k) 256 (v / 2 ^ (k - 8)) ∷ raw_events (k - 8) (v % 2 ^ (k - 8))
unfolding rest_events
events-wide kind k v wide small =
    cond-false (eqb k 0) _ _ (ne_eqb k 0 (λ e. omega arith))
    ∙ (cond-false (eqb k 32) _ _ (ne_eqb k 32 (λ e. omega arith)) ∙ cond-false (leb k 8) _ _ (lt-leb k 8 wide))

-- what holds of the events of each kind holds of all
pub by-width : (P : List Event → Type 0) (kind : List ℕ) (k v : ℕ) → k ≤ 32
    → (k ≡ 0 → P (Flag (bit_name kind) (eqb v 1) ∷ []))
    → (k ≡ 32 → P [])
    → (0 < k → k ≤ 8 → P (Symbol (high_name kind k) (2 ^ k) v ∷ []))
    → (8 < k → k < 32 → P (Symbol (high_name kind k) 256 (v / 2 ^ (k - 8)) ∷ raw_events (k - 8) (v % 2 ^ (k - 8))))
    → P (rest_events kind k v)
by-width P kind k v few zero_is most_is narrow_is wide_is =
    ⊎_elim
    (λ (e : k ≡ 0). subst P (sym (ap (λ j. rest_events kind j v) e ∙ events-zero kind v)) (zero_is e))
    (λ (more : k ≡ 0 → ⊥).
    ⊎_elim
    (λ (e : k ≡ 32). subst P (sym (ap (λ j. rest_events kind j v) e ∙ events-most kind v)) (most_is e))
    (λ (fewer : k ≡ 32 → ⊥).
    let small : k < 32 = omega (arith, fewer, few) in
    ⊎_elim
    (λ (wide : 8 < k). subst P (sym (events-wide kind k v wide small)) (wide_is wide small))
    (λ (narrow : k ≤ 8). subst P (sym (events-narrow kind k v (omega (arith, more)) narrow)) (narrow_is (omega (arith, more)) narrow))
    (cases_lt 8 k))
    (cases_eq k 32))
    (cases_eq k 0)

-- ---- the models of an integer do not see the use
four : {X : Type 0} (f : List Event → X) (a b c : Bool) (k l m n w x y z : List Event) → f k ≡ f w → f l ≡ f x → f m ≡ f y → f n ≡ f z → f (cond a k (cond b l (cond c m n))) ≡ f (cond a w (cond b x (cond c y z)))
four f true b c k l m n w x y z e g h i = e
four f false true c k l m n w x y z e g h i = g
four f false false true k l m n w x y z e g h i = h
four f false false false k l m n w x y z e g h i = i

pub cuts-use : (kind : List ℕ) (st : IntState) (k v : ℕ) → events_cuts st (rest_events kind k v) ≡ events_cuts st (rest_events [] k v)
unfolding rest_events
cuts-use kind st k v =
    four (events_cuts st) (eqb k 0) (eqb k 32) (leb k 8)
    (Flag (bit_name kind) (eqb v 1) ∷ []) [] (Symbol (high_name kind k) (2 ^ k) v ∷ []) (Symbol (high_name kind k) 256 (v / 2 ^ (k - 8)) ∷ raw_events (k - 8) (v % 2 ^ (k - 8)))
    (Flag (bit_name []) (eqb v 1) ∷ []) [] (Symbol (high_name [] k) (2 ^ k) v ∷ []) (Symbol (high_name [] k) 256 (v / 2 ^ (k - 8)) ∷ raw_events (k - 8) (v % 2 ^ (k - 8)))
    refl refl refl refl

pub next-use : (kind : List ℕ) (st : IntState) (k v : ℕ) → events_next st (rest_events kind k v) ≡ events_next st (rest_events [] k v)
unfolding rest_events
next-use kind st k v =
    four (events_next st) (eqb k 0) (eqb k 32) (leb k 8)
    (Flag (bit_name kind) (eqb v 1) ∷ []) [] (Symbol (high_name kind k) (2 ^ k) v ∷ []) (Symbol (high_name kind k) 256 (v / 2 ^ (k - 8)) ∷ raw_events (k - 8) (v % 2 ^ (k - 8)))
    (Flag (bit_name []) (eqb v 1) ∷ []) [] (Symbol (high_name [] k) (2 ^ k) v ∷ []) (Symbol (high_name [] k) 256 (v / 2 ^ (k - 8)) ∷ raw_events (k - 8) (v % 2 ^ (k - 8)))
    refl refl refl refl
