use Rattle.std.proofs.Common.{◌≡◌, ℕ, ◌+◌, ◌/◌, ◌%◌, eqb, true, false, List, [], ◌∷◌, ◌++◌, refl, sym, ap, subst, ◌∙◌, append_assoc}
use Rattle.std.specs.Int.{w32, cast_signed}
use Rattle.std.proofs.lemmas.Bool.{cond-true, cond-false, eq-eqb, ne_eqb}
use Rattle.laz_range.specs.Cut.{Cut, raw_cuts}
use Rattle.laz_range.specs.Coding.{Coding, Codes}
use Rattle.laz_range.proofs.Public.{Codes-append}
use Rattle.laz_integer.specs.Events.{Event, cuts_after, raw_events}
use Rattle.laz_integer.specs.Integer.{IntEvents}
use Rattle.laz_integer.proofs.Public.{cuts_after-append, cuts-raw, cons_same}
use Rattle.laz_gpstime.specs.Meanings.{time_kind}
use Rattle.laz_gpstime.specs.Sequences.{time_difference}
use Rattle.laz_gpstime.specs.Slots.{ModelsStand, TimeState}
use Rattle.laz_gpstime.specs.Times.{context, difference_symbol, near_events, near_rest, near_symbol, new_events, new_symbol, predicted, same_symbol, switch_events, time_symbol}
use Rattle.laz_gpstime.specs.declared.sequences.Slot.{Slot}
use Rattle.laz_gpstime.proofs.Models.{raw-piece}

-- ---- one list of events and then another
pub two-codes : (a b c : Coding) (earlier xs ys : List Event) → Codes a b (cuts_after earlier xs) → Codes b c (cuts_after (earlier ++ xs) ys) → Codes a c (cuts_after earlier (xs ++ ys))
two-codes a b c earlier xs ys f g = subst (λ (cs : List Cut). Codes a c cs) (sym (cuts_after-append earlier xs ys)) (Codes-append a b c _ _ f g)

pub raw-codes : (a b : Coding) (earlier : List Event) (bits v : ℕ) → Codes a b (raw_cuts bits v) → Codes a b (cuts_after earlier (raw_events bits v))
raw-codes a b earlier bits v h = subst (λ (cs : List Cut). Codes a b cs) (sym (cuts-raw earlier bits v)) h

pub raw-stands : (earlier : List Event) (bits v : ℕ) (st : TimeState) → ModelsStand earlier st → ModelsStand (earlier ++ raw_events bits v) st
raw-stands earlier bits v st h = (raw-piece st bits v).stands earlier h

pub two-stand : (earlier xs ys : List Event) (st : TimeState) → ModelsStand ((earlier ++ xs) ++ ys) st → ModelsStand (earlier ++ (xs ++ ys)) st
two-stand earlier xs ys st h = subst (λ (l : List Event). ModelsStand l st) (append_assoc earlier xs ys) h

-- the models stand, whatever the slots are
pub stand-still : (events : List Event) (st new : TimeState) → new.symbols ≡ st.symbols → new.integers ≡ st.integers → ModelsStand events st → ModelsStand events new
stand-still events st new e f h = record { symbols = rw e h.symbols; integers = rw f h.integers }

-- ---- which events
pub some-switch : (d i : ℕ) → (i ≡ 0 → ⊥) → switch_events d i ≡ time_symbol d (new_symbol d + i) ∷ []
some-switch d i some = cond-false (eqb i 0) _ _ (ne_eqb i 0 some)

near-same-parts : (d x s : ℕ) → eqb x 0 ≡ true → s ≡ same_symbol d → time_symbol d s ∷ [] ≡ time_symbol d (near_symbol d x) ∷ near_rest d x
near-same-parts d x s b at = cons_same _ _ _ _ (ap (time_symbol d) (at ∙ sym (cond-true (eqb x 0) _ _ b))) (sym (cond-true (eqb x 0) _ _ b))

near-other-parts : (d x s pred ctx : ℕ) → eqb x 0 ≡ false → s ≡ difference_symbol d x → pred ≡ predicted d s → ctx ≡ context d s
    → time_symbol d s ∷ IntEvents time_kind 32 ctx (cast_signed w32 pred) (cast_signed w32 x) ≡ time_symbol d (near_symbol d x) ∷ near_rest d x
near-other-parts d x s pred ctx b at p c =
    cons_same _ _ _ _ (ap (time_symbol d) (at ∙ sym (cond-false (eqb x 0) _ _ b)))
    (ap (λ n. IntEvents time_kind 32 n (cast_signed w32 pred) (cast_signed w32 x)) (c ∙ ap (context d) at)
    ∙ (ap (λ n. IntEvents time_kind 32 (context d (difference_symbol d x)) (cast_signed w32 n) (cast_signed w32 x)) (p ∙ ap (predicted d) at)
    ∙ sym (cond-false (eqb x 0) _ _ b)))

pub near-same : (slot : Slot) (s word time : ℕ) → word ≡ time_difference slot.time time % 4294967296 → word ≡ 0 → s ≡ same_symbol slot.difference → time_symbol slot.difference s ∷ [] ≡ near_events slot.difference slot.time time
near-same slot s word time is none at =
    let x : ℕ = time_difference slot.time time % 4294967296 in
    let b : eqb x 0 ≡ true = eq-eqb x 0 (sym is ∙ none) in
    near-same-parts slot.difference x s b at

pub near-other : (slot : Slot) (s word time pred ctx : ℕ) → word ≡ time_difference slot.time time % 4294967296 → (word ≡ 0 → ⊥) → s ≡ difference_symbol slot.difference word → pred ≡ predicted slot.difference s → ctx ≡ context slot.difference s
    → (time_symbol slot.difference s ∷ []) ++ IntEvents time_kind 32 ctx (cast_signed w32 pred) (cast_signed w32 word) ≡ near_events slot.difference slot.time time
near-other slot s word time pred ctx is some at p c = subst (λ (x : ℕ). time_symbol slot.difference s ∷ IntEvents time_kind 32 ctx (cast_signed w32 pred) (cast_signed w32 word) ≡ time_symbol slot.difference (near_symbol slot.difference x) ∷ near_rest slot.difference x) is (near-other-parts slot.difference word s pred ctx (ne_eqb word 0 some) at p c)

-- ---- the first that a time is near to

pub new-is-made : (slot : Slot) (time s hi high low : ℕ) → s ≡ new_symbol slot.difference → hi ≡ slot.time / 4294967296 → high ≡ time / 4294967296 → low ≡ time % 4294967296
    → (time_symbol slot.difference s ∷ []) ++ (IntEvents time_kind 32 8 (cast_signed w32 hi) (cast_signed w32 high) ++ raw_events 32 low) ≡ new_events slot.difference slot.time time
new-is-made slot time s hi high low e f g l = rw (e, f, g, l) refl
