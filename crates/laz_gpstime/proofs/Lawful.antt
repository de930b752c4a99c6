-- A spelling of a time is of lawful events, few of them, and silent for other uses. Events of other uses change nothing.
use Rattle.std.proofs.Common.{◌≡◌, ℕ, ◌+◌, ◌%◌, ◌<◌, ◌≤◌, cond, eqb, Bool, true, false, List, [], ◌∷◌, ◌++◌, length, refl, sym, ap, subst, ◌∙◌, arith, ⊎_elim, lit<, lit≤}
use Rattle.std.proofs.lemmas.Bool.{cases_eq, cond-false, eq-eqb, ne_eqb}
use Rattle.std.proofs.lemmas.List.{append-nil, length-append}
use Rattle.laz_integer.specs.Events.{Event, Name, Own, Symbol, Flag, Bits, raw_events, same_name, same_text, symbols_under}
use Rattle.laz_integer.specs.Ranged.{AreRanged, IsRanged}
use Rattle.laz_integer.specs.Uses.{Silent, own_name}
use Rattle.laz_integer.proofs.Public.{int-few, raw-few, AreRanged-append, int-ranged, raw-ranged, Silent-append, Silent-int, Silent-none, Silent-other, Silent-raws}
use Rattle.laz_gpstime.specs.Items.{HasTimeSizes}
use Rattle.laz_gpstime.specs.Laws.{OthersLeaveTimes, PointsHoldRecords, TimesAreLawful}
use Rattle.laz_gpstime.specs.Meanings.{Meaning, extremes_after, is_new, meaning_in, meanings, meaning, sets, switch_in, time_kind}
use Rattle.laz_gpstime.specs.Sequences.{Point, difference, extremes, last_time, openings, sequence, time_difference}
use Rattle.laz_gpstime.specs.Spelling.{SpellsNear, SpellsNew, SpellsSame, SpellsTime}
use Rattle.laz_gpstime.specs.Times.{difference_on, model_of, new_symbol, same_symbol, switch_events, symbols_of, time_symbol}
use Rattle.laz_gpstime.specs.declared.sequences.Slot.{Slot}
use Rattle.laz_gpstime.proofs.Fronts.{symbols-are}
use Rattle.laz_gpstime.proofs.Meanings.{meanings-append}
use Rattle.laz_gpstime.proofs.Models.{frame-models}
use Rattle.laz_gpstime.proofs.Written.{same-below}

-- ---- lawful
symbol-size : (sizes : Name → ℕ) (d : ℕ) → HasTimeSizes sizes → sizes (own_name time_kind (model_of d)) ≡ symbols_of d
symbol-size sizes d has =
    ⊎_elim
    (λ (zero_is : d ≡ 0). rw (eq-eqb d 0 zero_is) has.six)
    (λ (some : d ≡ 0 → ⊥). rw (ne_eqb d 0 some) has.many)
    (cases_eq d 0)

symbol-many : (d : ℕ) → (2 ≤ symbols_of d) × (symbols_of d ≤ 2048)
symbol-many d =
    ⊎_elim
    (λ (zero_is : d ≡ 0). rw (eq-eqb d 0 zero_is) (lit≤ tt, lit≤ tt))
    (λ (some : d ≡ 0 → ⊥). rw (ne_eqb d 0 some) (lit≤ tt, lit≤ tt))
    (cases_eq d 0)

symbol-ranged : (sizes : Name → ℕ) (d s : ℕ) → HasTimeSizes sizes → s < symbols_of d → IsRanged sizes (time_symbol d s)
symbol-ranged sizes d s has small = let many = symbol-many d in (sym (symbol-size sizes d has), many.0, many.1, small)

switch-ranged : (sizes : Name → ℕ) (d i : ℕ) → HasTimeSizes sizes → i < 4 → AreRanged sizes (switch_events d i)
switch-ranged sizes d i has few =
    ⊎_elim
    (λ (none : i ≡ 0). rw (eq-eqb i 0 none) tt)
    (λ (some : i ≡ 0 → ⊥). rw (ne_eqb i 0 some) (symbol-ranged sizes d (new_symbol d + i) has (omega (arith, few, symbols-are d)), tt))
    (cases_eq i 0)

same-ranged : (sizes : Name → ℕ) (d from : ℕ) (events : List Event) (time : ℕ) → HasTimeSizes sizes → SpellsSame d from events time → AreRanged sizes events
same-ranged sizes d from events time has h = subst (AreRanged sizes) (sym h.is) (symbol-ranged sizes d (same_symbol d) has (omega (arith, same-below d, symbols-are d)), tt)

near-ranged : (sizes : Name → ℕ) (d from : ℕ) (events : List Event) (time : ℕ) → HasTimeSizes sizes → SpellsNear d from events time → AreRanged sizes events
near-ranged sizes d from events time has h =
    subst (AreRanged sizes) (sym h.is) (symbol-ranged sizes d h.m has (omega (arith, h.below, symbols-are d)), int-ranged sizes time_kind 32 _ _ _ h.k h.rest has.integers (lit≤ tt) (lit≤ tt) h.value)

new-ranged : (sizes : Name → ℕ) (d from : ℕ) (events : List Event) (time : ℕ) → HasTimeSizes sizes → SpellsNew d from events time → AreRanged sizes events
new-ranged sizes d from events time has h =
    subst (AreRanged sizes) (sym h.is) (
      symbol-ranged sizes d (new_symbol d) has (omega (arith, symbols-are d)),
      AreRanged-append sizes h.rest (raw_events 32 h.low) (int-ranged sizes time_kind 32 _ _ _ h.k h.rest has.integers (lit≤ tt) (lit≤ tt) h.value) (raw-ranged sizes 32 h.low (lit< tt) (lit≤ tt) h.small),
    )

pub time-ranged : (sizes : Name → ℕ) (points : List Point) (events : List Event) (time : ℕ) → HasTimeSizes sizes → SpellsTime points events time → AreRanged sizes events
time-ranged sizes points events time has h =
    subst (AreRanged sizes) (sym h.is)
    (AreRanged-append sizes (switch_events (difference_on points 0) h.i) h.rest (switch-ranged sizes (difference_on points 0) h.i has h.few)
    (⊎_elim (same-ranged sizes _ _ h.rest time has) (λ g. ⊎_elim (near-ranged sizes _ _ h.rest time has) (new-ranged sizes _ _ h.rest time has) g) h.spells))

-- ---- few
switch-few : (d i : ℕ) → length (switch_events d i) ≤ 1
switch-few d i =
    ⊎_elim
    (λ (none : i ≡ 0). rw (eq-eqb i 0 none) (lit≤ tt))
    (λ (some : i ≡ 0 → ⊥). rw (ne_eqb i 0 some) (lit≤ tt))
    (cases_eq i 0)

same-few : (d from : ℕ) (events : List Event) (time : ℕ) → SpellsSame d from events time → length events ≤ 7
same-few d from events time h = rw h.is (lit≤ tt)

near-few : (d from : ℕ) (events : List Event) (time : ℕ) → SpellsNear d from events time → length events ≤ 7
near-few d from events time h = rw h.is (omega (arith, int-few time_kind 32 _ _ _ h.rest h.k (lit≤ tt) h.value))

new-few : (d from : ℕ) (events : List Event) (time : ℕ) → SpellsNew d from events time → length events ≤ 7
new-few d from events time h = rw h.is (omega (arith, length-append h.rest (raw_events 32 h.low), raw-few 32 h.low, int-few time_kind 32 _ _ _ h.rest h.k (lit≤ tt) h.value))

time-few : (points : List Point) (events : List Event) (time : ℕ) → SpellsTime points events time → length events ≤ 8
time-few points events time h =
    let rest : length h.rest ≤ 7 = ⊎_elim (same-few _ _ h.rest time) (λ g. ⊎_elim (near-few _ _ h.rest time) (new-few _ _ h.rest time) g) h.spells in
    rw h.is (omega (arith, length-append (switch_events (difference_on points 0) h.i) h.rest, switch-few (difference_on points 0) h.i, rest))

-- ---- silent
symbol-silent : (other : List ℕ) (d s : ℕ) → same_text other time_kind ≡ false → Silent other (time_symbol d s ∷ [])
symbol-silent other d s e = Silent-other other time_kind (time_symbol d s ∷ []) e (refl, tt)

switch-silent : (other : List ℕ) (d i : ℕ) → same_text other time_kind ≡ false → Silent other (switch_events d i)
switch-silent other d i e =
    ⊎_elim
    (λ (none : i ≡ 0). rw (eq-eqb i 0 none) (Silent-none other))
    (λ (some : i ≡ 0 → ⊥). rw (ne_eqb i 0 some) (symbol-silent other d (new_symbol d + i) e))
    (cases_eq i 0)

same-silent : (other : List ℕ) (d from : ℕ) (events : List Event) (time : ℕ) → same_text other time_kind ≡ false → SpellsSame d from events time → Silent other events
same-silent other d from events time e h = subst (Silent other) (sym h.is) (symbol-silent other d (same_symbol d) e)

near-silent : (other : List ℕ) (d from : ℕ) (events : List Event) (time : ℕ) → same_text other time_kind ≡ false → SpellsNear d from events time → Silent other events
near-silent other d from events time e h =
    subst (Silent other) (sym h.is) (Silent-append other (time_symbol d h.m ∷ []) h.rest (symbol-silent other d h.m e) (Silent-int other time_kind 32 _ _ _ h.rest h.k e (lit≤ tt) h.value))

new-silent : (other : List ℕ) (d from : ℕ) (events : List Event) (time : ℕ) → same_text other time_kind ≡ false → SpellsNew d from events time → Silent other events
new-silent other d from events time e h =
    subst (Silent other) (sym h.is)
    (Silent-append other (time_symbol d (new_symbol d) ∷ []) (h.rest ++ raw_events 32 h.low) (symbol-silent other d (new_symbol d) e)
    (Silent-append other h.rest (raw_events 32 h.low) (Silent-int other time_kind 32 _ _ _ h.rest h.k e (lit≤ tt) h.value) (Silent-raws other 32 h.low)))

time-silent : (other : List ℕ) (points : List Point) (events : List Event) (time : ℕ) → same_text other time_kind ≡ false → SpellsTime points events time → Silent other events
time-silent other points events time e h =
    subst (Silent other) (sym h.is)
    (Silent-append other (switch_events (difference_on points 0) h.i) h.rest (switch-silent other (difference_on points 0) h.i e)
    (⊎_elim (same-silent other _ _ h.rest time e) (λ g. ⊎_elim (near-silent other _ _ h.rest time e) (new-silent other _ _ h.rest time e) g) h.spells))

pub times-lawful : TimesAreLawful
times-lawful = record { ranged = time-ranged; few = time-few; silent = time-silent }

-- ---- events of other uses
pub others-leave : OthersLeaveTimes
others-leave earlier others points st silent h = record { models = frame-models st earlier others (silent, tt) h.models; slots = h.slots }

not-nil : (s : ℕ) (xs : List ℕ) → s ∷ xs ≡ [] → ⊥
not-nil s xs e = cc

tail-none : (b : Bool) (s : ℕ) (xs : List ℕ) → cond b (s ∷ xs) xs ≡ [] → (b ≡ false) × (xs ≡ [])
tail-none true s xs e = absurd (not-nil s xs e)
tail-none false s xs e = (refl, e)

meanings-none : (events : List Event) → ((m : ℕ) → symbols_under (own_name time_kind m) events ≡ []) → meanings events ≡ []
meanings-none [] h = refl
meanings-none (Symbol other n s ∷ events) h =
    let here = tail-none (same_name (own_name time_kind other.which) other) s (symbols_under (own_name time_kind other.which) events) (h other.which) in
    cond-false (same_name (own_name time_kind other.which) other) (meaning other.which s ∷ meanings events) (meanings events) here.0
    ∙ meanings-none events (λ m. (tail-none (same_name (own_name time_kind m) other) s (symbols_under (own_name time_kind m) events) (h m)).1)
meanings-none (Flag other bit ∷ events) h = meanings-none events h
meanings-none (Bits b v ∷ events) h = meanings-none events h

silent-meanings : (events : List Event) → Silent time_kind events → meanings events ≡ []
silent-meanings events h = meanings-none events (λ m. h.symbols Own m)

meanings-between : (before events after : List Event) → Silent time_kind before → Silent time_kind after → meanings (before ++ (events ++ after)) ≡ meanings events
meanings-between before events after f g =
    meanings-append before (events ++ after)
    ∙ (ap (λ l. l ++ meanings (events ++ after)) (silent-meanings before f)
    ∙ (meanings-append events after ∙ (ap (λ l. meanings events ++ l) (silent-meanings after g) ∙ append-nil (meanings events))))

abbrev sequence_by : List Meaning → List Point → ℕ
sequence_by ms earlier = cond (is_new (meaning_in ms)) ((openings earlier + 1) % 4) ((sequence earlier + switch_in ms) % 4)

abbrev slot_by : ℕ → List Meaning → List Point → ℕ → Slot
slot_by time ms earlier s =
    let here = eqb (sequence_by ms earlier) s in
    record {
      time = cond here time (last_time earlier s);
      difference = cond here (cond (is_new (meaning_in ms)) 0 (cond (sets (meaning_in ms) (extremes earlier s)) (time_difference (last_time earlier s) time % 4294967296) (difference earlier s))) (difference earlier s);
      extremes = cond here (extremes_after (meaning_in ms) (extremes earlier s)) (extremes earlier s);
    }

pub points-hold : PointsHoldRecords
points-hold earlier before events after time points st f g h =
    let e = meanings-between before events after f g in
    record {
      models = h.models;
      slots = record {
        last = h.slots.last ∙ ap (λ ms. sequence_by ms points) (sym e);
        next = h.slots.next ∙ ap (λ ms. cond (is_new (meaning_in ms)) (openings points + 1) (openings points) % 4) (sym e);
        count = h.slots.count;
        slot = λ s within. h.slots.slot s within ∙ ap (λ ms. slot_by time ms points s) (sym e);
      };
    }
