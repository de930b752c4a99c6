-- Which events the models of an integer count, and that a corrector's events are such.
use Rattle.std.proofs.Common.{◌≡◌, ℕ, ◌+◌, ◌-◌, ◌%◌, ◌^◌, ◌<◌, ◌≤◌, min, List, [], ◌∷◌, length, refl, sym, ap, arith, ⊎_elim, lit<, lit≤}
use Rattle.std.proofs.lemmas.Bool.{cases_lt}
use Rattle.std.specs.List.{AllByRecursion}
use Rattle.laz_range.specs.Cut.{AreCuts, IsCut}
use Rattle.laz_range.proofs.Public.{raw_high}
use Rattle.laz_models.specs.Bank.{model_at}
use Rattle.laz_models.specs.Dist.{alphabet_size}
use Rattle.laz_integer.specs.Corrector.{choices}
use Rattle.laz_integer.specs.Events.{Event, Symbol, Flag, Bits, Role, Own, Width, ZeroOrOne, High, raw_events}
use Rattle.laz_integer.specs.Integer.{IntState, IsInts, bit_name, corrector_events, rest_events, event_cut, event_next, events_cuts, high_at}
use Rattle.laz_integer.specs.Uses.{name_of}
use Rattle.laz_integer.proofs.Cases.{by-width}
use Rattle.laz_integer.proofs.Choices.{wide_parts}
use Rattle.laz_integer.proofs.Correctors.{choices-more}
use Rattle.laz_integer.proofs.Named.{raw-wide, raw-short}
use Rattle.laz_integer.proofs.Sounds.{IsIntState-width, IsIntState-high, IsIntState-flag}
use Rattle.laz_integer.proofs.States.{models-count, width-size, high-size, high-in}
use Rattle.laz_integer.proofs.SymbolParts.{AreCuts-symbol}

abbrev pub IsIntSymbol : ℕ → ℕ → Role → ℕ → ℕ → ℕ → Type 0
IsIntSymbol bits contexts Own which n s = ⊥
IsIntSymbol bits contexts Width which n s = (which < contexts) × (n ≡ bits + 1) × (s < n)
IsIntSymbol bits contexts ZeroOrOne which n s = ⊥
IsIntSymbol bits contexts High which n s = (0 < which) × (which ≤ bits) × (n ≡ 2 ^ min which 8) × (s < n)

abbrev pub IsIntEvent : List ℕ → ℕ → ℕ → Event → Type 0
IsIntEvent kind bits contexts (Symbol name n s) = (name.kind ≡ kind) × IsIntSymbol bits contexts name.role name.which n s
IsIntEvent kind bits contexts (Flag name bit) = name ≡ bit_name kind
IsIntEvent kind bits contexts (Bits b v) = (0 < b) × (b ≤ 19) × (v < 2 ^ b)

abbrev pub AreIntEvents : List ℕ → ℕ → ℕ → List Event → Type 0
AreIntEvents kind bits contexts events = AllByRecursion (IsIntEvent kind bits contexts) events

-- ---- the events of a raw value and of a corrector
raw-events : (kind : List ℕ) (bits contexts b v : ℕ) → 0 < b → b ≤ 32 → v < 2 ^ b → AreIntEvents kind bits contexts (raw_events b v)
raw-events kind bits contexts b v some few small =
    ⊎_elim
    (λ (wide : 19 < b).
    let high = raw_high v b wide small in
    rw (raw-wide b v wide) ((lit< tt, lit≤ tt, omega arith), ((omega arith, omega arith, high), tt)))
    (λ (narrow : b ≤ 19). rw (raw-short b v narrow) ((some, narrow, small), tt))
    (cases_lt 19 b)

rest-events : (kind : List ℕ) (bits contexts k v : ℕ) → bits ≤ 32 → k ≤ bits → v < choices k → AreIntEvents kind bits contexts (rest_events kind k v)
rest-events kind bits contexts k v few range within =
    by-width (AreIntEvents kind bits contexts) kind k v (omega arith)
    (λ zero_is. (refl, tt))
    (λ most_is. tt)
    (λ some narrow.
    let least : min k 8 ≡ k = omega arith in
    ((refl, (some, range, sym (ap (λ n. 2 ^ n) least), rw (choices-more k some (omega arith)) at within)), tt))
    (λ wide small.
    let parts = wide_parts k v wide (rw (choices-more k (omega arith) small) at within) in
    let least : min k 8 ≡ 8 = omega arith in
    let power : 2 ^ min k 8 ≡ 256 = ap (λ n. 2 ^ n) least in
    ((refl, (omega arith, range, sym power, omega (arith, parts.0, power))), raw-events kind bits contexts (k - 8) (v % 2 ^ (k - 8)) (omega arith) (omega arith) parts.1))

pub corrector-events : (kind : List ℕ) (bits contexts ctx k v : ℕ) → bits ≤ 32 → ctx < contexts → k ≤ bits → v < choices k → AreIntEvents kind bits contexts (corrector_events kind bits ctx k v)
corrector-events kind bits contexts ctx k v few within range value = ((refl, (within, refl, omega arith)), rest-events kind bits contexts k v few range value)

-- ---- the models stay such
IsInts-symbol : (st : IntState) (bits contexts : ℕ) (role : Role) (kind : List ℕ) (which n s : ℕ) → IsInts bits contexts st → IsIntSymbol bits contexts role which n s → IsInts bits contexts (event_next st (Symbol (name_of kind role which) n s))
IsInts-symbol st bits contexts Own kind which n s is asked = absurd asked
IsInts-symbol st bits contexts ZeroOrOne kind which n s is asked = absurd asked
IsInts-symbol st bits contexts Width kind which n s is asked =
    record { state = IsIntState-width st which s is.state (omega (arith, asked.0, is.contexts)) (omega (arith, asked.1, asked.2, is.bits)); bits = is.bits; contexts = is.contexts }
IsInts-symbol st bits contexts High kind which n s is asked =
    record { state = IsIntState-high st which s is.state asked.0 (omega (arith, asked.1, is.bits)) (omega (arith, asked.2, asked.3)); bits = is.bits; contexts = is.contexts }

pub IsInts-event : (kind : List ℕ) (st : IntState) (bits contexts : ℕ) (e : Event) → IsInts bits contexts st → IsIntEvent kind bits contexts e → IsInts bits contexts (event_next st e)
IsInts-event kind st bits contexts (Symbol name n s) is asked = IsInts-symbol st bits contexts name.role name.kind name.which n s is asked.1
IsInts-event kind st bits contexts (Flag name bit) is asked = record { state = IsIntState-flag st bit is.state; bits = is.bits; contexts = is.contexts }
IsInts-event kind st bits contexts (Bits b v) is asked = is

-- ---- their parts are parts
IsCut-symbol : (st : IntState) (bits contexts : ℕ) (role : Role) (kind : List ℕ) (which n s : ℕ) → IsInts bits contexts st → IsIntSymbol bits contexts role which n s → IsCut (event_cut st (Symbol (name_of kind role which) n s))
IsCut-symbol st bits contexts Own kind which n s is asked = absurd asked
IsCut-symbol st bits contexts ZeroOrOne kind which n s is asked = absurd asked
IsCut-symbol st bits contexts Width kind which n s is asked =
    let within : which < st.contexts = omega (arith, asked.0, is.contexts) in
    (AreCuts-symbol (alphabet_size (model_at st.bank which)) (model_at st.bank which).starts s (is.state.sound which (omega (arith, models-count st is.state, within))).starts (omega (arith, asked.1, asked.2, is.bits, width-size st which is.state within))).0
IsCut-symbol st bits contexts High kind which n s is asked =
    let small : which ≤ st.bits = omega (arith, asked.1, is.bits) in
    (AreCuts-symbol (alphabet_size (high_at st which)) (high_at st which).starts s (is.state.sound (st.contexts + (which - 1)) (high-in st which is.state asked.0 small)).starts (omega (arith, asked.2, asked.3, high-size st which is.state asked.0 small))).0

IsCut-event : (kind : List ℕ) (st : IntState) (bits contexts : ℕ) (e : Event) → IsInts bits contexts st → IsIntEvent kind bits contexts e → IsCut (event_cut st e)
IsCut-event kind st bits contexts (Symbol name n s) is asked = IsCut-symbol st bits contexts name.role name.kind name.which n s is asked.1
IsCut-event kind st bits contexts (Flag name bit) is asked = (is.state.bit.p0_some, is.state.bit.p0_below)
IsCut-event kind st bits contexts (Bits b v) is asked = asked

pub AreCuts-events : (kind : List ℕ) (st : IntState) (bits contexts : ℕ) (events : List Event) → IsInts bits contexts st → AreIntEvents kind bits contexts events → AreCuts (events_cuts st events)
AreCuts-events kind st bits contexts [] is asked = tt
AreCuts-events kind st bits contexts (e ∷ events) is asked = (IsCut-event kind st bits contexts e is asked.0, AreCuts-events kind (event_next st e) bits contexts events (IsInts-event kind st bits contexts e is asked.0) asked.1)

pub length-events_cuts : (st : IntState) (events : List Event) → length (events_cuts st events) ≡ length events
length-events_cuts st [] = refl
length-events_cuts st (e ∷ events) = omega (arith, length-events_cuts (event_next st e) events)
