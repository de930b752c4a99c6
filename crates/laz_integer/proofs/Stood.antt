use Rattle.std.proofs.Common.{◌≡◌, ℕ, ◌+◌, ◌-◌, ◌^◌, ◌<◌, ◌≤◌, min, Bool, List, [], ◌∷◌, ◌++◌, length, map, get_or, refl, sym, ap, ◌∙◌, arith, ⊎_elim, lit≤, append_assoc, subst}
use Rattle.std.proofs.lemmas.Bool.{cases_eq}
use Rattle.std.proofs.lemmas.List.{append-nil, get_or-set_same, get_or-set_other, get_or-map}
use Rattle.std.proofs.Math.Nat.{pow-le-pow_right}
use Rattle.laz_range.specs.Cut.{Cut, Bit, symbol}
use Rattle.laz_models.specs.Counting.{Counting, after_symbol, new_model}
use Rattle.laz_models.specs.BitCounting.{BitCounting, after_bit, new_bit_model}
use Rattle.laz_models.specs.Dist.{StandsFor, alphabet_size}
use Rattle.laz_models.specs.BitDist.{BitStandsFor}
use Rattle.laz_models.specs.Bank.{model_at}
use Rattle.laz_models.proofs.Public.{StandsFor-push, StandsFor-new_model, BitStandsFor-push, BitStandsFor-new_bit_model}
use Rattle.laz_integer.specs.Corrector.{choices}
use Rattle.laz_integer.specs.Events.{Event, Symbol, Flag, Name, Bits, Role, Own, Width, ZeroOrOne, High, symbols_under, bits_under, cut_after, cuts_after}
use Rattle.laz_integer.specs.Integer.{IntState, IsInts, IsIntState, IntStands, width_name, bit_name, high_name, corrector_events, symbol_cut, high_at, symbol_next, flag_next, event_cut, event_next, events_cuts, events_next, int_cuts, int_next, int_sizes}
use Rattle.laz_integer.specs.Uses.{name_of}
use Rattle.laz_integer.proofs.Cases.{cuts-use, next-use}
use Rattle.laz_integer.proofs.Counted.{IsIntSymbol, IsIntEvent, AreIntEvents, corrector-events, IsInts-event}
use Rattle.laz_integer.proofs.Uses.{int-silent, Silent-raw}
use Rattle.laz_integer.proofs.States.{models-count, width-size, high-size, high-in, length-sizes, sizes-two}
use Rattle.laz_integer.proofs.Named.{same-width, same-high, same-bit, other-width, other-high, symbols-with, symbols-without, bits-with, symbols-flag, bits-symbol}

-- ---- one event after others, and the part that its model gives
pub symbol-cut : (earlier : List Event) (name : Name) (m : Counting) (n s : ℕ) → alphabet_size m ≡ n → StandsFor (symbols_under name earlier) m → cut_after earlier (Symbol name n s) ≡ symbol_cut m s
symbol-cut earlier name m n s e stands = rw (← e) (ap (λ parts. symbol parts s) (sym stands.starts))

pub bit-cut : (earlier : List Event) (name : Name) (m : BitCounting) (bit : Bool) → BitStandsFor (bits_under name earlier) m → cut_after earlier (Flag name bit) ≡ Bit m.p0 bit
bit-cut earlier name m bit stands = ap (λ p. Bit p bit) (sym stands.p0)

-- a model that is left alone, or counts one symbol more
stands-along : (h g : List ℕ) (m n : Counting) → g ≡ h → n ≡ m → StandsFor h m → StandsFor g n
stands-along h g m n e f stands = subst (λ (l : List ℕ). StandsFor l n) (sym e) (subst (λ (k : Counting). StandsFor h k) (sym f) stands)

stands-more : (h g : List ℕ) (m n : Counting) (s : ℕ) → 2 ≤ alphabet_size m → s < alphabet_size m → g ≡ h ++ s ∷ [] → n ≡ after_symbol m s → StandsFor h m → StandsFor g n
stands-more h g m n s many within e f stands = stands-along (h ++ s ∷ []) g (after_symbol m s) n e f (StandsFor-push h s m many within stands)

-- ---- a width is counted
pub stands-width : (kind : List ℕ) (earlier : List Event) (st : IntState) (ctx k : ℕ) → IsIntState st → ctx < st.contexts → k ≤ st.bits → IntStands kind earlier st
    → IntStands kind (earlier ++ Symbol (width_name kind ctx) (st.bits + 1) k ∷ []) (symbol_next st ctx k)
stands-width kind earlier st ctx k is within small h =
    let e = Symbol (width_name kind ctx) (st.bits + 1) k in
    let size = width-size st ctx is within in
    let here : ctx < length st.bank = omega (arith, models-count st is, within) in
    record {
      widths = λ c inside.
          ⊎_elim
          (λ (same : c ≡ ctx).
          rw same
          (stands-more _ _ (model_at st.bank ctx) _ k (omega (arith, size, is.some)) (omega (arith, size, small))
          (symbols-with (width_name kind ctx) (width_name kind ctx) (st.bits + 1) k earlier (same-width kind ctx))
          (get_or-set_same st.bank ctx (after_symbol (model_at st.bank ctx) k) (new_model 2) here)
          (h.widths ctx within)))
          (λ (ne : c ≡ ctx → ⊥).
          stands-along _ _ (model_at st.bank c) _
          (symbols-without (width_name kind c) (width_name kind ctx) (st.bits + 1) k earlier (other-width kind c ctx ne))
          (get_or-set_other st.bank ctx c (after_symbol (model_at st.bank ctx) k) (new_model 2) ne)
          (h.widths c inside))
          (cases_eq c ctx);
      bits = subst (λ (l : List Bool). BitStandsFor l st.zero_or_one) (sym (bits-symbol (bit_name kind) (width_name kind ctx) (st.bits + 1) k earlier)) h.bits;
      highs = λ j inside.
          let apart : st.contexts + j ≡ ctx → ⊥ = λ same. omega (arith, same, within) in
          stands-along _ _ (model_at st.bank (st.contexts + j)) _
          (symbols-without (high_name kind (j + 1)) (width_name kind ctx) (st.bits + 1) k earlier refl)
          (get_or-set_other st.bank ctx (st.contexts + j) (after_symbol (model_at st.bank ctx) k) (new_model 2) apart)
          (h.highs j inside);
    }

-- ---- high digits are counted
pub stands-high : (kind : List ℕ) (earlier : List Event) (st : IntState) (k n s : ℕ) → IsIntState st → 0 < k → k ≤ st.bits → s < 2 ^ min k 8 → IntStands kind earlier st
    → IntStands kind (earlier ++ Symbol (high_name kind k) n s ∷ []) (symbol_next st (st.contexts + (k - 1)) s)
stands-high kind earlier st k n s is some small digit h =
    let size = high-size st k is some small in
    let here = high-in st k is some small in
    let least : 1 ≤ min k 8 = omega arith in
    let two : 2 ^ 1 ≤ 2 ^ min k 8 = pow-le-pow_right (lit≤ tt) least in
    let back : k - 1 + 1 ≡ k = omega arith in
    record {
      widths = λ c inside.
          let apart : c ≡ st.contexts + (k - 1) → ⊥ = λ same. omega (arith, same, inside) in
          stands-along _ _ (model_at st.bank c) _
          (symbols-without (width_name kind c) (high_name kind k) n s earlier refl)
          (get_or-set_other st.bank (st.contexts + (k - 1)) c (after_symbol (high_at st k) s) (new_model 2) apart)
          (h.widths c inside);
      bits = subst (λ (l : List Bool). BitStandsFor l st.zero_or_one) (sym (bits-symbol (bit_name kind) (high_name kind k) n s earlier)) h.bits;
      highs = λ j inside.
          ⊎_elim
          (λ (same : j ≡ k - 1).
          let name : j + 1 ≡ k = omega (arith, same) in
          let stood = subst (λ (i : ℕ). StandsFor (symbols_under (high_name kind i) earlier) (high_at st k)) back (h.highs (k - 1) (omega arith)) in
          rw (name, same)
          (stands-more _ _ (high_at st k) _ s (omega (arith, size, two)) (omega (arith, size, digit))
          (symbols-with (high_name kind k) (high_name kind k) n s earlier (same-high kind k))
          (get_or-set_same st.bank (st.contexts + (k - 1)) (after_symbol (high_at st k) s) (new_model 2) here)
          stood))
          (λ (ne : j ≡ k - 1 → ⊥).
          let apart : st.contexts + j ≡ st.contexts + (k - 1) → ⊥ = λ same. ne (omega (arith, same)) in
          let differs : j + 1 ≡ k → ⊥ = λ same. ne (omega (arith, same)) in
          stands-along _ _ (model_at st.bank (st.contexts + j)) _
          (symbols-without (high_name kind (j + 1)) (high_name kind k) n s earlier (other-high kind (j + 1) k differs))
          (get_or-set_other st.bank (st.contexts + (k - 1)) (st.contexts + j) (after_symbol (high_at st k) s) (new_model 2) apart)
          (h.highs j inside))
          (cases_eq j (k - 1));
    }

-- ---- a bit is counted
pub stands-bit : (kind : List ℕ) (earlier : List Event) (st : IntState) (bit : Bool) → IntStands kind earlier st → IntStands kind (earlier ++ Flag (bit_name kind) bit ∷ []) (flag_next st bit)
stands-bit kind earlier st bit h =
    record {
      widths = λ c inside. subst (λ (l : List ℕ). StandsFor l (model_at st.bank c)) (sym (symbols-flag (width_name kind c) (bit_name kind) bit earlier)) (h.widths c inside);
      bits = subst (λ (l : List Bool). BitStandsFor l (after_bit st.zero_or_one bit)) (sym (bits-with (bit_name kind) (bit_name kind) bit earlier (same-bit kind))) (BitStandsFor-push (bits_under (bit_name kind) earlier) bit st.zero_or_one h.bits);
      highs = λ j inside. subst (λ (l : List ℕ). StandsFor l (model_at st.bank (st.contexts + j))) (sym (symbols-flag (high_name kind (j + 1)) (bit_name kind) bit earlier)) (h.highs j inside);
    }

-- ---- what events come to, under models that stand for the earlier ones
pub record Comes (kind : List ℕ) (earlier events : List Event) (st next : IntState) (parts : List Cut) : Type 0 where
  pub cuts : cuts_after earlier events ≡ parts
  pub stands : IntStands kind (earlier ++ events) next

one_cut : (c d : Cut) → c ≡ d → c ∷ [] ≡ d ∷ []
one_cut c d e = cc

cons_cut : (c d : Cut) (cs ds : List Cut) → c ≡ d → cs ≡ ds → c ∷ cs ≡ d ∷ ds
cons_cut c d cs ds e f = cc

same_head : (c d : Cut) → c ∷ [] ≡ d ∷ [] → c ≡ d
same_head c d e = cc

-- one symbol, by its role
comes-symbol : (kind : List ℕ) (earlier : List Event) (st : IntState) (bits contexts : ℕ) (role : Role) (which n s : ℕ) → IsInts bits contexts st → IsIntSymbol bits contexts role which n s → IntStands kind earlier st
    → Comes kind earlier (Symbol (name_of kind role which) n s ∷ []) st (event_next st (Symbol (name_of kind role which) n s)) (event_cut st (Symbol (name_of kind role which) n s) ∷ [])
comes-symbol kind earlier st bits contexts Own which n s is asked h = absurd asked
comes-symbol kind earlier st bits contexts ZeroOrOne which n s is asked h = absurd asked
comes-symbol kind earlier st bits contexts Width which n s is asked h =
    let within : which < st.contexts = omega (arith, asked.0, is.contexts) in
    let range : s ≤ st.bits = omega (arith, asked.1, asked.2, is.bits) in
    let size : st.bits + 1 ≡ n = omega (arith, asked.1, is.bits) in
    let stands = stands-width kind earlier st which s is.state within range h in
    record {
      cuts = one_cut _ _ (symbol-cut earlier (width_name kind which) (model_at st.bank which) n s (width-size st which is.state within ∙ size) (h.widths which within));
      stands = subst (λ (m : ℕ). IntStands kind (earlier ++ Symbol (width_name kind which) m s ∷ []) (symbol_next st which s)) size stands;
    }
comes-symbol kind earlier st bits contexts High which n s is asked h =
    let small : which ≤ st.bits = omega (arith, asked.1, is.bits) in
    let digit : s < 2 ^ min which 8 = omega (arith, asked.2, asked.3) in
    let back : which - 1 + 1 ≡ which = omega (arith, asked.0) in
    let stood = subst (λ (i : ℕ). StandsFor (symbols_under (high_name kind i) earlier) (high_at st which)) back (h.highs (which - 1) (omega (arith, asked.0, small))) in
    record {
      cuts = one_cut _ _ (symbol-cut earlier (high_name kind which) (high_at st which) n s (high-size st which is.state asked.0 small ∙ sym asked.2) stood);
      stands = stands-high kind earlier st which n s is.state asked.0 small digit h;
    }

-- one event
comes-event : (kind : List ℕ) (earlier : List Event) (st : IntState) (bits contexts : ℕ) (e : Event) → IsInts bits contexts st → IsIntEvent kind bits contexts e → IntStands kind earlier st
    → Comes kind earlier (e ∷ []) st (event_next st e) (event_cut st e ∷ [])
comes-event kind earlier st bits contexts (Symbol name n s) is asked h =
    subst (λ (l : List ℕ). Comes kind earlier (Symbol (name_of l name.role name.which) n s ∷ []) st (event_next st (Symbol name n s)) (event_cut st (Symbol name n s) ∷ [])) (sym asked.0)
    (comes-symbol kind earlier st bits contexts name.role name.which n s is asked.1 h)
comes-event kind earlier st bits contexts (Flag name bit) is asked h =
    subst (λ (l : Name). Comes kind earlier (Flag l bit ∷ []) st (flag_next st bit) (Bit st.zero_or_one.p0 bit ∷ [])) (sym asked)
    (record {
      cuts = one_cut _ _ (bit-cut earlier (bit_name kind) st.zero_or_one bit h.bits);
      stands = stands-bit kind earlier st bit h;
    })
comes-event kind earlier st bits contexts (Bits b v) is asked h = record { cuts = refl; stands = int-silent kind st earlier (Bits b v ∷ []) (Silent-raw kind b v) h }

-- all events
pub comes-events : (kind : List ℕ) (earlier : List Event) (st : IntState) (bits contexts : ℕ) (events : List Event) → IsInts bits contexts st → AreIntEvents kind bits contexts events → IntStands kind earlier st
    → Comes kind earlier events st (events_next st events) (events_cuts st events)
comes-events kind earlier st bits contexts [] is asked h = record { cuts = refl; stands = subst (λ (l : List Event). IntStands kind l st) (sym (append-nil earlier)) h }
comes-events kind earlier st bits contexts (e ∷ events) is asked h =
    let first = comes-event kind earlier st bits contexts e is asked.0 h in
    let rest = comes-events kind (earlier ++ e ∷ []) (event_next st e) bits contexts events (IsInts-event kind st bits contexts e is asked.0) asked.1 first.stands in
    record {
      cuts = cons_cut _ _ _ _ (same_head (cut_after earlier e) (event_cut st e) first.cuts) rest.cuts;
      stands = subst (λ (l : List Event). IntStands kind l (events_next (event_next st e) events)) (append_assoc earlier (e ∷ []) events) rest.stands;
    }

-- ---- the events of a corrector
pub comes : (kind : List ℕ) (earlier : List Event) (st : IntState) (ctx k v : ℕ) → IsIntState st → ctx < st.contexts → k ≤ st.bits → v < choices k → IntStands kind earlier st
    → Comes kind earlier (corrector_events kind st.bits ctx k v) st (int_next st ctx k v) (int_cuts st ctx k v)
comes kind earlier st ctx k v is within range value h =
    let all = comes-events kind earlier st st.bits st.contexts (corrector_events kind st.bits ctx k v) (record { state = is; bits = refl; contexts = refl }) (corrector-events kind st.bits st.contexts ctx k v is.few within range value) h in
    record {
      cuts = all.cuts ∙ ap (λ l. symbol_cut (model_at st.bank ctx) k ∷ l) (cuts-use kind (symbol_next st ctx k) k v);
      stands = subst (λ (s : IntState). IntStands kind (earlier ++ corrector_events kind st.bits ctx k v) s) (next-use kind (symbol_next st ctx k) k v) all.stands;
    }

-- ---- new models stand for no event
pub stands-none : (kind : List ℕ) (st : IntState) → IsIntState st → st.zero_or_one ≡ new_bit_model → st.bank ≡ map new_model (int_sizes st.bits st.contexts) → IntStands kind [] st
stands-none kind st is bit bank =
    let fresh_at : (i : ℕ) → i < st.contexts + st.bits → StandsFor [] (model_at st.bank i) =
    λ i within.
    let inside : i < length (int_sizes st.bits st.contexts) = omega (arith, length-sizes st.bits st.contexts, within) in
    let at : model_at st.bank i ≡ new_model (get_or (int_sizes st.bits st.contexts) i 0) = ap (λ b. model_at b i) bank ∙ get_or-map new_model (int_sizes st.bits st.contexts) i 0 (new_model 2) inside in
    subst (λ (m : Counting). StandsFor [] m) (sym at) (StandsFor-new_model (get_or (int_sizes st.bits st.contexts) i 0) (sizes-two st.bits st.contexts i is.some is.few inside)) in
    record {
      widths = λ c inside. fresh_at c (omega arith);
      bits = subst (λ (m : BitCounting). BitStandsFor [] m) (sym bit) BitStandsFor-new_bit_model;
      highs = λ j inside. fresh_at (st.contexts + j) (omega arith);
    }
