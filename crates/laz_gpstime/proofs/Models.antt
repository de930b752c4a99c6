-- The models of times, and events under them: a symbol, a word and a raw value.
use Rattle.std.proofs.Common.{◌≡◌, ℕ, ℤ, ◌+◌, ◌<◌, ◌≤◌, eqb, ltb, cond, Bool, true, false, List, [], ◌∷◌, ◌++◌, length, get_or, refl, sym, ap, subst, ◌∙◌, arith, ⊎_elim, lit<, lit≤}
use Rattle.std.proofs.lemmas.Bool.{cases_eq, eq-eqb, ne_eqb}
use Rattle.std.proofs.lemmas.List.{append-nil, get_or-map, length-map}
use Rattle.std.specs.Int.{w32, cast_signed, cast_unsigned}
use Rattle.std.proofs.lemmas.Int.{of_z-to_z}
use Rattle.laz_range.specs.Cut.{raw_cuts}
use Rattle.laz_models.specs.Counting.{Counting, new_model}
use Rattle.laz_models.specs.Dist.{StandsFor, alphabet_size}
use Rattle.laz_models.specs.BitDist.{BitStandsFor}
use Rattle.laz_models.specs.Bank.{alphabet_sizes, model_at}
use Rattle.laz_integer.specs.Events.{Event, raw_events, symbols_under}
use Rattle.laz_integer.specs.Fields.{BankStands}
use Rattle.laz_integer.specs.Integer.{IntEvents, IntSpell, IntState, IntStands, IsCorrector, bit_name, corrector_events, high_name, int_cuts, int_next, width_name}
use Rattle.laz_integer.specs.Uses.{AllSilent, own_name}
use Rattle.laz_integer.proofs.Public.{bits-symbol, cuts-raw, symbols-without, symbols_under-append, Piece, Piece-int, Piece-symbol, Silent-raws, bank-silent, int-silent}
use Rattle.laz_gpstime.specs.Choices.{symbol_next, time_symbol_cuts}
use Rattle.laz_gpstime.specs.Meanings.{time_kind}
use Rattle.laz_gpstime.specs.Slots.{IsTimeState, ModelsStand, TimeState, difference_of, symbols_after}
use Rattle.laz_gpstime.specs.Times.{context, model_of, symbols_of, time_symbol}
use Rattle.laz_gpstime.proofs.Meanings.{AreQuiet, quiet-corrector}

-- ---- the model of a sequence
pub model-two : (d : ℕ) → model_of d < 2
model-two d =
    ⊎_elim
    (λ (zero_is : d ≡ 0). rw (eq-eqb d 0 zero_is) (lit< tt))
    (λ (some : d ≡ 0 → ⊥). rw (ne_eqb d 0 some) (lit< tt))
    (cases_eq d 0)

many-symbols : (d : ℕ) → 2 ≤ symbols_of d
many-symbols d =
    ⊎_elim
    (λ (zero_is : d ≡ 0). rw (eq-eqb d 0 zero_is) (lit≤ tt))
    (λ (some : d ≡ 0 → ⊥). rw (ne_eqb d 0 some) (lit≤ tt))
    (cases_eq d 0)

pub models-count : (st : TimeState) → IsTimeState st → length st.symbols ≡ 2
models-count st h = sym (length-map st.symbols alphabet_size) ∙ ap length h.sizes

pub model-size : (st : TimeState) (d : ℕ) → IsTimeState st → alphabet_size (model_at st.symbols (model_of d)) ≡ symbols_of d
model-size st d h =
    let at : (m : ℕ) → m < 2 → alphabet_size (model_at st.symbols m) ≡ get_or (6 ∷ 516 ∷ []) m 0 =
    λ m within. sym (get_or-map alphabet_size st.symbols m (new_model 2) 0 (omega (arith, within, models-count st h))) ∙ ap (λ l. get_or l m 0) h.sizes in
    ⊎_elim
    (λ (zero_is : d ≡ 0). rw (eq-eqb d 0 zero_is) (at 0 (lit< tt)))
    (λ (some : d ≡ 0 → ⊥). rw (ne_eqb d 0 some) (at 1 (lit< tt)))
    (cases_eq d 0)

pub symbol-state : (st : TimeState) (new : List Counting) → IsTimeState st → alphabet_sizes new ≡ alphabet_sizes st.symbols → IsTimeState (record { sequences = st.sequences; symbols = new; integers = st.integers })
symbol-state st new h sizes = record { last = h.last; next = h.next; count = h.count; extremes = h.extremes; sizes = sizes ∙ h.sizes; integers = h.integers }

contexts : (a b c d e f g : Bool) → cond a 0 (cond b 7 (cond c 1 (cond d 2 (cond e 3 (cond f 4 (cond g 5 6)))))) < 9
contexts true b c d e f g = lit< tt
contexts false true c d e f g = lit< tt
contexts false false true d e f g = lit< tt
contexts false false false true e f g = lit< tt
contexts false false false false true f g = lit< tt
contexts false false false false false true g = lit< tt
contexts false false false false false false true = lit< tt
contexts false false false false false false false = lit< tt

pub context-few : (d s : ℕ) → context d s < 9
context-few d s = contexts (eqb d 0) (eqb s 0) (eqb s 1) (ltb s 10) (ltb s 500) (eqb s 500) (ltb s 510)

-- ---- events of other uses
pub frame-models : (st : TimeState) (earlier others : List Event) → AllSilent (time_kind ∷ []) others → ModelsStand earlier st → ModelsStand (earlier ++ others) st
frame-models st earlier others silent h = record { symbols = bank-silent time_kind st.symbols earlier others silent.0 h.symbols; integers = int-silent time_kind st.integers earlier others silent.0 h.integers }

-- ---- a symbol, which the models of integers do not count
int-own : (earlier : List Event) (d s : ℕ) (it : IntState) → IntStands time_kind earlier it → IntStands time_kind (earlier ++ time_symbol d s ∷ []) it
int-own earlier d s it h =
    let name = own_name time_kind (model_of d) in
    record {
      widths = λ ctx within. subst (λ (l : List ℕ). StandsFor l (model_at it.bank ctx)) (sym (symbols-without (width_name time_kind ctx) name (symbols_of d) s earlier refl)) (h.widths ctx within);
      bits = subst (λ (l : List Bool). BitStandsFor l it.zero_or_one) (sym (bits-symbol (bit_name time_kind) name (symbols_of d) s earlier)) h.bits;
      highs = λ j within. subst (λ (l : List ℕ). StandsFor l (model_at it.bank (it.contexts + j))) (sym (symbols-without (high_name time_kind (j + 1)) name (symbols_of d) s earlier refl)) (h.highs j within);
    }

pub symbol-piece : (st : TimeState) (s : ℕ) → IsTimeState st → s < symbols_of (difference_of st)
    → Piece (time_kind ∷ []) (time_symbol (difference_of st) s ∷ []) (time_symbol_cuts st s) (λ l. ModelsStand l st) (λ l. ModelsStand l (symbol_next st s))
symbol-piece st s is small =
    let d = difference_of st in
    let base = Piece-symbol time_kind st.symbols (model_of d) (symbols_of d) s (omega (arith, models-count st is, model-two d)) (model-size st d is) (many-symbols d) small in
    record {
      own = base.own;
      cut = λ earlier h. base.cut earlier h.symbols;
      stands = λ earlier h. record { symbols = base.stands earlier h.symbols; integers = int-own earlier d s st.integers h.integers };
      before = frame-models st;
      after = frame-models (symbol_next st s);
    }

pub symbol-stands : (earlier : List Event) (st : TimeState) (s : ℕ) (new : List Counting) → IsTimeState st → s < symbols_of (difference_of st) → new ≡ symbols_after st s → ModelsStand earlier st
    → ModelsStand (earlier ++ time_symbol (difference_of st) s ∷ []) (record { sequences = st.sequences; symbols = new; integers = st.integers })
symbol-stands earlier st s new is small e h =
    subst (λ (b : List Counting). ModelsStand (earlier ++ time_symbol (difference_of st) s ∷ []) (record { sequences = st.sequences; symbols = b; integers = st.integers })) (sym e) ((symbol-piece st s is small).stands earlier h)

-- ---- a word, which the models of symbols do not count
bank-quiet : (earlier events : List Event) (bank : List Counting) → AreQuiet events → BankStands time_kind earlier bank → BankStands time_kind (earlier ++ events) bank
bank-quiet earlier events bank quiet h m within =
    let same : symbols_under (own_name time_kind m) (earlier ++ events) ≡ symbols_under (own_name time_kind m) earlier =
    symbols_under-append (own_name time_kind m) earlier events ∙ (ap (λ l. symbols_under (own_name time_kind m) earlier ++ l) (quiet.symbols m) ∙ append-nil (symbols_under (own_name time_kind m) earlier)) in
    subst (λ (l : List ℕ). StandsFor l (model_at bank m)) (sym same) (h m within)

pub models-quiet : (earlier events : List Event) (st new : TimeState) → AreQuiet events → new.symbols ≡ st.symbols → ModelsStand earlier st → IntStands time_kind (earlier ++ events) new.integers → ModelsStand (earlier ++ events) new
models-quiet earlier events st new quiet same h int =
    record { symbols = subst (λ (b : List Counting). BankStands time_kind (earlier ++ events) b) (sym same) (bank-quiet earlier events st.symbols quiet h.symbols); integers = int }

abbrev pub after_word : TimeState → ℕ → ℕ → ℕ → TimeState
after_word st ctx k v = record { sequences = st.sequences; symbols = st.symbols; integers = int_next st.integers ctx k v }

pub word-piece : (st : TimeState) (ctx k v : ℕ) → IsTimeState st → ctx < 9 → IsCorrector 32 (k, v)
    → Piece (time_kind ∷ []) (corrector_events time_kind 32 ctx k v) (int_cuts st.integers ctx k v) (λ l. ModelsStand l st) (λ l. ModelsStand l (after_word st ctx k v))
word-piece st ctx k v is few asked =
    let base = Piece-int time_kind st.integers 32 ctx k v is.integers.state is.integers.bits (omega (arith, few, is.integers.contexts)) asked in
    record {
      own = base.own;
      cut = λ earlier h. base.cut earlier h.integers;
      stands = λ earlier h. models-quiet earlier (corrector_events time_kind 32 ctx k v) st (after_word st ctx k v) (quiet-corrector 32 ctx k v asked.0) refl h (base.stands earlier h.integers);
      before = frame-models st;
      after = frame-models (after_word st ctx k v);
    }

pub raw-piece : (st : TimeState) (b v : ℕ) → Piece (time_kind ∷ []) (raw_events b v) (raw_cuts b v) (λ l. ModelsStand l st) (λ l. ModelsStand l st)
raw-piece st b v =
    record {
      own = λ kind e. Silent-raws kind b v;
      cut = λ earlier h. cuts-raw earlier b v;
      stands = λ earlier h. frame-models st earlier (raw_events b v) (Silent-raws time_kind b v, tt) h;
      before = frame-models st;
      after = frame-models st;
    }

pub word-stands : (earlier : List Event) (st new : TimeState) (ctx : ℕ) (pred real : ℤ) → ModelsStand earlier st → new.symbols ≡ st.symbols
    → {k : ℕ} → IntSpell time_kind 32 ctx pred (IntEvents time_kind 32 ctx pred real) real k → IntStands time_kind (earlier ++ IntEvents time_kind 32 ctx pred real) new.integers
    → ModelsStand (earlier ++ IntEvents time_kind 32 ctx pred real) new
word-stands earlier st new ctx pred real h same {k} spells int =
    let events = IntEvents time_kind 32 ctx pred real in
    let quiet : AreQuiet events = subst AreQuiet (sym spells.is) (quiet-corrector 32 ctx k spells.v spells.width) in
    models-quiet earlier events st new quiet same h int

-- a signed word that was passed on
pub passed : (P : ℕ → ℤ → ℤ → Type 0) (bits : ℕ) (x y : ℤ) (pred real : ℕ) → bits ≡ 32 → pred < 4294967296 → real < 4294967296 → x ≡ cast_signed w32 pred → y ≡ cast_signed w32 real
    → P bits (cast_signed w32 (cast_unsigned w32 x)) (cast_signed w32 (cast_unsigned w32 y)) → P 32 (cast_signed w32 pred) (cast_signed w32 real)
passed P bits x y pred real b f g p r h =
    let first : cast_signed w32 (cast_unsigned w32 x) ≡ cast_signed w32 pred = ap (λ z. cast_signed w32 (cast_unsigned w32 z)) p ∙ ap (cast_signed w32) (of_z-to_z w32 pred f) in
    let second : cast_signed w32 (cast_unsigned w32 y) ≡ cast_signed w32 real = ap (λ z. cast_signed w32 (cast_unsigned w32 z)) r ∙ ap (cast_signed w32) (of_z-to_z w32 real g) in
    subst (λ z. P 32 (cast_signed w32 pred) z) second (subst (λ z. P 32 z (cast_signed w32 (cast_unsigned w32 y))) first (subst (λ n. P n (cast_signed w32 (cast_unsigned w32 x)) (cast_signed w32 (cast_unsigned w32 y))) b h))
