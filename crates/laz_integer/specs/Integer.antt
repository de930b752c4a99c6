-- The events that spell an integer, and the state of the models that code them.
use Rattle.std.specs.Prelude.{◌≡◌, ℕ, ℤ, ◌+◌, ◌-◌, ◌/◌, ◌%◌, ◌^◌, ◌<◌, ◌≤◌, ◌==◌, min, Bool, List, [], ◌∷◌, ◌++◌, map}
use Rattle.std.specs.Prelude.{count_by, replicate, nat_le, if◌then◌else◌, slice_set}
use Rattle.std.specs.List.{range_with_len}
use Rattle.laz_range.specs.Cut.{Cut, Bit, Raw, symbol}
use Rattle.laz_range.specs.Span.{Begins, span}
use Rattle.laz_range.specs.Decoding.{Decoding, HasRead, ReadsOn, Takes}
use Rattle.laz_models.specs.Counting.{Counting, after_symbol}
use Rattle.laz_models.specs.BitCounting.{BitCounting, IsBitCounting, after_bit}
use Rattle.laz_models.specs.Dist.{StandsFor}
use Rattle.laz_models.specs.Near.{IsNear}
use Rattle.laz_models.specs.declared.near.Near.{Near}
use Rattle.laz_models.specs.BitDist.{BitStandsFor}
use Rattle.laz_models.specs.Bank.{model_at, alphabet_sizes}
use Rattle.laz_integer.specs.declared.limits.TheConstants.{HIGH_BITS, MAX_BITS, MAX_CONTEXTS}
use Rattle.laz_integer.specs.Events.{Event, Symbol, Flag, Bits, Name, same_role, Width, ZeroOrOne, High, cuts_after}
use Rattle.laz_integer.specs.Events.{raw_events, symbols_under, bits_under}
use Rattle.laz_models.specs.Sound.{AreSound}
use Rattle.laz_integer.specs.Corrector.{choices, corrected, difference, width_of, corrector_index}

-- ---- events

-- The names of an integer's models: of the width, one for each context; of a corrector of 0 or 1; of the high digits,
-- one for each width from 1 on.
abbrev pub width_name : (kind : List ℕ) → (context : ℕ) → Name
width_name kind ctx = record { kind = kind; role = Width; which = ctx }

abbrev pub bit_name : (kind : List ℕ) → Name
bit_name kind = record { kind = kind; role = ZeroOrOne; which = 0 }

abbrev pub high_name : (kind : List ℕ) → (width : ℕ) → Name
high_name kind k = record { kind = kind; role = High; which = k }

-- The events of a corrector's index v after its width k: a bit if k is 0; none if k is 32; a symbol up to 8 bits; else
-- a symbol of the high 8 bits, and the rest raw.
unfoldable pub rest_events : (kind : List ℕ) → (width index : ℕ) → List Event
rest_events kind k v =
    if k == 0 then Flag (bit_name kind) (v == 1) ∷ []
    else if k == MAX_BITS then []
    else if nat_le k HIGH_BITS then Symbol (high_name kind k) (2 ^ k) v ∷ []
    else Symbol (high_name kind k) (2 ^ HIGH_BITS) (v / 2 ^ (k - HIGH_BITS))
    ∷ raw_events (k - HIGH_BITS) (v % 2 ^ (k - HIGH_BITS))

-- The events of a corrector: its width k, under the context, and then its index v in that width.
abbrev pub corrector_events : (kind : List ℕ) → (bits context width index : ℕ) → List Event
corrector_events kind bits ctx k v = Symbol (width_name kind ctx) (bits + 1) k ∷ rest_events kind k v

-- Events that spell `value` with its prediction: those of some corrector of width k that makes the value. A reader
-- accepts each of them.
pub record IntSpell (kind : List ℕ) (bits ctx : ℕ) (pred : ℤ) (events : List Event) (value : ℤ) (k : ℕ) : Type 0 where
  pub v : ℕ
  pub width : k ≤ bits
  pub within : v < choices k
  pub is : events ≡ corrector_events kind bits ctx k v
  pub makes : value ≡ corrected bits pred k v

-- The width of the corrector that a writer chooses.
abbrev pub int_width : (bits : ℕ) → (pred real : ℤ) → ℕ
int_width bits pred real = width_of bits (difference bits pred real)

-- The events that a writer makes of an integer: those of the folded difference.
abbrev pub IntEvents : (kind : List ℕ) → (bits context : ℕ) → (pred real : ℤ) → List Event
IntEvents kind bits ctx pred real =
    let k = int_width bits pred real
    in corrector_events kind bits ctx k (corrector_index bits (difference bits pred real) k)

-- ---- the state of the models

-- The state of the models of an integer. The bank has the models of the width, and then those of the high digits.
pub record IntState : Type 0 where
  pub bits : ℕ
  pub contexts : ℕ
  pub zero_or_one : BitCounting
  pub bank : List Counting

-- The number of symbols of each model of the bank.
unfoldable pub int_sizes : (bits contexts : ℕ) → List ℕ
int_sizes bits contexts = replicate contexts (bits + 1) ++ map (λ k. 2 ^ min k HIGH_BITS) (range_with_len 1 bits)

-- What holds of the state between any two calls.
pub record IsIntState (st : IntState) : Type 0 where
  pub some : 1 ≤ st.bits
  pub few : st.bits ≤ MAX_BITS
  pub contexts : st.contexts ≤ MAX_CONTEXTS
  pub sizes : alphabet_sizes st.bank ≡ int_sizes st.bits st.contexts
  pub sound : AreSound st.bank
  pub bit : IsBitCounting st.zero_or_one

-- Two states of the same models.
pub record SameShape (old new : IntState) : Type 0 where
  pub bits : new.bits ≡ old.bits
  pub contexts : new.contexts ≡ old.contexts
  pub sizes : alphabet_sizes new.bank ≡ alphabet_sizes old.bank

-- The models stand for a list of events: each for the symbols, or bits, under its name.
pub record IntStands (kind : List ℕ) (events : List Event) (st : IntState) : Type 0 where
  pub widths : (ctx : ℕ) → ctx < st.contexts
      → StandsFor (symbols_under (width_name kind ctx) events) (model_at st.bank ctx)
  pub bits : BitStandsFor (bits_under (bit_name kind) events) st.zero_or_one
  pub highs : (j : ℕ) → j < st.bits
      → StandsFor (symbols_under (high_name kind (j + 1)) events) (model_at st.bank (st.contexts + j))

-- The models code integers of n bits with m contexts.
pub record IsInts (n m : ℕ) (st : IntState) : Type 0 where
  pub state : IsIntState st
  pub bits : st.bits ≡ n
  pub contexts : st.contexts ≡ m

-- The part of symbol s under a model.
abbrev pub symbol_cut : Counting → ℕ → Cut
symbol_cut m s = symbol m.starts s

-- The symbol whose part contains a place, by the starts of the parts: the last one that starts there or before.
abbrev pub symbol_at : List ℕ → ℕ → ℕ
symbol_at starts place = count_by (λ start. nat_le start place) starts - 1

-- A search that begins near a place, from which on the place lies in one of the next two parts.
pub record HasPlace (starts : List ℕ) (place : ℕ) (near : Near) : Type 0 where
  pub from : ℕ
  pub is : IsNear starts from near
  pub low : from ≤ place
  pub high : place < near.after

-- The model of the high digits of width k.
abbrev pub high_at : IntState → ℕ → Counting
high_at st k = model_at st.bank (st.contexts + (k - 1))

-- The index in the bank of the model with a name.
abbrev pub model_index : IntState → Name → ℕ
model_index st name = if same_role name.role Width then name.which else st.contexts + (name.which - 1)

-- The state after model i of the bank has counted symbol s.
abbrev pub symbol_next : IntState → ℕ → ℕ → IntState
symbol_next st i s = record st { bank = slice_set st.bank i (after_symbol (model_at st.bank i) s) }

-- The state after a corrector of 0 or 1.
abbrev pub flag_next : IntState → Bool → IntState
flag_next st bit = record st { zero_or_one = after_bit st.zero_or_one bit }

-- The part of an integer's event under the models.
abbrev pub event_cut : IntState → Event → Cut
event_cut st (Symbol name n s) = symbol_cut (model_at st.bank (model_index st name)) s
event_cut st (Flag name bit) = Bit st.zero_or_one.p0 bit
event_cut st (Bits b v) = Raw b v

-- The state after the event.
abbrev pub event_next : IntState → Event → IntState
event_next st (Symbol name n s) = symbol_next st (model_index st name) s
event_next st (Flag name bit) = flag_next st bit
event_next st (Bits b v) = st

-- The parts of an integer's events, each under the models as the events before it leave them.
abbrev pub events_cuts : IntState → List Event → List Cut
events_cuts st [] = []
events_cuts st (e ∷ events) = event_cut st e ∷ events_cuts (event_next st e) events

-- The state after the events.
abbrev pub events_next : IntState → List Event → IntState
events_next st [] = st
events_next st (e ∷ events) = events_next (event_next st e) events

-- The parts of the events after a corrector's width. They are the same for each use, since a state knows no names.
abbrev pub digit_cuts : (st : IntState) → (width index : ℕ) → List Cut
digit_cuts st k v = events_cuts st (rest_events [] k v)

-- The state after them.
abbrev pub digit_next : (st : IntState) → (width index : ℕ) → IntState
digit_next st k v = events_next st (rest_events [] k v)

-- The parts of a corrector's events, which are the same for each use.
abbrev pub int_cuts : (st : IntState) → (context width index : ℕ) → List Cut
int_cuts st ctx k v = events_cuts st (corrector_events [] st.bits ctx k v)

-- The state after them.
abbrev pub int_next : (st : IntState) → (context width index : ℕ) → IntState
int_next st ctx k v = events_next st (corrector_events [] st.bits ctx k v)

-- A corrector of an integer of `bits` bits, as width and index.
abbrev pub IsCorrector : ℕ → ℕ × ℕ → Type 0
IsCorrector bits x = (x.0 ≤ bits) × (x.1 < choices x.0)

-- ---- the answers of a reader

-- The decoder has read the corrector of width k and some index, which makes the value, and the models have counted it.
pub record ReadsCorrector (bits : ℕ) (st : IntState) (ctx : ℕ) (pred value : ℤ) (k : ℕ) (old new : Decoding)
    (next : IntState) : Type 0 where
  pub v : ℕ
  pub takes : Takes {X = ℕ × ℕ} (IsCorrector bits) (λ y. int_cuts st ctx y.0 y.1) old new (k, v)
  pub makes : value ≡ corrected bits pred k v
  pub counts : next ≡ int_next st ctx k v

-- The decoder has read the one spelling with this prediction that begins the bytes that are left: no other events do,
-- and so no other value or width.
pub record ReadsInt (kind : List ℕ) (earlier : List Event) (bits ctx : ℕ) (pred value : ℤ) (k : ℕ)
    (old new : Decoding) (st : IntState) : Type 0 where
  pub events : List Event
  pub spells : IntSpell kind bits ctx pred events value k
  pub reads : ReadsOn (cuts_after earlier events) old new
  pub stands : IntStands kind (earlier ++ events) st
  pub only : (read : List Cut) → HasRead read old → (others : List Event) (other : ℤ) (j : ℕ)
      → IntSpell kind bits ctx pred others other j → Begins (span (read ++ cuts_after earlier others)) old.bytes
      → (others ≡ events) × (other ≡ value) × (j ≡ k)

-- No spelling with this prediction begins the bytes that are left.
abbrev pub NoInt : (kind : List ℕ) → (earlier : List Event) → (bits context : ℕ) → (pred : ℤ) → Decoding → Type 0
NoInt kind earlier bits ctx pred old =
    (read : List Cut) → HasRead read old → (events : List Event) (value : ℤ) (k : ℕ)
    → IntSpell kind bits ctx pred events value k → Begins (span (read ++ cuts_after earlier events)) old.bytes → ⊥
