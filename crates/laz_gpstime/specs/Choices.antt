-- What is read of a time: the symbols, and then a corrector and a low word. Choices of them, their parts, and the state
-- after them.
use Rattle.std.specs.Prelude.{◌≡◌, ℕ, ◌+◌, ◌*◌, ◌/◌, ◌<◌, ◌≤◌, ◌==◌, if◌then◌else◌, List, [], ◌∷◌, ◌++◌, MatchBool}
use Rattle.std.specs.Prelude.{MatchResult, Result}
use Rattle.std.specs.Int.{w32, cast_signed, cast_unsigned}
use Rattle.laz_range.specs.Cut.{Cut, raw_cuts}
use Rattle.laz_range.specs.Decoding.{Decoding, Refuses, Takes, TakesNone}
use Rattle.laz_models.specs.Bank.{model_at}
use Rattle.laz_integer.specs.Corrector.{corrected}
use Rattle.laz_integer.specs.Integer.{IntState, IsCorrector, int_cuts, int_next, symbol_cut}
use Rattle.laz_gpstime.specs.Meanings.{meaning}
use Rattle.laz_gpstime.specs.Spelling.{time_plus}
use Rattle.laz_gpstime.specs.Slots.{TimeState, after_point, after_switch, difference_of, slot_of, symbols_after}
use Rattle.laz_gpstime.specs.Times.{context, model_of, new_symbol, predicted, same_symbol}

-- ---- what comes first: a switch by i, and then a symbol s that is none

abbrev pub Front : Type 0
Front = ℕ × ℕ

-- The switch of a front, and its symbol.
abbrev pub switch_of : Front → ℕ
switch_of x = x.0

abbrev pub symbol_of : Front → ℕ
symbol_of x = x.1

abbrev pub time_symbol_cuts : TimeState → ℕ → List Cut
time_symbol_cuts st s = symbol_cut (model_at st.symbols (model_of (difference_of st))) s ∷ []

abbrev pub symbol_next : TimeState → ℕ → TimeState
symbol_next st s = record { sequences = st.sequences; symbols = symbols_after st s; integers = st.integers }

abbrev pub switch_next : TimeState → ℕ → TimeState
switch_next st i = record {
  sequences = after_switch st.sequences i;
  symbols = symbols_after st (new_symbol (difference_of st) + i);
  integers = st.integers;
}

-- The state after a switch by i. A switch by 0 is none.
abbrev pub state_on : TimeState → ℕ → TimeState
state_on st i = if i == 0 then st else switch_next st i

abbrev pub switch_cuts : TimeState → ℕ → List Cut
switch_cuts st i = if i == 0 then [] else time_symbol_cuts st (new_symbol (difference_of st) + i)

abbrev pub IsFront : TimeState → Front → Type 0
IsFront st x = (switch_of x < 4) × (symbol_of x ≤ new_symbol (difference_of (state_on st (switch_of x))))

abbrev pub front_cuts : TimeState → Front → List Cut
front_cuts st x = switch_cuts st (switch_of x) ++ time_symbol_cuts (state_on st (switch_of x)) (symbol_of x)

abbrev pub front_next : TimeState → Front → TimeState
front_next st x = symbol_next (state_on st (switch_of x)) (symbol_of x)

-- ---- what follows symbol s: the width and place of a corrector, and the low word of a new time

abbrev pub Rest : Type 0
Rest = (ℕ × ℕ) × ℕ

-- The corrector of a rest, and its low word.
abbrev pub corrector_of : Rest → ℕ × ℕ
corrector_of y = y.0

abbrev pub low_of : Rest → ℕ
low_of y = y.1

-- Nothing follows.
abbrev pub no_rest : Rest
no_rest = ((0, 0), 0)

abbrev pub IsRest : ℕ → ℕ → Rest → Type 0
IsRest d s y =
    MatchBool (s == same_symbol d) (y ≡ no_rest)
    (IsCorrector 32 (corrector_of y) × MatchBool (s == new_symbol d) (low_of y < 4294967296) (low_of y ≡ 0))

abbrev pub word_context : ℕ → ℕ → ℕ
word_context d s = if s == new_symbol d then 8 else context d s

abbrev pub word_predicted : ℕ → ℕ → ℕ → ℕ
word_predicted d from s = if s == new_symbol d then from / 4294967296 else predicted d s

abbrev pub rest_cuts : TimeState → ℕ → Rest → List Cut
rest_cuts st s y =
    let d = difference_of st in
    if s == same_symbol d then []
    else int_cuts st.integers (word_context d s) (corrector_of y).0 (corrector_of y).1
    ++ (if s == new_symbol d then raw_cuts 32 (low_of y) else [])

abbrev pub word_read : ℕ → ℕ → ℕ → Rest → ℕ
word_read d from s y =
    let expected = cast_signed w32 (word_predicted d from s)
    in cast_unsigned w32 (corrected 32 expected (corrector_of y).0 (corrector_of y).1)

-- The time that is read.
abbrev pub rest_time : ℕ → ℕ → ℕ → Rest → ℕ
rest_time d from s y =
    if s == same_symbol d then from
    else if s == new_symbol d then word_read d from s y * 4294967296 + low_of y
    else time_plus from (word_read d from s y)

abbrev pub rest_next : TimeState → ℕ → Rest → TimeState
rest_next st s y =
    let d = difference_of st in
    record {
      sequences = after_point st.sequences (meaning (model_of d) s) (rest_time d (slot_of st).time s y);
      symbols = st.symbols;
      integers =
          if s == same_symbol d then st.integers
          else int_next st.integers (word_context d s) (corrector_of y).0 (corrector_of y).1;
    }

-- ---- all that is read of a time

abbrev pub Choice : Type 0
Choice = Front × Rest

-- What comes first, and what follows it.
abbrev pub front_of : Choice → Front
front_of x = x.0

abbrev pub rest_of : Choice → Rest
rest_of x = x.1

abbrev pub IsChoice : TimeState → Choice → Type 0
IsChoice st x =
    let after = front_next st (front_of x)
    in IsFront st (front_of x) × IsRest (difference_of after) (symbol_of (front_of x)) (rest_of x)

abbrev pub choice_cuts : TimeState → Choice → List Cut
choice_cuts st x =
    front_cuts st (front_of x) ++ rest_cuts (front_next st (front_of x)) (symbol_of (front_of x)) (rest_of x)

abbrev pub choice_next : TimeState → Choice → TimeState
choice_next st x = rest_next (front_next st (front_of x)) (symbol_of (front_of x)) (rest_of x)

abbrev pub choice_time : TimeState → Choice → ℕ
choice_time st x =
    let after = front_next st (front_of x)
    in rest_time (difference_of after) (slot_of after).time (symbol_of (front_of x)) (rest_of x)

-- ---- what is answered: what is read makes the answer and the state, or none of it begins the rest of the bytes

-- A symbol that is no switch, after a switch that is no part of the answer.
abbrev pub ReadsFront : {E : Type 0} → Result ℕ E → (old : TimeState) → Decoding → Decoding → (new : TimeState) → Type 0
ReadsFront result st old new next =
    MatchResult result
    (λ s. (i : ℕ) × Takes (IsFront st) (front_cuts st) old new (i, s) × (next ≡ front_next st (i, s)))
    (λ _. Refuses (IsFront st) (front_cuts st) old new)

-- A word, by its corrector under a context, and the models of integers after it.
abbrev pub ReadsWordAt : {E : Type 0} → Result ℕ E → IntState → (ctx pred : ℕ) → Decoding → Decoding → IntState → Type 0
ReadsWordAt result st ctx pred old new next =
    let cuts : ℕ × ℕ → List Cut = λ y. int_cuts st ctx y.0 y.1 in
    MatchResult result
    (λ word. (x : ℕ × ℕ) × Takes (IsCorrector 32) cuts old new x
    × (word ≡ cast_unsigned w32 (corrected 32 (cast_signed w32 pred) x.0 x.1)) × (next ≡ int_next st ctx x.0 x.1))
    (λ _. TakesNone (IsCorrector 32) cuts old new)

-- The time that follows a symbol.
abbrev pub ReadsRest : {E : Type 0} → Result ℕ E → (old : TimeState) → (symbol : ℕ) → Decoding → Decoding →
    (new : TimeState) → Type 0
ReadsRest result st s old new next =
    let d = difference_of st in
    MatchResult result
    (λ time. (y : Rest) × Takes (IsRest d s) (rest_cuts st s) old new y
    × (time ≡ rest_time d (slot_of st).time s y) × (next ≡ rest_next st s y))
    (λ _. TakesNone (IsRest d s) (rest_cuts st s) old new)

-- A whole time.
abbrev pub ReadsChoice : {E : Type 0} → Result ℕ E → (old : TimeState) → Decoding → Decoding → (new : TimeState)
    → Type 0
ReadsChoice result st old new next =
    MatchResult result
    (λ time. (x : Choice) × Takes (IsChoice st) (choice_cuts st) old new x
    × (time ≡ choice_time st x) × (next ≡ choice_next st x))
    (λ _. Refuses (IsChoice st) (choice_cuts st) old new)

-- A symbol that is no switch.
abbrev pub ReadsLastSymbol : {E : Type 0} → Result ℕ E → TimeState → Decoding → Decoding → Type 0
ReadsLastSymbol result st old new =
    let no_switch : ℕ → Type 0 = λ s. s ≤ new_symbol (difference_of st) in
    MatchResult result (λ s. Takes no_switch (time_symbol_cuts st) old new s)
    (λ _. Refuses no_switch (time_symbol_cuts st) old new)
