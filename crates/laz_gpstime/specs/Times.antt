-- Times as 64-bit numbers, and how one is coded after others (LASzip's GPSTIME11, version 2).
use Rattle.std.specs.Prelude.{ℕ, ◌+◌, ◌-◌, ◌*◌, ◌/◌, ◌%◌, ◌==◌, min, not, Bool, if◌then◌else◌, nat_lt, nat_le, List, []}
use Rattle.std.specs.Prelude.{◌∷◌, ◌++◌, Option, Some, None, find}
use Rattle.std.specs.Int.{w32, w64, cast_signed, from_le_bytes}
use Rattle.laz_integer.specs.Events.{Event, Symbol, raw_events}
use Rattle.laz_integer.specs.Integer.{IntEvents}
use Rattle.laz_integer.specs.Uses.{own_name}
use Rattle.laz_gpstime.specs.Meanings.{time_kind}
use Rattle.laz_gpstime.specs.Sequences.{Point, difference, last_time, sequence, time_difference}
use Rattle.laz_gpstime.specs.declared.limits.TheConstants.{FULL, MULTI, MULTI_MINUS, TOTAL, UNCHANGED}

-- The time in the eight bytes of a record, the low byte first.
abbrev pub time_at : List ℕ → ℕ
time_at part = from_le_bytes w64 part

-- ---- the symbols of a sequence, by its difference d: those of model 0 if d is 0, else those of model 1

abbrev pub model_of : ℕ → ℕ
model_of d = if d == 0 then 0 else 1

abbrev pub symbols_of : ℕ → ℕ
symbols_of d = if d == 0 then 6 else TOTAL

abbrev pub time_symbol : ℕ → ℕ → Event
time_symbol d s = Symbol (own_name time_kind (model_of d)) (symbols_of d) s

-- The same time.
abbrev pub same_symbol : ℕ → ℕ
same_symbol d = if d == 0 then 0 else UNCHANGED

-- A new sequence. A switch by i is i more.
abbrev pub new_symbol : ℕ → ℕ
new_symbol d = if d == 0 then 2 else FULL

-- ---- differences

-- A difference of 64 bits is near if it fits 32 bits, signed.
abbrev pub is_near : ℕ → Bool
is_near x = nat_lt ((x + 2147483648) % 18446744073709551616) 4294967296

-- The size of a word of 32 bits, signed, without its sign, and whether it is below 0.
abbrev pub size_of_word : ℕ → ℕ
size_of_word x = if nat_lt x 2147483648 then x else 4294967296 - x

abbrev pub is_negative : ℕ → Bool
is_negative x = nat_le 2147483648 x

abbrev pub signs_differ : ℕ → ℕ → Bool
signs_differ d x = if is_negative d then not (is_negative x) else is_negative x

-- The quotient of x and d, without signs: rounded to the nearest number, halves up.
abbrev pub times_in : ℕ → ℕ → ℕ
times_in d x = (2 * size_of_word x + size_of_word d) / (2 * size_of_word d)

-- The symbol of a difference x: 1 if d is 0, else the nearest multiple of d, up to 500; 501 to 510 stand for -1 to -10.
abbrev pub difference_symbol : ℕ → ℕ → ℕ
difference_symbol d x =
    if d == 0 then 1
    else if times_in d x == 0 then 0
    else if signs_differ d x then MULTI + min MULTI_MINUS (times_in d x)
    else min MULTI (times_in d x)

-- The multiple of d that a symbol stands for, modulo 2^32, which predicts the difference. It is 0 if d is.
abbrev pub predicted : ℕ → ℕ → ℕ
predicted d s = if nat_le s MULTI then s * d % 4294967296 else (s - MULTI) * (4294967296 - d) % 4294967296

-- The context of the difference.
abbrev pub context : ℕ → ℕ → ℕ
context d s =
    if d == 0 then 0
    else if s == 0 then 7
    else if s == 1 then 1
    else if nat_lt s 10 then 2
    else if nat_lt s MULTI then 3
    else if s == MULTI then 4
    else if nat_lt s (MULTI + MULTI_MINUS) then 5
    else 6

-- ---- the events of a time after earlier points

-- A switch by i, from a sequence of difference d. A switch by 0 is none.
abbrev pub switch_events : ℕ → ℕ → List Event
switch_events d i = if i == 0 then [] else time_symbol d (new_symbol d + i) ∷ []

-- The symbol of a near time, whose difference is x.
abbrev pub near_symbol : ℕ → ℕ → ℕ
near_symbol d x = if x == 0 then same_symbol d else difference_symbol d x

-- The events after that symbol.
abbrev pub near_rest : ℕ → ℕ → List Event
near_rest d x =
    let m = difference_symbol d x in
    if x == 0 then [] else IntEvents time_kind 32 (context d m) (cast_signed w32 (predicted d m)) (cast_signed w32 x)

-- A time that is near to the last one of a sequence, `from`.
abbrev pub near_events : ℕ → ℕ → ℕ → List Event
near_events d from time = let x = time_difference from time % 4294967296 in
    time_symbol d (near_symbol d x) ∷ near_rest d x

-- A time that opens a sequence: its high word, predicted by that of the last time, and its low word.
abbrev pub new_events : ℕ → ℕ → ℕ → List Event
new_events d from time =
    time_symbol d (new_symbol d)
    ∷ IntEvents time_kind 32 8 (cast_signed w32 (from / 4294967296)) (cast_signed w32 (time / 4294967296))
    ++ raw_events 32 (time % 4294967296)

-- The first of four times that a time is near to.
abbrev pub nearest : (ℕ → ℕ) → ℕ → Option ℕ
nearest from time = find (λ i. is_near (time_difference (from i) time)) (0 ∷ 1 ∷ 2 ∷ 3 ∷ [])

-- The sequence i on from that of the latest point, its last time and its difference.
abbrev pub sequence_on : List Point → ℕ → ℕ
sequence_on earlier i = (sequence earlier + i) % 4

abbrev pub time_on : List Point → ℕ → ℕ
time_on earlier i = last_time earlier (sequence_on earlier i)

abbrev pub difference_on : List Point → ℕ → ℕ
difference_on earlier i = difference earlier (sequence_on earlier i)

abbrev pub events_to : List Point → ℕ → Option ℕ → List Event
events_to earlier time (Some i) =
    switch_events (difference_on earlier 0) i ++ near_events (difference_on earlier i) (time_on earlier i) time
events_to earlier time None = new_events (difference_on earlier 0) (time_on earlier 0) time

-- The events that a writer makes of a time: in the first sequence that it is near to, from that of the latest point on,
-- else in a new one.
abbrev pub time_events : List Point → ℕ → List Event
time_events earlier time = events_to earlier time (nearest (time_on earlier) time)
