-- What the symbols of times mean (LASzip's GPSTIME11, version 2).
use Rattle.std.specs.Prelude.{ℕ, ◌+◌, ◌-◌, ◌==◌, ◌&&◌, ◌||◌, Bool, true, false, if◌then◌else◌, nat_lt, List, [], ◌∷◌, codes}
use Rattle.laz_integer.specs.Events.{Event, Symbol, Flag, Bits, same_name}
use Rattle.laz_integer.specs.Uses.{own_name}
use Rattle.laz_gpstime.specs.declared.limits.TheConstants.{FULL, MULTI, MULTI_MINUS, UNCHANGED}

-- The use of the models of times: "time". Model 0 of its own has 6 symbols, model 1 has 516.
abbrev pub time_kind : List ℕ
time_kind = codes "time"

-- What a symbol of these models means.
pub data Meaning : Type 0 where
  -- the time is the last one of its sequence
  Same : Meaning
  -- a difference to it follows that is not predicted
  First : Meaning
  -- a difference follows that is predicted from the last one of the sequence, as symbol s of 516 says
  Multiple : ℕ → Meaning
  -- a whole time follows, which opens a sequence
  New : Meaning
  -- i sequences on
  Switch : ℕ → Meaning

-- The tables of the symbols.
abbrev pub meaning : ℕ → ℕ → Meaning
meaning m s =
    if m == 0 then
    (if s == 0 then Same else if s == 1 then First else if s == 2 then New else Switch (s - 2))
    else
    (if nat_lt s UNCHANGED then Multiple s else if s == UNCHANGED then Same else if s == FULL then New
    else Switch (s - FULL))

-- What the events of a point say of its time. Events under other names say nothing of it.
abbrev pub meanings : List Event → List Meaning
meanings [] = []
meanings (Symbol name n s ∷ events) =
    if same_name (own_name time_kind name.which) name then meaning name.which s ∷ meanings events else meanings events
meanings (Flag name bit ∷ events) = meanings events
meanings (Bits b v ∷ events) = meanings events

-- How many sequences on a point switches first.
abbrev pub switch_in : List Meaning → ℕ
switch_in [] = 0
switch_in (Switch i ∷ more) = i
switch_in (m ∷ more) = 0

-- What it says in the sequence that it is then in. The first point of a chunk says nothing.
abbrev pub meaning_in : List Meaning → Meaning
meaning_in [] = Same
meaning_in (Switch i ∷ []) = Same
meaning_in (Switch i ∷ m ∷ more) = m
meaning_in (m ∷ more) = m

abbrev pub is_new : Meaning → Bool
is_new New = true
is_new m = false

abbrev pub is_first : Meaning → Bool
is_first First = true
is_first m = false

abbrev pub is_one : Meaning → Bool
is_one (Multiple s) = s == 1
is_one m = false

-- A difference that is less than half of the last one, about 500 times as large or more, or about -10 times or less.
abbrev pub is_extreme : Meaning → Bool
is_extreme (Multiple s) = if s == 0 then true else if s == MULTI then true else s == MULTI + MULTI_MINUS
is_extreme m = false

-- After `count` extreme differences, a point sets the difference of its sequence if it is the first difference there,
-- or the fourth extreme one.
abbrev pub sets : Meaning → ℕ → Bool
sets m count = is_first m || (is_extreme m && (count + 1 == 4))

-- The count of extreme differences after a point: it begins anew with an opening, with a point that sets the
-- difference, and with symbol 1.
abbrev pub extremes_after : Meaning → ℕ → ℕ
extremes_after m count =
    if is_new m || (sets m count || is_one m) then 0
    else if is_extreme m then count + 1
    else count
