-- Which events a reader takes for a time after earlier points.
use Rattle.std.specs.Prelude.{◌≡◌, ◌≢◌, ℕ, ℤ, ◌+◌, ◌*◌, ◌/◌, ◌%◌, ◌<◌, ◌⊎◌, if◌then◌else◌, nat_lt, List, [], ◌∷◌, ◌++◌}
use Rattle.std.specs.Int.{w32, cast_signed, cast_unsigned}
use Rattle.laz_integer.specs.Events.{Event, raw_events}
use Rattle.laz_integer.specs.Integer.{IntSpell}
use Rattle.laz_gpstime.specs.Meanings.{time_kind}
use Rattle.laz_gpstime.specs.Sequences.{Point}
use Rattle.laz_gpstime.specs.Times.{context, difference_on, new_symbol, predicted, same_symbol, switch_events, time_on}
use Rattle.laz_gpstime.specs.Times.{time_symbol}

-- A time and a signed word of 32 bits, modulo 2^64.
abbrev pub time_plus : ℕ → ℕ → ℕ
time_plus from x = (from + (if nat_lt x 2147483648 then x else 18446744069414584320 + x)) % 18446744073709551616

-- The last time of a sequence, `from`, whose difference is d.
pub record SpellsSame (d from : ℕ) (events : List Event) (time : ℕ) : Type 0 where
  pub is : events ≡ time_symbol d (same_symbol d) ∷ []
  pub makes : time ≡ from

-- A difference to it, under any symbol of a difference, with any corrector.
pub record SpellsNear (d from : ℕ) (events : List Event) (time : ℕ) : Type 0 where
  pub m : ℕ
  pub below : m < new_symbol d
  pub differs : m ≢ same_symbol d
  pub rest : List Event
  pub is : events ≡ time_symbol d m ∷ rest
  pub x : ℤ
  pub k : ℕ
  pub value : IntSpell time_kind 32 (context d m) (cast_signed w32 (predicted d m)) rest x k
  pub makes : time ≡ time_plus from (cast_unsigned w32 x)

-- A time that opens a sequence: its high word, with any corrector, and its low word.
pub record SpellsNew (d from : ℕ) (events : List Event) (time : ℕ) : Type 0 where
  pub rest : List Event
  pub low : ℕ
  pub small : low < 4294967296
  pub is : events ≡ time_symbol d (new_symbol d) ∷ rest ++ raw_events 32 low
  pub high : ℤ
  pub k : ℕ
  pub value : IntSpell time_kind 32 8 (cast_signed w32 (from / 4294967296)) rest high k
  pub makes : time ≡ cast_unsigned w32 high * 4294967296 + low

-- Events that spell a time: one switch at most, and then, in the sequence that it leads to, a symbol that is no switch
-- and what follows it.
pub record SpellsTime (earlier : List Point) (events : List Event) (time : ℕ) : Type 0 where
  pub i : ℕ
  pub few : i < 4
  pub rest : List Event
  pub is : events ≡ switch_events (difference_on earlier 0) i ++ rest
  pub spells : SpellsSame (difference_on earlier i) (time_on earlier i) rest time
      ⊎ (SpellsNear (difference_on earlier i) (time_on earlier i) rest time
      ⊎ SpellsNew (difference_on earlier i) (time_on earlier i) rest time)
