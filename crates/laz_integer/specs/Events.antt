-- Events under the names of their models, and the parts that they cut out.
use Rattle.std.specs.Prelude.{ℕ, ◌-◌, ◌/◌, ◌%◌, ◌==◌, ◌&&◌, Bool, true, false, if◌then◌else◌, nat_lt, List, [], ◌∷◌}
use Rattle.std.specs.Prelude.{◌++◌}
use Rattle.laz_range.specs.Cut.{Cut, Bit, Raw, symbol}
use Rattle.laz_range.specs.declared.limits.TheConstants.{MAX_RAW_BITS}
use Rattle.laz_models.specs.Dist.{dist}
use Rattle.laz_models.specs.BitDist.{p0_of}

-- What a model of a use codes: an event of the use itself, or of an integer (LASzip's integer compressor) the
-- corrector's width, the corrector if it is 0 or 1, or the high digits of its index.
pub data Role : Type 0 where
  Own : Role
  Width : Role
  ZeroOrOne : Role
  High : Role

-- The name of a model: its use, as the text "dx"; its role; and its number among the models of that role, as the
-- context.
pub record Name : Type 0 where
  pub kind : List ℕ
  pub role : Role
  pub which : ℕ

-- An event of a stream of LASzip.
pub data Event : Type 0 where
  -- symbol s under the name of a model of n symbols
  Symbol : Name → ℕ → ℕ → Event
  -- a bit, under the name of a model of bits
  Flag : Name → Bool → Event
  -- raw value v of b bits, b from 1 to 19
  Bits : ℕ → ℕ → Event

-- Whether two roles are equal.
abbrev pub same_role : Role → Role → Bool
same_role Own Own = true
same_role Width Width = true
same_role ZeroOrOne ZeroOrOne = true
same_role High High = true
same_role a b = false

-- Whether two texts are equal.
abbrev pub same_text : List ℕ → List ℕ → Bool
same_text [] [] = true
same_text (x ∷ xs) (y ∷ ys) = (x == y) && same_text xs ys
same_text xs ys = false

-- Whether two names are equal.
abbrev pub same_name : Name → Name → Bool
same_name a b = same_role a.role b.role && ((a.which == b.which) && same_text a.kind b.kind)

-- The symbols that events have under a name, in order.
abbrev pub symbols_under : Name → List Event → List ℕ
symbols_under name [] = []
symbols_under name (Symbol other n s ∷ events) =
    if same_name name other then s ∷ symbols_under name events else symbols_under name events
symbols_under name (Flag other bit ∷ events) = symbols_under name events
symbols_under name (Bits b v ∷ events) = symbols_under name events

-- The bits that events have under a name, in order.
abbrev pub bits_under : Name → List Event → List Bool
bits_under name [] = []
bits_under name (Symbol other n s ∷ events) = bits_under name events
bits_under name (Flag other bit ∷ events) =
    if same_name name other then bit ∷ bits_under name events else bits_under name events
bits_under name (Bits b v ∷ events) = bits_under name events

-- The part that an event cuts out after earlier events: by the distribution of the earlier symbols, or bits, under the
-- event's own name.
abbrev pub cut_after : List Event → Event → Cut
cut_after earlier (Symbol name n s) = symbol (dist n (symbols_under name earlier)) s
cut_after earlier (Flag name bit) = Bit (p0_of (bits_under name earlier)) bit
cut_after earlier (Bits b v) = Raw b v

-- The parts of a list of events, each after the earlier events and those before it in the list.
abbrev pub cuts_after : List Event → List Event → List Cut
cuts_after earlier [] = []
cuts_after earlier (e ∷ events) = cut_after earlier e ∷ cuts_after (earlier ++ e ∷ []) events

-- The parts of the events of a stream.
abbrev pub cuts_of : List Event → List Cut
cuts_of events = cuts_after [] events

-- The events of a raw value. Above 19 bits they are two: its low 16 bits, and the rest.
abbrev pub raw_events : ℕ → ℕ → List Event
raw_events b v = if nat_lt MAX_RAW_BITS b then Bits 16 (v % 65536) ∷ Bits (b - 16) (v / 65536) ∷ [] else Bits b v ∷ []
