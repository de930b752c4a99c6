-- Which events are lawful, and which are of one kind.
use Rattle.std.specs.Prelude.{◌≡◌, ℕ, ◌+◌, ◌^◌, ◌<◌, ◌≤◌, min, List}
use Rattle.std.specs.List.{AllByRecursion}
use Rattle.laz_range.specs.declared.limits.TheConstants.{MAX_RAW_BITS}
use Rattle.laz_models.specs.declared.limits.TheConstants.{MAX_SYMBOLS}
use Rattle.laz_integer.specs.declared.limits.TheConstants.{HIGH_BITS}
use Rattle.laz_integer.specs.Events.{Event, Symbol, Flag, Bits, Name}
use Rattle.laz_integer.specs.Integer.{width_name, high_name}

-- A lawful event, if `sizes` gives the number of symbols of each name's model: a symbol is below that number, which is
-- from 2 to 2,048, and a raw value has 1 to 19 bits.
abbrev pub IsRanged : (Name → ℕ) → Event → Type 0
IsRanged sizes (Symbol name n s) = (n ≡ sizes name) × (2 ≤ n) × (n ≤ MAX_SYMBOLS) × (s < n)
IsRanged sizes (Flag name bit) = Unit {0}
IsRanged sizes (Bits b v) = (0 < b) × (b ≤ MAX_RAW_BITS) × (v < 2 ^ b)

-- Each event is lawful.
abbrev pub AreRanged : (Name → ℕ) → List Event → Type 0
AreRanged sizes events = AllByRecursion (IsRanged sizes) events

-- Two symbols under one name, two bits under one name, or two raw values of one width.
abbrev pub AreOneKind : Event → Event → Type 0
AreOneKind (Symbol a n s) (Symbol b m t) = a ≡ b
AreOneKind (Flag a bit) (Flag b other) = a ≡ b
AreOneKind (Bits b v) (Bits c w) = b ≡ c
AreOneKind d e = ⊥

-- `sizes` gives the models of an integer of `bits` bits their numbers of symbols.
pub record HasIntSizes (sizes : Name → ℕ) (kind : List ℕ) (bits : ℕ) : Type 0 where
  pub widths : (ctx : ℕ) → sizes (width_name kind ctx) ≡ bits + 1
  pub highs : (k : ℕ) → sizes (high_name kind k) ≡ 2 ^ min k HIGH_BITS
