-- The events of the range coder of LASzip (Isenburg, PE&RS 2013, after Said 2004).
use Rattle.std.specs.Prelude.{◌≡◌, ℕ, ◌+◌, ◌-◌, ◌*◌, ◌/◌, ◌%◌, ◌^◌, ◌<◌, ◌≤◌, ◌==◌, ◌⊎◌, Bool, true, false}
use Rattle.std.specs.Prelude.{if◌then◌else◌, List, [], ◌∷◌, length, slice_index, nat_lt}
use Rattle.std.specs.List.{AllByRecursion}
use Rattle.laz_range.specs.declared.limits.TheConstants.{BIT_PARTS, MAX_RAW_BITS, SYMBOL_PARTS}

-- An event, as the part that it cuts out of the present interval.
pub data Cut : Type 0 where
  -- a symbol: from lo up to hi of 2 ^ 15 parts
  Part : ℕ → ℕ → Cut
  -- a bit: 0 has p0 of 2 ^ 13 parts, 1 has the rest
  Bit : ℕ → Bool → Cut
  -- a raw value v of b bits: the v-th of 2 ^ b parts
  Raw : ℕ → ℕ → Cut

-- An event is lawful: its part is not empty, and a raw value has 1 to 19 bits.
abbrev pub IsCut : Cut → Type 0
IsCut (Part lo hi) = (lo < hi) × (hi ≤ SYMBOL_PARTS)
IsCut (Bit p0 bit) = (0 < p0) × (p0 < BIT_PARTS)
IsCut (Raw b v) = (0 < b) × (b ≤ MAX_RAW_BITS) × (v < 2 ^ b)

-- Each event of a list is lawful.
abbrev pub AreCuts : List Cut → Type 0
AreCuts events = AllByRecursion IsCut events

-- Where the part of an event begins in an interval of length len: the number of parts before it times the length of
-- one.
abbrev pub start_in : ℕ → Cut → ℕ
start_in len (Part lo hi) = lo * (len / SYMBOL_PARTS)
start_in len (Bit p0 false) = 0
start_in len (Bit p0 true) = p0 * (len / BIT_PARTS)
start_in len (Raw b v) = v * (len / 2 ^ b)

-- How long the part of an event is. The last symbol and the bit 1 also get what the division leaves.
abbrev pub width_in : ℕ → Cut → ℕ
width_in len (Part lo hi) =
    if hi == SYMBOL_PARTS then len - lo * (len / SYMBOL_PARTS)
    else hi * (len / SYMBOL_PARTS) - lo * (len / SYMBOL_PARTS)
width_in len (Bit p0 false) = p0 * (len / BIT_PARTS)
width_in len (Bit p0 true) = len - p0 * (len / BIT_PARTS)
width_in len (Raw b v) = len / 2 ^ b

-- A raw value of more than 19 bits is two events: its low 16 bits, and the rest (LASzip's `writeBits`).
abbrev pub raw_cuts : ℕ → ℕ → List Cut
raw_cuts b v = if nat_lt MAX_RAW_BITS b then Raw 16 (v % 2 ^ 16) ∷ Raw (b - 16) (v / 2 ^ 16) ∷ [] else Raw b v ∷ []

-- One event, as a list.
abbrev pub one_event : Cut → List Cut
one_event c = c ∷ []

-- Two events of one kind: parts of one distribution, which are equal or disjoint; bits of one p0; raw values of one
-- width.
abbrev pub AreAlike : Cut → Cut → Type 0
AreAlike (Part lo hi) (Part low high) = ((lo ≡ low) × (hi ≡ high)) ⊎ ((hi ≤ low) ⊎ (high ≤ lo))
AreAlike (Bit p bit) (Bit q other) = p ≡ q
AreAlike (Raw b v) (Raw c w) = b ≡ c
AreAlike c d = ⊥

-- A lawful event that could come in place of c.
abbrev pub IsLike : Cut → Cut → Type 0
IsLike c d = IsCut d × AreAlike c d

-- A distribution, given by the start of each symbol's part: the starts rise strictly from 0 and stay below 2 ^ 15.
pub record IsDistribution (starts : List ℕ) : Type 0 where
  pub first : slice_index starts 0 ≡ 0
  pub grows : (s t : ℕ) → s < t → t < length starts → slice_index starts s < slice_index starts t
  pub below : (s : ℕ) → s < length starts → slice_index starts s < SYMBOL_PARTS

-- The event of a symbol: its part ends at the start of the next one, and the last part ends at 2 ^ 15.
abbrev pub symbol : List ℕ → ℕ → Cut
symbol starts s =
    Part (slice_index starts s) (if s + 1 == length starts then SYMBOL_PARTS else slice_index starts (s + 1))
