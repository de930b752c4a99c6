-- What a decoder follows, without the low end of its span.
use Rattle.std.specs.Prelude.{◌≡◌, ℕ, ◌+◌, ◌-◌, ◌*◌, ◌/◌, ◌^◌, ◌<◌, ◌≤◌, ◌⊎◌, ◌&&◌, List, [], ◌∷◌, nat_lt, nat_le}
use Rattle.std.specs.Prelude.{if◌then◌else◌, length, take, drop, Option, Some, None, option_and_then}
use Rattle.laz_range.specs.Cut.{Cut, Raw, start_in, width_in}
use Rattle.laz_range.specs.Span.{Span, number, bytes_for}
use Rattle.laz_range.specs.declared.limits.TheConstants.{MAX_LENGTH, MAX_RAW_BITS, MIN_LENGTH}

-- What a decoder knows of the rest of its bytes: how far the number of the bytes taken lies above the low end of the
-- present span, how long the span is, and the bytes that are left.
pub record Reading : Type 0 where
  pub value : ℕ
  pub len : ℕ
  pub rest : List ℕ

-- The reading after one more byte, if there is one.
abbrev pub with_byte : Reading → List ℕ → Option Reading
with_byte r [] = None
with_byte r (b ∷ bs) = Some (record { value = r.value * 256 + b; len = r.len * 256; rest = bs })

-- One step of renormalisation: one more byte if the length is below 2 ^ 24.
unfoldable pub refill_step : Reading → Option Reading
refill_step r = if nat_lt r.len MIN_LENGTH then with_byte r r.rest else Some r

-- The reading after a part that the value lies in, unless the bytes run out.
unfoldable pub reading_after_part : Reading → ℕ → ℕ → Option Reading
reading_after_part r from width =
    option_and_then refill_step
    (option_and_then refill_step (refill_step (record { value = r.value - from; len = width; rest = r.rest })))

-- The reading after an event, if the event begins what is left.
unfoldable pub follow : Reading → Cut → Option Reading
follow r c =
    if nat_le (start_in r.len c) r.value && nat_lt r.value (start_in r.len c + width_in r.len c)
    then reading_after_part r (start_in r.len c) (width_in r.len c)
    else None

-- The reading after a list of events, if they begin what is left.
abbrev pub follow_all : Reading → List Cut → Option Reading
follow_all r [] = Some r
follow_all r (c ∷ cs) = option_and_then (λ s. follow_all s cs) (follow r c)

-- The value lies in the part.
pub record IsIn (r : Reading) (c : Cut) : Type 0 where
  pub above : start_in r.len c ≤ r.value
  pub below : r.value < start_in r.len c + width_in r.len c

-- The reading of a decoder of these bytes after the events of s.
abbrev pub reading : Span → List ℕ → Reading
reading s bytes =
    record { value = number (take (s.shifts + 4) bytes) - s.low; len = s.len; rest = drop (s.shifts + 4) bytes }

-- The reading of a new decoder of these bytes, if any events begin them.
abbrev pub initial_reading : List ℕ → Option Reading
initial_reading bytes =
    if nat_le 4 (length bytes) && nat_lt (number (take 4 bytes)) MAX_LENGTH
    then Some (record { value = number (take 4 bytes); len = MAX_LENGTH; rest = drop 4 bytes })
    else None

-- The raw value of b bits that the value gives.
abbrev pub quotient : Reading → ℕ → ℕ
quotient r b = r.value / (r.len / 2 ^ b)

-- No raw value of b bits that is one event begins what is left: the quotient reaches 2 ^ b, or the bytes run out.
abbrev pub RefusesPart : Reading → ℕ → Type 0
RefusesPart r b = (2 ^ b ≤ quotient r b) ⊎ (length r.rest < bytes_for (r.len / 2 ^ b))

-- No raw value of b bits begins what is left. If b is above 19, its low 16 bits are refused, or the rest after them.
abbrev pub RefusesRaw : Reading → ℕ → Type 0
RefusesRaw r b =
    ((b ≤ MAX_RAW_BITS) × RefusesPart r b)
    ⊎ ((MAX_RAW_BITS < b)
    × (RefusesPart r 16
    ⊎ ((m : Reading) × (follow r (Raw 16 (quotient r 16)) ≡ Some m) × RefusesPart m (b - 16))))
