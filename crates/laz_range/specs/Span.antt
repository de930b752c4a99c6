-- The interval of Said's coder, in exact numbers, and the bytes that spell a number of it.
use Rattle.std.specs.Prelude.{◌≡◌, ℕ, zero, suc, ◌+◌, ◌*◌, ◌/◌, ◌%◌, ◌^◌, ◌<◌, ◌≤◌, List, [], ◌∷◌, nat_lt}
use Rattle.std.specs.Prelude.{if◌then◌else◌, length, take, slice_index}
use Rattle.std.specs.Int.Digits.{number_from_digits}
use Rattle.laz_range.specs.Cut.{Cut, start_in, width_in}
use Rattle.laz_range.specs.declared.limits.TheConstants.{MAX_LENGTH, MIN_LENGTH}

-- The numbers that spell a list of events: at least low and below low + len, in shifts + 4 digits of base 256. There is
-- no carry, since low has no upper bound.
pub record Span : Type 0 where
  pub low : ℕ
  pub len : ℕ
  pub shifts : ℕ

-- The span of no event.
abbrev pub initial_span : Span
initial_span = record { low = 0; len = MAX_LENGTH; shifts = 0 }

-- One step of renormalisation: one more digit if the length is below 2 ^ 24.
unfoldable pub renormal_step : Span → Span
renormal_step s =
    if nat_lt s.len MIN_LENGTH then record { low = s.low * 256; len = s.len * 256; shifts = s.shifts + 1 }
    else s

-- The part of a span that begins at `from` and has length `width`, renormalised. Three more digits are enough for any
-- part.
unfoldable pub subspan : Span → ℕ → ℕ → Span
subspan s from width =
    renormal_step (renormal_step (renormal_step (record { low = s.low + from; len = width; shifts = s.shifts })))

-- The span after one more event.
abbrev pub cut : Span → Cut → Span
cut s c = subspan s (start_in s.len c) (width_in s.len c)

-- The span after further events.
abbrev pub after : Span → List Cut → Span
after s [] = s
after s (c ∷ cs) = after (cut s c) cs

-- The span of a list of events.
abbrev pub span : List Cut → Span
span events = after initial_span events

-- The number that bytes spell, most significant byte first.
abbrev pub number : List ℕ → ℕ
number bytes = number_from_digits 256 bytes

-- Each number of a list is a byte.
abbrev pub IsBytes : List ℕ → Type 0
IsBytes bytes = (i : ℕ) → slice_index bytes i < 256

-- All of the bytes spell a number of the span.
pub record Fits (s : Span) (bytes : List ℕ) : Type 0 where
  pub length : s.shifts + 4 ≡ length bytes
  pub low : s.low ≤ number bytes
  pub high : number bytes < s.low + s.len

-- The first shifts + 4 of the bytes spell a number of the span.
pub record Begins (s : Span) (bytes : List ℕ) : Type 0 where
  pub enough : s.shifts + 4 ≤ length bytes
  pub low : s.low ≤ number (take (s.shifts + 4) bytes)
  pub high : number (take (s.shifts + 4) bytes) < s.low + s.len

-- The number that LASzip's encoder ends a stream with. Its last three bytes are 0 if the span is long, else its last
-- two.
abbrev pub final_number : Span → ℕ
final_number s =
    if nat_lt (2 ^ 25) s.len then (s.low + 2 ^ 24) / 2 ^ 24 * 2 ^ 24
    else (s.low + 2 ^ 23) / 2 ^ 16 * 2 ^ 16

-- A number below 256 ^ n, as n digits of base 256, most significant first.
abbrev pub digits : ℕ → ℕ → List ℕ
digits zero v = []
digits (suc n) v = v / 256 ^ n ∷ digits n (v % 256 ^ n)

-- The bytes of a stream with this span.
abbrev pub bytes_of : Span → List ℕ
bytes_of s = digits (s.shifts + 4) (final_number s)

-- How many more bytes a part of this length needs: one for each factor of 256 that it lacks to reach 2 ^ 24.
unfoldable pub bytes_for : ℕ → ℕ
bytes_for len =
    if nat_lt len (2 ^ 8) then 3 else if nat_lt len (2 ^ 16) then 2 else if nat_lt len MIN_LENGTH then 1 else 0

-- What holds of every span that the coder reaches.
pub record IsSpan (s : Span) : Type 0 where
  pub long : MIN_LENGTH ≤ s.len
  pub short : s.len < 2 ^ 32
  pub within : s.low + s.len ≤ 256 ^ (s.shifts + 4)
