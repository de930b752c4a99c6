-- The states of a decoder, and what its calls read.
use Rattle.std.specs.Prelude.{◌≡◌, ℕ, ◌+◌, ◌*◌, ◌/◌, ◌<◌, ◌≤◌, ◌++◌, Bool, true, false, nat_le, List, length, take}
use Rattle.std.specs.Prelude.{drop, Result, MatchResult}
use Rattle.laz_range.specs.Cut.{Cut, AreCuts, width_in}
use Rattle.laz_range.specs.Span.{span, number, IsBytes, Begins, bytes_for}
use Rattle.laz_range.specs.Reading.{Reading}
use Rattle.laz_range.specs.Choice.{Only, Nothing}
use Rattle.laz_range.specs.declared.limits.TheConstants.{BIT_PARTS, SYMBOL_PARTS}

-- What contracts see of a decoder: its bytes, how many of them were taken, how far their number lies above the low end
-- of the present span, how long the span is, and whether the decoder has answered Bad.
pub record Decoding : Type 0 where
  pub bytes : List ℕ
  pub taken : ℕ
  pub value : ℕ
  pub len : ℕ
  pub failed : Bool

-- What a decoder knows of the rest of its bytes.
abbrev pub reading_of : Decoding → Reading
reading_of d = record { value = d.value; len = d.len; rest = drop d.taken d.bytes }

-- The part that the value lies in, of 2 ^ 15 parts.
abbrev pub symbol_place : Decoding → ℕ
symbol_place d = d.value / (d.len / SYMBOL_PARTS)

-- The bit that the value gives: 0 if it lies in the part of 0, else 1.
abbrev pub bit_of : Decoding → ℕ → Bool
bit_of d p0 = nat_le (p0 * (d.len / BIT_PARTS)) d.value

-- The bytes run out at an event.
abbrev pub RunsOut : Decoding → Cut → Type 0
RunsOut d c = length d.bytes < d.taken + bytes_for (width_in d.len c)

-- The decoder has read these events: they begin its bytes, and its value is the number of the bytes taken less low.
pub record HasRead (events : List Cut) (d : Decoding) : Type 0 where
  pub cuts : AreCuts events
  pub bytes : IsBytes d.bytes
  pub begins : Begins (span events) d.bytes
  pub taken : d.taken ≡ (span events).shifts + 4
  pub value : (span events).low + d.value ≡ number (take d.taken d.bytes)
  pub len : d.len ≡ (span events).len

-- Between two states the decoder has read these events, whatever it had read before.
abbrev pub ReadsOn : List Cut → Decoding → Decoding → Type 0
ReadsOn cuts old new = (events : List Cut) → HasRead events old → HasRead (events ++ cuts) new

-- No choice asked for begins the bytes after the events read so far.
abbrev pub NoneBegins : {X : Type 0} → (X → Type 0) → (X → List Cut) → Decoding → Type 0
NoneBegins {X} IsAsked cuts d =
    (events : List Cut) → HasRead events d → (y : X) → IsAsked y → Begins (span (events ++ cuts y)) d.bytes → ⊥

-- The decoder has read x, which alone of the choices asked for begins what was left.
pub record Takes {X : Type 0} (IsAsked : X → Type 0) (cuts : X → List Cut) (old new : Decoding) (x : X) : Type 0 where
  pub choice : Only IsAsked cuts (reading_of old) x (reading_of new)
  pub bytes : new.bytes ≡ old.bytes
  pub within : new.taken ≤ length new.bytes
  pub good : new.failed ≡ false

-- No choice asked for begins what was left, and the decoder has answered Bad.
pub record TakesNone {X : Type 0} (IsAsked : X → Type 0) (cuts : X → List Cut) (old new : Decoding) : Type 0 where
  pub nothing : Nothing IsAsked cuts (reading_of old)
  pub bytes : new.bytes ≡ old.bytes
  pub failed : new.failed ≡ true

-- No choice asked for begins what was left, whatever the decoder has answered. A reader that takes several events
-- refuses so if it finds only then that they are none of the choices.
pub record Refuses {X : Type 0} (IsAsked : X → Type 0) (cuts : X → List Cut) (old new : Decoding) : Type 0 where
  pub nothing : Nothing IsAsked cuts (reading_of old)
  pub bytes : new.bytes ≡ old.bytes

-- A call that reads answers Ok with the choice that begins what was left, and Bad if none does.
abbrev pub Reads : {X E : Type 0} → Result X E → (X → Type 0) → (X → List Cut) → Decoding → Decoding → Type 0
Reads result IsAsked cuts old new =
    MatchResult result (λ x. Takes IsAsked cuts old new x) (λ _. TakesNone IsAsked cuts old new)
