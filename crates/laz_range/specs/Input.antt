-- The input of a decoder, and how it goes on.
use Rattle.std.specs.Prelude.{◌≡◌, drop, Option, Some, None, Result, MatchResult, Bool, true, false, length, ◌<◌, ◌≤◌}
use Rattle.laz_range.specs.Reading.{Reading}
use Rattle.laz_range.specs.Search.{top_bits}
use Rattle.laz_range.specs.Decoding.{Decoding, reading_of}
use Rattle.laz_range.specs.declared.input.Input.{Input}
use Rattle.laz_range.specs.declared.limits.TheConstants.{MIN_LENGTH}

-- The reading of an input.
abbrev pub input_reading : Input → Reading
input_reading i = record { value = i.value; len = i.length; rest = drop i.taken i.bytes.now }

-- What contracts see of a decoder of this input.
abbrev pub decoding_of : Input → Bool → Decoding
decoding_of i failed = record { bytes = i.bytes.now; taken = i.taken; value = i.value; len = i.length; failed = failed }

-- What holds of a decoder of this input between any two calls: until it answers Bad, its value lies in its span, and
-- `top` has the top bits of its length.
abbrev pub IsInput : Input → Bool → Type 0
IsInput i failed =
    (i.taken ≤ length i.bytes.now)
    × (failed ≡ false → i.value < i.length)
    × (failed ≡ false → MIN_LENGTH ≤ i.length)
    × (failed ≡ false → i.top ≡ top_bits i.length)

-- A call that takes a part leaves the reading after it, or answers Bad if the bytes run out.
abbrev pub Gives : {E : Type 0} → Result (Unit {0}) E → Option Reading → Reading → Type 0
Gives result reads new = MatchResult result (λ _. reads ≡ Some new) (λ _. reads ≡ None)

-- A decoder has gone on to this reading.
pub record Advances (reading : Option Reading) (old new : Decoding) : Type 0 where
  pub reads : reading ≡ Some (reading_of new)
  pub bytes : new.bytes ≡ old.bytes
  pub within : new.taken ≤ length new.bytes
  pub good : new.failed ≡ false

-- A decoder could not go on: its bytes ran out.
pub record Stops (reading : Option Reading) (old new : Decoding) : Type 0 where
  pub reads : reading ≡ None
  pub bytes : new.bytes ≡ old.bytes
  pub failed : new.failed ≡ true
