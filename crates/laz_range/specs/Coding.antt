-- The states of an encoder.
use Rattle.std.specs.Prelude.{◌≡◌, ℕ, ◌+◌, ◌*◌, ◌≤◌, List, length}
use Rattle.laz_range.specs.Cut.{Cut}
use Rattle.laz_range.specs.Span.{Span, after}

-- What contracts see of an encoder: the bytes before the place where it began to write, the span of its events, how many
-- more bytes its room has, and by how many the room may still be lengthened.
pub record Coding : Type 0 where
  pub before : List ℕ
  pub span : Span
  pub left : ℕ
  pub more : ℕ

-- An encoder has coded these events between two states. Each event takes at most three bytes of room.
pub record Codes (old new : Coding) (events : List Cut) : Type 0 where
  pub span : new.span ≡ after old.span events
  pub before : new.before ≡ old.before
  pub left : new.left + new.span.shifts ≡ old.left + old.span.shifts
  pub used : old.left ≤ new.left + 3 * length events
  pub more : new.more ≡ old.more

-- An encoder has coded these events between two states, and its room was lengthened at times.
pub record CodesInSteps (old new : Coding) (events : List Cut) : Type 0 where
  pub span : new.span ≡ after old.span events
  pub before : new.before ≡ old.before
  pub room : new.left + new.more + new.span.shifts ≡ old.left + old.more + old.span.shifts
  pub more : new.more ≤ old.more
