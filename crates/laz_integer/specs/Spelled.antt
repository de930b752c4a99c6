-- Spellings and what they spell: pairs of events and a value. Each item of a record codes and reads such pairs.
use Rattle.std.specs.Prelude.{◌≡◌, List, ◌++◌}
use Rattle.laz_range.specs.Cut.{Cut}
use Rattle.laz_range.specs.Span.{Begins, span}
use Rattle.laz_range.specs.Decoding.{Decoding, HasRead}
use Rattle.laz_integer.specs.Events.{Event, cuts_after}

-- The parts of a spelling, after earlier events.
abbrev pub spelled_cuts : {V : Type 0} → List Event → List Event × V → List Cut
spelled_cuts earlier x = cuts_after earlier x.0

-- Whatever spelling begins the rest of the bytes, this is what it spells.
abbrev pub OneBegins : {V : Type 0} → (List Event × V → Type 0) → List Event → Decoding → V → Type 0
OneBegins {V} IsSpelled earlier old value =
    (read : List Cut) → HasRead read old → (x : List Event × V) → IsSpelled x
    → Begins (span (read ++ spelled_cuts earlier x)) old.bytes → x.1 ≡ value
