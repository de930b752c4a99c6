-- What the items stand for: the events of a stream, and the parts of the chunk's points so far, the latest one first.
-- And what a reader answers.
use Rattle.std.specs.Prelude.{◌≡◌, ℕ, ◌<◌, ◌≤◌, List, [], ◌∷◌, ◌++◌, length, replicate, MatchResult, OnErr, OnOk}
use Rattle.std.specs.Prelude.{Result}
use Rattle.laz_range.specs.Coding.{Codes, Coding}
use Rattle.laz_range.specs.Decoding.{Decoding, NoneBegins, ReadsOn, Refuses, Takes}
use Rattle.laz_models.specs.Counting.{Counting}
use Rattle.laz_models.specs.Bank.{alphabet_sizes}
use Rattle.laz_integer.specs.Events.{Event, Name, cuts_after}
use Rattle.laz_integer.specs.Fields.{BankStands}
use Rattle.laz_integer.specs.Ranged.{AreRanged}
use Rattle.laz_integer.specs.Uses.{own_name}
use Rattle.laz_rgb.specs.declared.colour.Colour.{Colour}
use Rattle.laz_rgb.specs.Colours.{SpellsColour, colour_at, colour_events, rgb_kind}
use Rattle.laz_rgb.specs.Extra.{SpellsExtra, byte_kind, extra_events}
use Rattle.laz_integer.specs.Spelled.{OneBegins, spelled_cuts}

-- ---- numbers of symbols under which the events are lawful

-- Those of colours: 128 for the changes, and 256 for each byte.
pub record HasRgbSizes (sizes : Name → ℕ) : Type 0 where
  pub changes : sizes (own_name rgb_kind 0) ≡ 128
  pub bytes : (j : ℕ) → 1 ≤ j → j < 7 → sizes (own_name rgb_kind j) ≡ 256

-- Those of n extra bytes.
abbrev pub HasExtraSizes : (Name → ℕ) → ℕ → Type 0
HasExtraSizes sizes n = (j : ℕ) → j < n → sizes (own_name byte_kind j) ≡ 256

-- ---- colours

-- The models of an `Rgb`, and the colour that it saw last.
pub record RgbState : Type 0 where
  pub bank : List Counting
  pub last : Colour

-- What holds of it between any two calls.
abbrev pub IsRgbState : RgbState → Type 0
IsRgbState st = alphabet_sizes st.bank ≡ 128 ∷ replicate 6 256

-- The colour of the latest point.
abbrev pub latest_colour : List Colour → Colour
latest_colour [] = colour_at []
latest_colour (c ∷ colours) = c

-- The models stand for the events of a stream, and the colour is that of the latest point.
pub record RgbStands (events : List Event) (colours : List Colour) (st : RgbState) : Type 0 where
  pub models : BankStands rgb_kind events st.bank
  pub last : st.last ≡ latest_colour colours

-- Events, and the colour that they spell after those of earlier points.
abbrev pub IsSpelledColour : List Colour → List Event × Colour → Type 0
IsSpelledColour colours x = SpellsColour (latest_colour colours) x.0 x.1

-- A colour was read, by the one spelling that begins the rest of the bytes; the item then stands for its point, too.
pub record ReadsColour (earlier : List Event) (colours : List Colour) (colour : Colour) (old new : Decoding)
    (st : RgbState) : Type 0 where
  pub events : List Event
  pub takes : Takes (IsSpelledColour colours) (spelled_cuts earlier) old new (events, colour)
  pub reads : (sizes : Name → ℕ) → HasRgbSizes sizes → AreRanged sizes earlier
      → ReadsOn (cuts_after earlier events) old new
  pub stands : RgbStands (earlier ++ events) (colour ∷ colours) st

-- ---- extra bytes

-- The models of a `Bytes`, and the bytes that it saw last.
pub record ExtraState : Type 0 where
  pub bank : List Counting
  pub last : List ℕ

-- What holds of it between any two calls.
pub record IsExtraState (st : ExtraState) : Type 0 where
  pub some : 0 < length st.last
  pub few : length st.last < 193
  pub sizes : alphabet_sizes st.bank ≡ replicate (length st.last) 256

-- The extra bytes of the latest point.
abbrev pub latest_extra : List (List ℕ) → List ℕ
latest_extra [] = []
latest_extra (b ∷ extras) = b

-- The models stand for the events of a stream, and the bytes are those of the latest point.
pub record ExtraStands (events : List Event) (extras : List (List ℕ)) (st : ExtraState) : Type 0 where
  pub models : BankStands byte_kind events st.bank
  pub last : st.last ≡ latest_extra extras

-- Events, and the extra bytes that they spell after those of earlier points.
abbrev pub IsSpelledExtra : List (List ℕ) → List Event × List ℕ → Type 0
IsSpelledExtra extras x = SpellsExtra (latest_extra extras) x.0 x.1

-- Extra bytes were read, by the one spelling that begins the rest of the bytes; the item then stands for their point,
-- too.
pub record ReadsExtra (earlier : List Event) (extras : List (List ℕ)) (bytes : List ℕ) (old new : Decoding)
    (st : ExtraState) : Type 0 where
  pub events : List Event
  pub takes : Takes (IsSpelledExtra extras) (spelled_cuts earlier) old new (events, bytes)
  pub reads : (sizes : Name → ℕ) → HasExtraSizes sizes (length bytes) → AreRanged sizes earlier
      → ReadsOn (cuts_after earlier events) old new
  pub stands : ExtraStands (earlier ++ events) (bytes ∷ extras) st

-- ---- what the calls of an item promise, whatever stream and points it stands for

-- The events of a colour are coded.
abbrev pub CodesColour : RgbState → Colour → Coding → Coding → Type 0
CodesColour st colour old new = (earlier : List Event) (colours : List Colour) → RgbStands earlier colours st
    → Codes old new (cuts_after earlier (colour_events (latest_colour colours) colour))

-- The item then stands for the colour's point, too.
abbrev pub StandsWithColour : (old : RgbState) → Colour → (new : RgbState) → Type 0
StandsWithColour old colour new = (earlier : List Event) (colours : List Colour) → RgbStands earlier colours old
    → RgbStands (earlier ++ colour_events (latest_colour colours) colour) (colour ∷ colours) new

-- A colour is read by the one spelling that begins the rest of the bytes, or none of a colour does.
abbrev pub ReadsNextColour : {E : Type 0} → Result (Unit {0}) E → (old : RgbState) → Colour → Decoding → Decoding
    → (new : RgbState) → Type 0
ReadsNextColour result st colour old new next =
    (earlier : List Event) (colours : List Colour) → RgbStands earlier colours st
    → MatchResult result (λ _. ReadsColour earlier colours colour old new next)
    (λ _. Refuses (IsSpelledColour colours) (spelled_cuts earlier) old new)

-- After lawful events, no spelling of another colour begins what was left.
abbrev pub OnlyColourBegins : {E : Type 0} → Result (Unit {0}) E → RgbState → Colour → Decoding → Type 0
OnlyColourBegins result st colour old =
    (earlier : List Event) (colours : List Colour) → RgbStands earlier colours st
    → (sizes : Name → ℕ) → HasRgbSizes sizes → AreRanged sizes earlier
    → OnOk result (OneBegins (IsSpelledColour colours) earlier old colour)

-- After lawful events, `Bad` means that no spelling of a colour begins it.
abbrev pub NoColourBegins : {E : Type 0} → Result (Unit {0}) E → RgbState → Decoding → Type 0
NoColourBegins result st old =
    (earlier : List Event) (colours : List Colour) → RgbStands earlier colours st
    → (sizes : Name → ℕ) → HasRgbSizes sizes → AreRanged sizes earlier
    → OnErr result (NoneBegins (IsSpelledColour colours) (spelled_cuts earlier) old)

-- The same of the extra bytes of a record, of which there are n.
abbrev pub CodesExtra : ExtraState → (bytes : List ℕ) → Coding → Coding → Type 0
CodesExtra st bytes old new = (earlier : List Event) (extras : List (List ℕ)) → ExtraStands earlier extras st
    → Codes old new (cuts_after earlier (extra_events (latest_extra extras) bytes))

abbrev pub StandsWithExtra : (old : ExtraState) → (bytes : List ℕ) → (new : ExtraState) → Type 0
StandsWithExtra old bytes new = (earlier : List Event) (extras : List (List ℕ)) → ExtraStands earlier extras old
    → ExtraStands (earlier ++ extra_events (latest_extra extras) bytes) (bytes ∷ extras) new

abbrev pub ReadsNextExtra : {E : Type 0} → Result (Unit {0}) E → (old : ExtraState) → (bytes : List ℕ) → Decoding
    → Decoding → (new : ExtraState) → Type 0
ReadsNextExtra result st bytes old new next =
    (earlier : List Event) (extras : List (List ℕ)) → ExtraStands earlier extras st
    → MatchResult result (λ _. ReadsExtra earlier extras bytes old new next)
    (λ _. Refuses (IsSpelledExtra extras) (spelled_cuts earlier) old new)

abbrev pub OnlyExtraBegins : {E : Type 0} → Result (Unit {0}) E → ExtraState → (n : ℕ) → (bytes : List ℕ) → Decoding
    → Type 0
OnlyExtraBegins result st n bytes old =
    (earlier : List Event) (extras : List (List ℕ)) → ExtraStands earlier extras st
    → (sizes : Name → ℕ) → HasExtraSizes sizes n → AreRanged sizes earlier
    → OnOk result (OneBegins (IsSpelledExtra extras) earlier old bytes)

abbrev pub NoExtraBegins : {E : Type 0} → Result (Unit {0}) E → ExtraState → (n : ℕ) → Decoding → Type 0
NoExtraBegins result st n old =
    (earlier : List Event) (extras : List (List ℕ)) → ExtraStands earlier extras st
    → (sizes : Name → ℕ) → HasExtraSizes sizes n → AreRanged sizes earlier
    → OnErr result (NoneBegins (IsSpelledExtra extras) (spelled_cuts earlier) old)
