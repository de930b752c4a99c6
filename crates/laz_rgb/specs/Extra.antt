-- Extra bytes of records: each is coded as its difference to the same byte of the record before (LASzip's BYTE, version
-- 2).
use Rattle.std.specs.Prelude.{◌≡◌, ℕ, Bool, true, List, [], ◌∷◌, length, replicate, MatchResult, Result}
use Rattle.laz_integer.specs.Events.{Event}
use Rattle.laz_rgb.specs.Rows.{IsRow, byte_of, row_events, IsNextByte, next_cuts, next_row, row_at}
use Rattle.laz_integer.specs.Bytes.{byte_difference}
use Rattle.laz_range.specs.Choice.{AreAsked, all_cuts, state_after}
use Rattle.laz_range.specs.Decoding.{Decoding, Refuses, Takes}
use Rattle.laz_models.specs.Counting.{Counting}

-- The use of the models of extra bytes: "byte".
abbrev pub byte_kind : List ℕ
byte_kind = 98 ∷ 121 ∷ 116 ∷ 101 ∷ []

-- All extra bytes are coded.
abbrev pub all_marked : ℕ → List Bool
all_marked n = replicate n true

-- The differences of bytes to those of the record before.
abbrev pub extra_symbols : List ℕ → List ℕ → List ℕ
extra_symbols (b ∷ last) (c ∷ now) = byte_difference b c ∷ extra_symbols last now
extra_symbols last now = []

-- The bytes that differences make of those of the record before.
abbrev pub extra_made : List ℕ → List ℕ → List ℕ
extra_made (b ∷ last) (s ∷ symbols) = byte_of true b b s ∷ extra_made last symbols
extra_made last symbols = []

-- The events of extra bytes after others: a symbol each, byte j under model j.
abbrev pub extra_events : List ℕ → List ℕ → List Event
extra_events last now = row_events byte_kind (all_marked (length last)) 0 (extra_symbols last now)

-- Events that spell extra bytes after others: a symbol each, which makes the byte of the one before.
pub record SpellsExtra (last : List ℕ) (events : List Event) (now : List ℕ) : Type 0 where
  pub symbols : List ℕ
  pub row : IsRow (all_marked (length last)) symbols
  pub is : events ≡ row_events byte_kind (all_marked (length last)) 0 symbols
  pub makes : now ≡ extra_made last symbols

-- The extra bytes of a record are read after the last ones, or no row of them begins the rest of the bytes.
abbrev pub ReadsRow : {E : Type 0} → Result (Unit {0}) E → (last part : List ℕ) → (bank : List Counting) → Decoding
    → Decoding → (next : List Counting) → Type 0
ReadsRow result last part bank old new next =
    let row = row_at (all_marked (length last)) 0 bank in
    MatchResult result
    (λ _. (xs : List ℕ) × Takes (AreAsked next_row IsNextByte row (length last)) (all_cuts next_row next_cuts row)
    old new xs × (part ≡ extra_made last xs) × (next ≡ (state_after next_row row xs).bank))
    (λ _. Refuses (AreAsked next_row IsNextByte row (length last)) (all_cuts next_row next_cuts row) old new)
