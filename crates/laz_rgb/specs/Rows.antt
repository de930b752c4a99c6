-- A row of bytes, each under a model of its own, and each coded only if it is marked. Colours and extra bytes are such
-- rows.
use Rattle.std.specs.Prelude.{◌≡◌, ℕ, ◌+◌, ◌<◌, Bool, true, false, List, [], ◌∷◌, ◌++◌, length}
use Rattle.laz_range.specs.Cut.{Cut}
use Rattle.laz_models.specs.Counting.{Counting}
use Rattle.laz_models.specs.Dist.{alphabet_size}
use Rattle.laz_models.specs.Bank.{model_at}
use Rattle.laz_integer.specs.Events.{Event}
use Rattle.laz_integer.specs.Fields.{IsByte, byte_cuts, byte_events, byte_next, if_marked}
use Rattle.laz_integer.specs.Bytes.{byte_plus}

-- The byte that a symbol makes of its prediction; without a mark it is the previous one.
abbrev pub byte_of : Bool → ℕ → ℕ → ℕ → ℕ
byte_of true predicted previous s = byte_plus predicted s
byte_of false predicted previous s = previous

-- The events of a row whose first model is m: a symbol for each marked byte.
abbrev pub row_events : List ℕ → List Bool → ℕ → List ℕ → List Event
row_events kind (t ∷ marks) m (s ∷ symbols) =
    if_marked t (byte_events kind m s) ++ row_events kind marks (m + 1) symbols
row_events kind marks m symbols = []

-- The symbols of a row: below 256 for each marked byte, else 0, which stands for none.
abbrev pub IsRow : List Bool → List ℕ → Type 0
IsRow [] [] = Unit {0}
IsRow (t ∷ marks) (s ∷ symbols) = IsByte t 0 s × IsRow marks symbols
IsRow marks symbols = ⊥

-- ---- what the code has of a row at some place: the marks to come, the next model, and the models as they are
pub record Row : Type 0 where
  pub marks : List Bool
  pub model : ℕ
  pub bank : List Counting

abbrev pub row_at : List Bool → ℕ → List Counting → Row
row_at marks m bank = record { marks = marks; model = m; bank = bank }

-- There are n models from model m on, of 256 symbols each.
abbrev pub AreRowModels : ℕ → ℕ → List Counting → Type 0
AreRowModels n m bank = (j : ℕ) → j < n → (m + j < length bank) × (alphabet_size (model_at bank (m + j)) ≡ 256)

abbrev pub first_mark : List Bool → Bool
first_mark [] = false
first_mark (t ∷ marks) = t

abbrev pub more_marks : List Bool → List Bool
more_marks [] = []
more_marks (t ∷ marks) = marks

-- The symbols that the next byte may have.
abbrev pub IsNextByte : Row → ℕ → Type 0
IsNextByte row s = IsByte (first_mark row.marks) 0 s

-- The part of the next byte.
abbrev pub next_cuts : Row → ℕ → List Cut
next_cuts row s = byte_cuts (first_mark row.marks) row.bank row.model s

-- The row after it.
abbrev pub next_row : Row → ℕ → Row
next_row row s = record {
  marks = more_marks row.marks;
  model = row.model + 1;
  bank = byte_next (first_mark row.marks) row.bank row.model s;
}
