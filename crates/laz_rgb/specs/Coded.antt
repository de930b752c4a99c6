-- The parts that a colour's events cut out, by the models as they are, and the models after them.
use Rattle.std.specs.Prelude.{◌≡◌, ℕ, ◌+◌, ◌<◌, Bool, false, if◌then◌else◌, List, [], ◌∷◌, ◌++◌, slice_set}
use Rattle.std.specs.Prelude.{MatchResult, Result, slice_index_or}
use Rattle.laz_range.specs.Cut.{Cut}
use Rattle.laz_range.specs.Choice.{all_cuts, state_after}
use Rattle.laz_range.specs.Decoding.{Decoding, Takes, TakesNone}
use Rattle.laz_models.specs.Counting.{Counting, after_symbol}
use Rattle.laz_models.specs.Bank.{model_at}
use Rattle.laz_integer.specs.Integer.{symbol_cut}
use Rattle.laz_rgb.specs.Rows.{byte_of, next_cuts, next_row, row_at}
use Rattle.laz_integer.specs.Fields.{IsByte, byte_cuts, byte_next}
use Rattle.laz_rgb.specs.declared.colour.Colour.{Colour}
use Rattle.laz_rgb.specs.declared.reading.GreenBlue.{GreenBlue}
use Rattle.laz_rgb.specs.Colours.{colour_made, colour_marks, predicted_blue, predicted_green}
use Rattle.laz_integer.specs.Bytes.{has_bit}

-- The models after the symbol of changes.
abbrev pub after_changes : List Counting → ℕ → List Counting
after_changes bank s = slice_set bank 0 (after_symbol (model_at bank 0) s)

abbrev pub colour_cuts : List Counting → ℕ → List ℕ → List Cut
colour_cuts bank s symbols =
    (symbol_cut (model_at bank 0) s ∷ [])
    ++ all_cuts next_row next_cuts (row_at (colour_marks s) 1 (after_changes bank s)) symbols

abbrev pub colour_next : List Counting → ℕ → List ℕ → List Counting
colour_next bank s symbols = (state_after next_row (row_at (colour_marks s) 1 (after_changes bank s)) symbols).bank

-- ---- two bytes read, one after another
abbrev pub IsTwo : Bool → Bool → ℕ × ℕ → Type 0
IsTwo s t x = IsByte s 0 x.0 × IsByte t 0 x.1

abbrev pub two_cuts : Bool → Bool → List Counting → ℕ → ℕ × ℕ → List Cut
two_cuts s t bank m x = byte_cuts s bank m x.0 ++ byte_cuts t (byte_next s bank m x.0) (m + 1) x.1

abbrev pub two_next : Bool → Bool → List Counting → ℕ → ℕ × ℕ → List Counting
two_next s t bank m x = byte_next t (byte_next s bank m x.0) (m + 1) x.1

-- ---- all that is read of a colour: the symbol of changes, and those of red, of green and blue low, of green and
-- blue high

abbrev pub ColourChoice : Type 0
ColourChoice = ℕ × ((ℕ × ℕ) × ((ℕ × ℕ) × (ℕ × ℕ)))

-- The parts of a choice.
abbrev pub changes_in : ColourChoice → ℕ
changes_in x = x.0

abbrev pub red_in : ColourChoice → ℕ × ℕ
red_in x = x.1.0

abbrev pub low_in : ColourChoice → ℕ × ℕ
low_in x = x.1.1.0

abbrev pub high_in : ColourChoice → ℕ × ℕ
high_in x = x.1.1.1

abbrev pub mark_at : ℕ → ℕ → Bool
mark_at s i = slice_index_or (colour_marks s) i false

abbrev pub IsColourChoice : ColourChoice → Type 0
IsColourChoice x = (changes_in x < 128)
    × (IsTwo (mark_at (changes_in x) 0) (mark_at (changes_in x) 1) (red_in x)
    × (IsTwo (mark_at (changes_in x) 2) (mark_at (changes_in x) 3) (low_in x)
    × IsTwo (mark_at (changes_in x) 4) (mark_at (changes_in x) 5) (high_in x)))

abbrev pub after_red : List Counting → ColourChoice → List Counting
after_red bank x =
    two_next (mark_at (changes_in x) 0) (mark_at (changes_in x) 1) (after_changes bank (changes_in x)) 1 (red_in x)

abbrev pub after_low : List Counting → ColourChoice → List Counting
after_low bank x = two_next (mark_at (changes_in x) 2) (mark_at (changes_in x) 3) (after_red bank x) 3 (low_in x)

abbrev pub choice_cuts : List Counting → ColourChoice → List Cut
choice_cuts bank x =
    (symbol_cut (model_at bank 0) (changes_in x) ∷ [])
    ++ (two_cuts (mark_at (changes_in x) 0) (mark_at (changes_in x) 1) (after_changes bank (changes_in x)) 1 (red_in x)
    ++ (two_cuts (mark_at (changes_in x) 2) (mark_at (changes_in x) 3) (after_red bank x) 3 (low_in x)
    ++ two_cuts (mark_at (changes_in x) 4) (mark_at (changes_in x) 5) (after_low bank x) 5 (high_in x)))

abbrev pub choice_next : List Counting → ColourChoice → List Counting
choice_next bank x = two_next (mark_at (changes_in x) 4) (mark_at (changes_in x) 5) (after_low bank x) 5 (high_in x)

abbrev pub choice_symbols : ColourChoice → List ℕ
choice_symbols x = (red_in x).0 ∷ (red_in x).1 ∷ (low_in x).0 ∷ (low_in x).1 ∷ (high_in x).0 ∷ (high_in x).1 ∷ []

-- the colour of these bytes
abbrev pub colour_with : ℕ → ℕ × ℕ → ℕ × ℕ → ℕ × ℕ → Colour
colour_with s red low high =
    record {
      red_low = red.0;
      red_high = red.1;
      green_low = if has_bit 64 s then low.0 else red.0;
      green_high = if has_bit 64 s then high.0 else red.1;
      blue_low = if has_bit 64 s then low.1 else red.0;
      blue_high = if has_bit 64 s then high.1 else red.1;
    }

-- ---- what is answered: what is read makes the answer and the models, or none of it begins the rest of the bytes

-- A byte under model m, by its mark, its prediction and the previous byte.
abbrev pub ReadsByte : {E : Type 0} → Result ℕ E → (bank : List Counting) → (m : ℕ) → Bool → (predicted previous : ℕ)
    → Decoding → Decoding → (next : List Counting) → Type 0
ReadsByte result bank m marked predicted previous old new next =
    MatchResult result
    (λ byte. (s : ℕ) × Takes (IsByte marked 0) (byte_cuts marked bank m) old new s
    × (byte ≡ byte_of marked predicted previous s) × (next ≡ byte_next marked bank m s))
    (λ _. TakesNone (IsByte marked 0) (byte_cuts marked bank m) old new)

-- Two bytes under models m and m + 1, by their marks, and what their symbols make of them.
abbrev pub ReadsTwo : {E : Type 0} → Result (ℕ × ℕ) E → (bank : List Counting) → (m : ℕ) → (s t : Bool)
    → (makes : ℕ × ℕ → ℕ × ℕ → Type 0) → Decoding → Decoding → (next : List Counting) → Type 0
ReadsTwo result bank m s t makes old new next =
    MatchResult result
    (λ r. (x : ℕ × ℕ) × Takes (IsTwo s t) (two_cuts s t bank m) old new x × makes r x × (next ≡ two_next s t bank m x))
    (λ _. TakesNone (IsTwo s t) (two_cuts s t bank m) old new)

-- A colour after another.
abbrev pub ReadsColourAfter : {E : Type 0} → Result Colour E → (last : Colour) → (bank : List Counting)
    → Decoding → Decoding → (next : List Counting) → Type 0
ReadsColourAfter result last bank old new next =
    MatchResult result
    (λ colour. (x : ColourChoice) × Takes IsColourChoice (choice_cuts bank) old new x
    × (colour ≡ colour_made x.0 last (choice_symbols x)) × (next ≡ choice_next bank x))
    (λ _. TakesNone IsColourChoice (choice_cuts bank) old new)

-- The bytes of red that two symbols make.
abbrev pub MakesRed : (low high : Bool) → (last : Colour) → (red symbols : ℕ × ℕ) → Type 0
MakesRed low high last r x =
    (r.0 ≡ byte_of low last.red_low last.red_low x.0) × (r.1 ≡ byte_of high last.red_high last.red_high x.1)

-- The bytes of green and blue that two symbols make.
abbrev pub MakesGreenBlue : GreenBlue → (bytes symbols : ℕ × ℕ) → Type 0
MakesGreenBlue q r x =
    (r.0 ≡ byte_of q.green_marked (predicted_green q.red_from q.red_to q.green_from) q.green_from x.0)
    × (r.1 ≡ byte_of q.blue_marked (predicted_blue q.red_from q.red_to q.green_from r.0 q.blue_from) q.blue_from x.1)
