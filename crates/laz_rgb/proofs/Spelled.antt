-- From what was read of a colour to the events that spell it, and back.
use Rattle.std.proofs.Common.{◌≡◌, ℕ, ◌+◌, ◌-◌, ◌<◌, Bool, true, false, List, [], ◌∷◌, ◌++◌, length, refl, sym, ap, subst, ◌∙◌, arith, append_assoc, replicate}
use Rattle.std.proofs.lemmas.List.{append-nil}
use Rattle.laz_range.specs.Cut.{Cut, AreCuts}
use Rattle.std.proofs.Math.Nat.{mod-lt}
use Rattle.laz_range.specs.Choice.{all_cuts}
use Rattle.laz_range.specs.Coding.{Coding, Codes}
use Rattle.laz_range.specs.Decoding.{Decoding, NoneBegins, Refuses, Takes, TakesNone}
use Rattle.laz_range.proofs.Public.{Takes-through, TakesNone-through, Takes-ReadsOn, Takes-begins, Refuses-none, Refuses-NoneBegins}
use Rattle.laz_models.specs.Counting.{Counting}
use Rattle.laz_models.specs.Bank.{model_at, alphabet_sizes}
use Rattle.laz_models.proofs.Public.{sizes-set}
use Rattle.laz_integer.specs.Events.{Event, Name, cuts_after}
use Rattle.laz_integer.specs.Ranged.{AreRanged}
use Rattle.laz_integer.specs.Fields.{BankStands, IsByte, byte_cuts, byte_next}
use Rattle.laz_integer.specs.Integer.{symbol_cut}
use Rattle.laz_integer.proofs.Public.{Piece, Piece-symbol, Piece-then, AreCuts-ranged, first-model}
use Rattle.laz_rgb.specs.declared.colour.Colour.{Colour}
use Rattle.laz_rgb.specs.Rows.{AreRowModels, IsRow, next_cuts, next_row, row_at, row_events}
use Rattle.laz_rgb.specs.Colours.{SpellsColour, changes, changes_event, colour_events, colour_made, colour_marks, colour_symbols, rgb_kind, symbol_if}
use Rattle.laz_rgb.specs.Coded.{ColourChoice, IsColourChoice, after_low, after_red, after_changes, choice_cuts, choice_next, choice_symbols, colour_cuts, colour_next, mark_at}
use Rattle.laz_rgb.specs.Items.{HasRgbSizes, IsRgbState, IsSpelledColour, ReadsColour, RgbStands, RgbState, latest_colour}
use Rattle.laz_integer.specs.Spelled.{OneBegins, spelled_cuts}
use Rattle.laz_rgb.proofs.Walks.{sized-rows}
use Rattle.laz_rgb.proofs.Rowed.{RowSizes, row-piece, row-ranged, row-sizes}

-- ---- events and parts, of a symbol of changes and the symbols of a row
rgb-rows : (bank : List Counting) (s n : ℕ) → alphabet_sizes bank ≡ 128 ∷ replicate 6 256 → n ≡ 6 → AreRowModels n 1 (after_changes bank s)
rgb-rows bank s n e six =
    let within = (first-model bank 128 (replicate 6 256) e).0 in
    let sizes : alphabet_sizes (after_changes bank s) ≡ 128 ∷ replicate 6 256 = sizes-set bank 0 s within ∙ e in
    subst (λ (k : ℕ). AreRowModels k 1 (after_changes bank s)) (sym six) (sized-rows 6 1 (after_changes bank s) (128 ∷ []) sizes refl)

pub row-six : (s : ℕ) (symbols : List ℕ) → IsRow (colour_marks s) symbols → length symbols ≡ 6
row-six s [] h = absurd h
row-six s (a ∷ []) h = absurd h.1
row-six s (a ∷ b ∷ []) h = absurd h.1.1
row-six s (a ∷ b ∷ c ∷ []) h = absurd h.1.1.1
row-six s (a ∷ b ∷ c ∷ d ∷ []) h = absurd h.1.1.1.1
row-six s (a ∷ b ∷ c ∷ d ∷ e ∷ []) h = absurd h.1.1.1.1.1
row-six s (a ∷ b ∷ c ∷ d ∷ e ∷ f ∷ []) h = refl
row-six s (a ∷ b ∷ c ∷ d ∷ e ∷ f ∷ g ∷ more) h = absurd h.1.1.1.1.1.1

pub colour-piece : (bank : List Counting) (s : ℕ) (symbols : List ℕ) → alphabet_sizes bank ≡ 128 ∷ replicate 6 256 → s < 128 → IsRow (colour_marks s) symbols
    → Piece (rgb_kind ∷ []) (changes_event s ∷ row_events rgb_kind (colour_marks s) 1 symbols) (colour_cuts bank s symbols) (λ l. BankStands rgb_kind l bank) (λ l. BankStands rgb_kind l (colour_next bank s symbols))
colour-piece bank s symbols e few row =
    let changes = first-model bank 128 (replicate 6 256) e in
    Piece-then (rgb_kind ∷ []) (changes_event s ∷ []) (row_events rgb_kind (colour_marks s) 1 symbols) (symbol_cut (model_at bank 0) s ∷ []) (all_cuts next_row next_cuts (row_at (colour_marks s) 1 (after_changes bank s)) symbols)
    (λ l. BankStands rgb_kind l bank) (λ l. BankStands rgb_kind l (after_changes bank s)) (λ l. BankStands rgb_kind l (colour_next bank s symbols))
    (Piece-symbol rgb_kind bank 0 128 s changes.0 changes.1 (omega arith) few)
    (row-piece rgb_kind (colour_marks s) 1 (after_changes bank s) symbols (rgb-rows bank s (length symbols) e (row-six s symbols row)) row)

-- the models keep their sizes
pub colour-sizes : (bank : List Counting) (s : ℕ) (symbols : List ℕ) → alphabet_sizes bank ≡ 128 ∷ replicate 6 256 → IsRow (colour_marks s) symbols → alphabet_sizes (colour_next bank s symbols) ≡ 128 ∷ replicate 6 256
colour-sizes bank s symbols e row =
    row-sizes (colour_marks s) 1 (after_changes bank s) symbols (rgb-rows bank s (length symbols) e (row-six s symbols row)) row ∙ (sizes-set bank 0 s (first-model bank 128 (replicate 6 256) e).0 ∙ e)

-- the events of a spelling are lawful
pub colour-ranged : (sizes : Name → ℕ) (last : Colour) (events : List Event) (now : Colour) → HasRgbSizes sizes → SpellsColour last events now → AreRanged sizes events
colour-ranged sizes last events now has h =
    let six = row-six h.changes h.symbols h.row in
    let rows : RowSizes sizes rgb_kind 1 (length h.symbols) = λ j lt. has.bytes (1 + j) (omega arith) (omega (arith, lt, six)) in
    let all : AreRanged sizes (changes_event h.changes ∷ row_events rgb_kind (colour_marks h.changes) 1 h.symbols) =
    ((sym has.changes, omega arith, omega arith, h.few), row-ranged sizes rgb_kind (colour_marks h.changes) 1 h.symbols rows h.row) in
    subst (λ (es : List Event). AreRanged sizes es) (sym h.is) all

-- ---- a choice is a symbol of changes and a row
joined : (a b c d e f : List Cut) → (a ++ b) ++ ((c ++ d) ++ (e ++ f)) ≡ a ++ (b ++ (c ++ (d ++ (e ++ (f ++ [])))))
joined a b c d e f =
    append_assoc a b ((c ++ d) ++ (e ++ f))
    ∙ ap (λ l. a ++ (b ++ l)) (append_assoc c d (e ++ f) ∙ ap (λ l. c ++ (d ++ (e ++ l))) (sym (append-nil f)))

pub choice-cuts : (bank : List Counting) (x : ColourChoice) → choice_cuts bank x ≡ colour_cuts bank x.0 (choice_symbols x)
choice-cuts bank x =
    let s = x.0 in
    let b0 = after_changes bank s in
    let b2 = after_red bank x in
    let b4 = after_low bank x in
    ap (λ l. (symbol_cut (model_at bank 0) s ∷ []) ++ l)
    (joined (byte_cuts (mark_at s 0) b0 1 x.1.0.0) (byte_cuts (mark_at s 1) (byte_next (mark_at s 0) b0 1 x.1.0.0) 2 x.1.0.1)
    (byte_cuts (mark_at s 2) b2 3 x.1.1.0.0) (byte_cuts (mark_at s 3) (byte_next (mark_at s 2) b2 3 x.1.1.0.0) 4 x.1.1.0.1)
    (byte_cuts (mark_at s 4) b4 5 x.1.1.1.0) (byte_cuts (mark_at s 5) (byte_next (mark_at s 4) b4 5 x.1.1.1.0) 6 x.1.1.1.1))

pub choice-row : (x : ColourChoice) → IsColourChoice x → IsRow (colour_marks x.0) (choice_symbols x)
choice-row x h = (h.1.0.0, (h.1.0.1, (h.1.1.0.0, (h.1.1.0.1, (h.1.1.1.0, (h.1.1.1.1, tt))))))

-- the events of a choice, and the colour that it makes
abbrev pub choice_events : ColourChoice → List Event
choice_events x = changes_event x.0 ∷ row_events rgb_kind (colour_marks x.0) 1 (choice_symbols x)

abbrev pub spelled : Colour → ColourChoice → List Event × Colour
spelled last x = (choice_events x, colour_made x.0 last (choice_symbols x))

choice-spells : (last : Colour) (x : ColourChoice) → IsColourChoice x → SpellsColour last (choice_events x) (colour_made x.0 last (choice_symbols x))
choice-spells last x h = record { changes = x.0; few = h.0; symbols = choice_symbols x; row = choice-row x h; is = refl; makes = refl }

-- every spelling is that of a choice
choice-of : (s : ℕ) (symbols : List ℕ) → s < 128 → IsRow (colour_marks s) symbols → (x : ColourChoice) × IsColourChoice x × (x.0 ≡ s) × (choice_symbols x ≡ symbols)
choice-of s [] few h = absurd h
choice-of s (a ∷ []) few h = absurd h.1
choice-of s (a ∷ b ∷ []) few h = absurd h.1.1
choice-of s (a ∷ b ∷ c ∷ []) few h = absurd h.1.1.1
choice-of s (a ∷ b ∷ c ∷ d ∷ []) few h = absurd h.1.1.1.1
choice-of s (a ∷ b ∷ c ∷ d ∷ e ∷ []) few h = absurd h.1.1.1.1.1
choice-of s (a ∷ b ∷ c ∷ d ∷ e ∷ f ∷ []) few h =
    ((s, ((a, b), ((c, d), (e, f)))), (few, ((h.0, h.1.0), ((h.1.1.0, h.1.1.1.0), (h.1.1.1.1.0, h.1.1.1.1.1.0)))), refl, refl)
choice-of s (a ∷ b ∷ c ∷ d ∷ e ∷ f ∷ g ∷ more) few h = absurd h.1.1.1.1.1.1

spells-choice : (last : Colour) (z : List Event × Colour) → SpellsColour last z.0 z.1 → (x : ColourChoice) × IsColourChoice x × (spelled last x ≡ z)
spells-choice last z h =
    let c = choice-of h.changes h.symbols h.few h.row in
    let x = c.0 in
    let same : spelled last x ≡ (changes_event h.changes ∷ row_events rgb_kind (colour_marks h.changes) 1 h.symbols, colour_made h.changes last h.symbols) =
    λ i. (changes_event (c.2 i) ∷ row_events rgb_kind (colour_marks (c.2 i)) 1 (c.3 i), colour_made (c.2 i) last (c.3 i)) in
    (x, c.1, same ∙ (λ i. (sym h.is i, sym h.makes i)))

-- ---- from the models to the events, for an item that stands for earlier events and colours
module _ (earlier : List Event) (colours : List Colour) (st : RgbState) (is : IsRgbState st) (h : RgbStands earlier colours st) where
  abbrev last : Colour
  last = latest_colour colours

  events-cut : (x : ColourChoice) → IsColourChoice x → spelled_cuts earlier (spelled last x) ≡ choice_cuts st.bank x
  events-cut x asked = (colour-piece st.bank x.0 (choice_symbols x) is asked.0 (choice-row x asked)).cut earlier h.models ∙ sym (choice-cuts st.bank x)

  pub takes-colour : (a b : Decoding) (x : ColourChoice) → Takes IsColourChoice (choice_cuts st.bank) a b x → Takes (IsSpelledColour colours) (spelled_cuts earlier) a b (spelled last x)
  takes-colour a b x f = Takes-through (spelled last) IsColourChoice (IsSpelledColour colours) (choice_cuts st.bank) (spelled_cuts earlier) a b x (choice-spells last) (spells-choice last) events-cut f

  pub refuses-colour : (a b : Decoding) → TakesNone IsColourChoice (choice_cuts st.bank) a b → Refuses (IsSpelledColour colours) (spelled_cuts earlier) a b
  refuses-colour a b f =
      Refuses-none (IsSpelledColour colours) (spelled_cuts earlier) a b
      (TakesNone-through (spelled last) IsColourChoice (IsSpelledColour colours) (choice_cuts st.bank) (spelled_cuts earlier) a b (spells-choice last) events-cut f)

  -- what was read is what was spelled
  pub reads-colour : (a b : Decoding) (x : ColourChoice) (colour : Colour) (new : RgbState) → Takes IsColourChoice (choice_cuts st.bank) a b x → colour ≡ colour_made x.0 last (choice_symbols x)
      → new ≡ record { bank = choice_next st.bank x; last = colour } → ReadsColour earlier colours colour a b new
  reads-colour a b x colour new f e n =
      let takes = takes-colour a b x f in
      let here : Takes (IsSpelledColour colours) (spelled_cuts earlier) a b (choice_events x, colour) = subst (λ (c : Colour). Takes (IsSpelledColour colours) (spelled_cuts earlier) a b (choice_events x, c)) (sym e) takes in
      let piece = colour-piece st.bank x.0 (choice_symbols x) is f.choice.asked.0 (choice-row x f.choice.asked) in
      record {
        events = choice_events x;
        takes = here;
        reads = λ sizes has before.
            Takes-ReadsOn (IsSpelledColour colours) (spelled_cuts earlier) a b (choice_events x, colour)
            (AreCuts-ranged sizes earlier (choice_events x) before (colour-ranged sizes last (choice_events x) colour has here.choice.asked)) here;
        stands = subst (λ (s : RgbState). RgbStands (earlier ++ choice_events x) (colour ∷ colours) s) (sym n) (record { models = piece.stands earlier h.models; last = refl });
      }

-- ---- a writer's row: below 256 if it is marked, else 0
symbol-row : (t : Bool) (predicted byte : ℕ) → IsByte t 0 (symbol_if t predicted byte)
symbol-row true predicted byte = mod-lt (byte + (256 - predicted)) (omega arith)
symbol-row false predicted byte = refl

pub writer-row : (s : ℕ) (from to : Colour) → IsRow (colour_marks s) (colour_symbols s from to)
writer-row s from to = (symbol-row _ _ _, (symbol-row _ _ _, (symbol-row _ _ _, (symbol-row _ _ _, (symbol-row _ _ _, (symbol-row _ _ _, tt))))))

module _ (earlier : List Event) (colours : List Colour) (st : RgbState) (is : IsRgbState st) (h : RgbStands earlier colours st) (now : Colour) (few : changes st.last now < 128) where
  writer-piece : Piece (rgb_kind ∷ []) (colour_events st.last now) (colour_cuts st.bank (changes st.last now) (colour_symbols (changes st.last now) st.last now)) (λ l. BankStands rgb_kind l st.bank)
      (λ l. BankStands rgb_kind l (colour_next st.bank (changes st.last now) (colour_symbols (changes st.last now) st.last now)))
  writer-piece = let s = changes st.last now in colour-piece st.bank s (colour_symbols s st.last now) is few (writer-row s st.last now)

  pub codes-colour : (a b : Coding) → Codes a b (colour_cuts st.bank (changes st.last now) (colour_symbols (changes st.last now) st.last now)) → Codes a b (cuts_after earlier (colour_events (latest_colour colours) now))
  codes-colour a b f =
      let here : Codes a b (cuts_after earlier (colour_events st.last now)) = subst (λ (cs : List Cut). Codes a b cs) (sym (writer-piece.cut earlier h.models)) f in
      subst (λ (l : Colour). Codes a b (cuts_after earlier (colour_events l now))) h.last here

  pub stands-colour : (bank : List Counting) → bank ≡ colour_next st.bank (changes st.last now) (colour_symbols (changes st.last now) st.last now)
      → RgbStands (earlier ++ colour_events (latest_colour colours) now) (now ∷ colours) (record { bank = bank; last = now })
  stands-colour bank e =
      let P : List Counting → Type 0 = λ l. BankStands rgb_kind (earlier ++ colour_events st.last now) l in
      let models : BankStands rgb_kind (earlier ++ colour_events st.last now) bank = subst P (sym e) (writer-piece.stands earlier h.models) in
      let there : BankStands rgb_kind (earlier ++ colour_events (latest_colour colours) now) bank = subst (λ (l : Colour). BankStands rgb_kind (earlier ++ colour_events l now) bank) h.last models in
      record { models = there; last = refl }

pub writer-state : (st : RgbState) (now : Colour) (bank : List Counting) → IsRgbState st → bank ≡ colour_next st.bank (changes st.last now) (colour_symbols (changes st.last now) st.last now)
    → IsRgbState (record { bank = bank; last = now })
writer-state st now bank is e =
    let s = changes st.last now in
    ap alphabet_sizes e ∙ colour-sizes st.bank s (colour_symbols s st.last now) is (writer-row s st.last now)

-- ---- in the words of what begins the bytes, after lawful events
module _ (sizes : Name → ℕ) (has : HasRgbSizes sizes) (earlier : List Event) (before : AreRanged sizes earlier) (colours : List Colour) where
  spelled-lawful : (z : List Event × Colour) → IsSpelledColour colours z → AreCuts (spelled_cuts earlier z)
  spelled-lawful z asked = AreCuts-ranged sizes earlier z.0 before (colour-ranged sizes (latest_colour colours) z.0 z.1 has asked)

  pub none-colour : (a b : Decoding) → Refuses (IsSpelledColour colours) (spelled_cuts earlier) a b → NoneBegins (IsSpelledColour colours) (spelled_cuts earlier) a
  none-colour a b f = Refuses-NoneBegins (IsSpelledColour colours) (spelled_cuts earlier) a b spelled-lawful f

  pub one-colour : (a b : Decoding) (z : List Event × Colour) → Takes (IsSpelledColour colours) (spelled_cuts earlier) a b z → OneBegins (IsSpelledColour colours) earlier a z.1
  one-colour a b z f read had y asked begins = ap (λ (w : List Event × Colour). w.1) (Takes-begins (IsSpelledColour colours) (spelled_cuts earlier) a b z spelled-lawful f read had y asked begins)
