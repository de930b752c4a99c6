-- Colours as six bytes, and how one is coded after another (LASzip's RGB12, version 2).
use Rattle.std.specs.Prelude.{◌≡◌, ℕ, ◌+◌, ◌-◌, ◌/◌, ◌<◌, ◌==◌, ◌&&◌, min, not, Bool, if◌then◌else◌, List, []}
use Rattle.std.specs.Prelude.{◌∷◌, slice_index}
use Rattle.laz_integer.specs.Events.{Event, Symbol}
use Rattle.laz_integer.specs.Uses.{own_name}
use Rattle.laz_rgb.specs.Rows.{IsRow, byte_of, row_events}
use Rattle.laz_integer.specs.Bytes.{byte_difference, has_bit}
use Rattle.laz_rgb.specs.declared.colour.Colour.{Colour}

-- The use of the models of colours: "rgb".
abbrev pub rgb_kind : List ℕ
rgb_kind = 114 ∷ 103 ∷ 98 ∷ []

-- The colour in the six bytes of a record: red, green and blue, each with its low byte first.
abbrev pub colour_at : List ℕ → Colour
colour_at part =
    record {
      red_low = slice_index part 0;
      red_high = slice_index part 1;
      green_low = slice_index part 2;
      green_high = slice_index part 3;
      blue_low = slice_index part 4;
      blue_high = slice_index part 5;
    }

-- The six bytes of a colour.
abbrev pub colour_bytes : Colour → List ℕ
colour_bytes c = c.red_low ∷ c.red_high ∷ c.green_low ∷ c.green_high ∷ c.blue_low ∷ c.blue_high ∷ []

-- Red, green and blue are equal.
abbrev pub is_grey : Colour → Bool
is_grey c = (c.green_low == c.red_low) && (c.green_high == c.red_high) && (c.blue_low == c.red_low)
    && (c.blue_high == c.red_high)

-- A bit of the symbol of changes.
abbrev pub bit_if : Bool → ℕ → ℕ
bit_if t bit = if t then bit else 0

-- The symbol of 128: which bytes differ from those of the previous colour, and 64 if red, green and blue are not equal.
abbrev pub changes : Colour → Colour → ℕ
changes last now =
    bit_if (not (now.red_low == last.red_low)) 1
    + bit_if (not (now.red_high == last.red_high)) 2
    + bit_if (not (now.green_low == last.green_low)) 4
    + bit_if (not (now.green_high == last.green_high)) 8
    + bit_if (not (now.blue_low == last.blue_low)) 16
    + bit_if (not (now.blue_high == last.blue_high)) 32
    + bit_if (not (is_grey now)) 64

-- Which bytes are coded, in the order of their coding: red low and high, green and blue low, green and blue high. Those
-- of green and blue are coded only with bit 64.
abbrev pub colour_marks : ℕ → List Bool
colour_marks s =
    has_bit 1 s
    ∷ has_bit 2 s
    ∷ (has_bit 64 s && has_bit 4 s)
    ∷ (has_bit 64 s && has_bit 16 s)
    ∷ (has_bit 64 s && has_bit 8 s)
    ∷ (has_bit 64 s && has_bit 32 s)
    ∷ []

-- A byte moved as far as from one number to another, and kept within 0 to 255.
abbrev pub moved : ℕ → ℕ → ℕ → ℕ
moved from to byte = min 255 (byte + to - from)

-- A byte moved half as far, halves cut towards 0, and kept within 0 to 255.
abbrev pub half_moved : ℕ → ℕ → ℕ → ℕ
half_moved from to byte = min 255 (byte + (to - from) / 2 - (from - to) / 2)

-- The predictions of green and blue, low or high: moved as red moved, and as red and green moved together.
abbrev pub predicted_green : ℕ → ℕ → ℕ → ℕ
predicted_green red_from red_to green_from = moved red_from red_to green_from

abbrev pub predicted_blue : ℕ → ℕ → ℕ → ℕ → ℕ → ℕ
predicted_blue red_from red_to green_from green_to blue_from =
    half_moved (red_from + green_from) (red_to + green_to) blue_from

-- The symbol of a byte that is marked; 0, which stands for none, of any other.
abbrev pub symbol_if : Bool → ℕ → ℕ → ℕ
symbol_if t predicted byte = if t then byte_difference predicted byte else 0

-- The symbols of the six bytes, in the order of their coding.
abbrev pub colour_symbols : ℕ → Colour → Colour → List ℕ
colour_symbols s last now =
    symbol_if (has_bit 1 s) last.red_low now.red_low
    ∷ symbol_if (has_bit 2 s) last.red_high now.red_high
    ∷ symbol_if (has_bit 64 s && has_bit 4 s) (predicted_green last.red_low now.red_low last.green_low) now.green_low
    ∷ symbol_if (has_bit 64 s && has_bit 16 s)
    (predicted_blue last.red_low now.red_low last.green_low now.green_low last.blue_low) now.blue_low
    ∷ symbol_if (has_bit 64 s && has_bit 8 s)
    (predicted_green last.red_high now.red_high last.green_high) now.green_high
    ∷ symbol_if (has_bit 64 s && has_bit 32 s)
    (predicted_blue last.red_high now.red_high last.green_high now.green_high last.blue_high) now.blue_high
    ∷ []

-- The event of the symbol of changes.
abbrev pub changes_event : ℕ → Event
changes_event s = Symbol (own_name rgb_kind 0) 128 s

-- The events of a colour after another: the changes, and then a symbol for each marked byte, under models 1 to 6.
abbrev pub colour_events : Colour → Colour → List Event
colour_events last now =
    let s = changes last now in changes_event s ∷ row_events rgb_kind (colour_marks s) 1 (colour_symbols s last now)

-- The colour that symbols make of the previous one. A byte without a mark is the previous one; without bit 64, green
-- and blue equal red.
abbrev pub colour_made : ℕ → Colour → List ℕ → Colour
colour_made s last symbols =
    let red_low = byte_of (has_bit 1 s) last.red_low last.red_low (slice_index symbols 0) in
    let red_high = byte_of (has_bit 2 s) last.red_high last.red_high (slice_index symbols 1) in
    let green_low = byte_of (has_bit 4 s) (predicted_green last.red_low red_low last.green_low) last.green_low
    (slice_index symbols 2) in
    let blue_low = byte_of (has_bit 16 s)
    (predicted_blue last.red_low red_low last.green_low green_low last.blue_low) last.blue_low
    (slice_index symbols 3) in
    let green_high = byte_of (has_bit 8 s) (predicted_green last.red_high red_high last.green_high) last.green_high
    (slice_index symbols 4) in
    let blue_high = byte_of (has_bit 32 s)
    (predicted_blue last.red_high red_high last.green_high green_high last.blue_high) last.blue_high
    (slice_index symbols 5) in
    record {
      red_low = red_low;
      red_high = red_high;
      green_low = if has_bit 64 s then green_low else red_low;
      green_high = if has_bit 64 s then green_high else red_high;
      blue_low = if has_bit 64 s then blue_low else red_low;
      blue_high = if has_bit 64 s then blue_high else red_high;
    }

-- Events that spell a colour after another: any symbol of changes, a symbol below 256 for each byte that it marks, and
-- the colour that they make. A marked byte may be the previous one, and without bit 64 the bits of green and blue are
-- free.
pub record SpellsColour (last : Colour) (events : List Event) (now : Colour) : Type 0 where
  pub changes : ℕ
  pub few : changes < 128
  pub symbols : List ℕ
  pub row : IsRow (colour_marks changes) symbols
  pub is : events ≡ changes_event changes ∷ row_events rgb_kind (colour_marks changes) 1 symbols
  pub makes : now ≡ colour_made changes last symbols
