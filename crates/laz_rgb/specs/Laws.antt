-- The laws of the items that a chunk needs.
use Rattle.std.specs.Prelude.{◌≡◌, ℕ, ◌≤◌, false, List, ◌++◌, length}
use Rattle.laz_range.specs.Span.{IsBytes}
use Rattle.laz_integer.specs.Events.{Event, Name, same_text}
use Rattle.laz_integer.specs.Ranged.{AreRanged}
use Rattle.laz_integer.specs.Uses.{Silent}
use Rattle.laz_rgb.specs.declared.colour.Colour.{Colour}
use Rattle.laz_rgb.specs.Colours.{SpellsColour, colour_bytes, colour_events, rgb_kind}
use Rattle.laz_rgb.specs.Extra.{SpellsExtra, byte_kind, extra_events}
use Rattle.laz_rgb.specs.Items.{ExtraStands, ExtraState, HasExtraSizes, HasRgbSizes, RgbStands, RgbState}

-- A writer's events spell the colour.
abbrev pub ColoursAreSpelled : Type 0
ColoursAreSpelled = (last now : Colour) → IsBytes (colour_bytes last) → IsBytes (colour_bytes now)
    → SpellsColour last (colour_events last now) now

-- A spelling of a colour is of lawful events, at most 7, and none under a name of another use.
pub record ColoursAreLawful : Type 0 where
  pub ranged : (sizes : Name → ℕ) (last : Colour) (events : List Event) (now : Colour) → HasRgbSizes sizes
      → SpellsColour last events now → AreRanged sizes events
  pub few : (last : Colour) (events : List Event) (now : Colour) → SpellsColour last events now → length events ≤ 7
  pub silent : (other : List ℕ) (last : Colour) (events : List Event) (now : Colour) → same_text other rgb_kind ≡ false
      → SpellsColour last events now → Silent other events

-- Events of other uses leave what an `Rgb` stands for.
abbrev pub OthersLeaveColours : Type 0
OthersLeaveColours = (earlier others : List Event) (colours : List Colour) (st : RgbState) → Silent rgb_kind others
    → RgbStands earlier colours st → RgbStands (earlier ++ others) colours st

-- A writer's events spell the extra bytes.
abbrev pub ExtrasAreSpelled : Type 0
ExtrasAreSpelled = (last now : List ℕ) → IsBytes last → IsBytes now → length now ≡ length last
    → SpellsExtra last (extra_events last now) now

-- A spelling of extra bytes is of lawful events, at most one a byte, and none under a name of another use.
pub record ExtrasAreLawful : Type 0 where
  pub ranged : (sizes : Name → ℕ) (last : List ℕ) (events : List Event) (now : List ℕ)
      → HasExtraSizes sizes (length last) → SpellsExtra last events now → AreRanged sizes events
  pub few : (last : List ℕ) (events : List Event) (now : List ℕ) → SpellsExtra last events now
      → length events ≤ length last
  pub silent : (other last : List ℕ) (events : List Event) (now : List ℕ) → same_text other byte_kind ≡ false
      → SpellsExtra last events now → Silent other events

-- Events of other uses leave what a `Bytes` stands for.
abbrev pub OthersLeaveExtras : Type 0
OthersLeaveExtras = (earlier others : List Event) (extras : List (List ℕ)) (st : ExtraState) → Silent byte_kind others
    → ExtraStands earlier extras st → ExtraStands (earlier ++ others) extras st
