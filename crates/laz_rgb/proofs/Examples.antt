-- Worked values of the definitions.
use Rattle.std.proofs.Common.{◌≡◌, ℕ, [], ◌∷◌, refl}
use Rattle.laz_integer.specs.Events.{Event, Symbol}
use Rattle.laz_integer.specs.Uses.{own_name}
use Rattle.laz_rgb.specs.declared.colour.Colour.{Colour}
use Rattle.laz_rgb.specs.Colours.{colour_at, colour_events, colour_made, rgb_kind}
use Rattle.laz_integer.specs.Bytes.{has_bit}

abbrev event : ℕ → ℕ → ℕ → Event
event m n s = Symbol (own_name rgb_kind m) n s

-- the words 0x1010, 0x2020 and so on, as they stand in a record
abbrev grey_10 : Colour
grey_10 = colour_at (16 ∷ 16 ∷ 16 ∷ 16 ∷ 16 ∷ 16 ∷ [])

abbrev grey_20 : Colour
grey_20 = colour_at (32 ∷ 32 ∷ 32 ∷ 32 ∷ 32 ∷ 32 ∷ [])

-- all bytes change, and the colour stays grey
pub grey : colour_events grey_10 grey_20 ≡ event 0 128 63 ∷ event 1 256 16 ∷ event 2 256 16 ∷ []
unfolding has_bit
grey = refl

-- from 0x2020, 0x2020, 0x2020 to 0x2030, 0x2020, 0x2010
pub red_up_blue_down : colour_events grey_20 (colour_at (48 ∷ 32 ∷ 32 ∷ 32 ∷ 16 ∷ 32 ∷ [])) ≡ event 0 128 81 ∷ event 1 256 16 ∷ event 4 256 232 ∷ []
unfolding has_bit
red_up_blue_down = refl

-- from 0x00f0, 0x00f8, 0x0000 to 0x00ff, 0x00ff, 0x0000: green is predicted as 255, where 263 is cut
pub green_clamped : colour_events (colour_at (240 ∷ 0 ∷ 248 ∷ 0 ∷ 0 ∷ 0 ∷ [])) (colour_at (255 ∷ 0 ∷ 255 ∷ 0 ∷ 0 ∷ 0 ∷ [])) ≡ event 0 128 69 ∷ event 1 256 15 ∷ event 3 256 0 ∷ []
unfolding has_bit
green_clamped = refl

-- read back
pub made : colour_made 81 grey_20 (16 ∷ 0 ∷ 0 ∷ 232 ∷ 0 ∷ 0 ∷ []) ≡ colour_at (48 ∷ 32 ∷ 32 ∷ 32 ∷ 16 ∷ 32 ∷ [])
unfolding has_bit
made = refl
