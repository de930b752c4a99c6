-- Values that compute: what is drawn, records of each format, and the file of no records.
use Rattle.std.proofs.Common.{◌≡◌, ℕ, [], ◌∷◌, length, pos, refl}
use Rattle.las_make.specs.declared.settings.TheConstants.{MAX_POINTS}
use Rattle.las_header.specs.Counting.{short_bytes}
use Rattle.las_header.specs.Numbers.{number_at}
use Rattle.las_points.specs.Record.{x_of}
use Rattle.las_make.specs.declared.settings.Settings.{Settings}
use Rattle.las_make.specs.Drawing.{draw, draws_at, next_state, state_drawn}
use Rattle.las_make.specs.Records.{base_fields, record_bytes}
use Rattle.las_make.specs.Made.{blank_head, made_file, made_record}

-- the first two draws of seed 7
drawn : (draw 7 0 ≡ 2118330556) × (draw 7 1 ≡ 4104526463)
unfolding draw state_drawn next_state
drawn = (refl, refl)

abbrev settings_of : (points seed format extra : ℕ) → Settings
settings_of points seed format extra = record { points = points; seed = seed; format = format; extra = extra }

-- X of the first record of seed 0 is 14
first_x : x_of (made_record (settings_of 1 0 0 0) 0) ≡ pos 14
unfolding number_at made_record record_bytes base_fields draws_at draw state_drawn next_state
first_x = refl

-- the second record of seed 0 in format 0
without_fields : made_record (settings_of 3 0 0 0) 1 ≡
    24 ∷ 0 ∷ 0 ∷ 0 ∷ 1 ∷ 0 ∷ 0 ∷ 0 ∷ 191 ∷ 19 ∷ 0 ∷ 0 ∷ 158 ∷ 2 ∷ 9 ∷ 3 ∷ 0 ∷ 0 ∷ 1 ∷ 0 ∷ []
unfolding made_record record_bytes base_fields draws_at draw state_drawn next_state
without_fields = refl

-- in format 1 with an extra byte, of seed 7
with_time : made_record (settings_of 3 7 1 1) 1 ≡
    18 ∷ 0 ∷ 0 ∷ 0 ∷ 6 ∷ 0 ∷ 0 ∷ 0 ∷ 181 ∷ 19 ∷ 0 ∷ 0 ∷ 7 ∷ 12 ∷ 27 ∷ 6 ∷ 0 ∷ 0 ∷ 1 ∷ 0 ∷ 64 ∷ 156 ∷ 0 ∷ 0 ∷ 0 ∷ 0 ∷ 0 ∷ 64 ∷ 1 ∷ []
unfolding made_record record_bytes base_fields draws_at draw state_drawn next_state
with_time = refl

-- in format 2, the third record: an eighth number was drawn for each before it
with_colours : made_record (settings_of 3 7 2 2) 2 ≡
    31 ∷ 0 ∷ 0 ∷ 0 ∷ 7 ∷ 0 ∷ 0 ∷ 0 ∷ 161 ∷ 19 ∷ 0 ∷ 0 ∷ 62 ∷ 1 ∷ 17 ∷ 3 ∷ 0 ∷ 0 ∷ 1 ∷ 0 ∷ 0 ∷ 100 ∷ 0 ∷ 142 ∷ 0 ∷ 100 ∷ 2 ∷ 3 ∷ []
unfolding made_record record_bytes base_fields draws_at draw state_drawn next_state
with_colours = refl

-- in format 3 of the last seed
with_both : made_record (settings_of 3 4294967295 3 3) 1 ≡
    24 ∷ 0 ∷ 0 ∷ 0 ∷ 1 ∷ 0 ∷ 0 ∷ 0 ∷ 163 ∷ 19 ∷ 0 ∷ 0 ∷ 149 ∷ 14 ∷ 27 ∷ 4 ∷ 0 ∷ 0 ∷ 1 ∷ 0 ∷ 64 ∷ 156 ∷ 0 ∷ 0 ∷ 0 ∷ 0 ∷ 0 ∷ 64 ∷ 0 ∷ 161 ∷ 0 ∷ 66 ∷ 0 ∷ 161 ∷ 1 ∷ 2 ∷ 3 ∷ []
unfolding made_record record_bytes base_fields draws_at draw state_drawn next_state
with_both = refl

-- no records: the head alone
empty : length (made_file (settings_of 0 1 0 0)) ≡ 227
unfolding blank_head short_bytes
empty = refl

-- the numbers that the definitions take from the code
max_points_is : MAX_POINTS ≡ 10000000
max_points_is = refl
