-- The file that is made.
use Rattle.std.specs.Prelude.{◌≡◌, ℕ, ◌+◌, ◌*◌, ◌≤◌, List, [], ◌∷◌, ◌++◌, codes, map, replicate}
use Rattle.std.specs.List.{concat, range_with_len}
use Rattle.byteorder.specs.Endian.{little_bytes}
use Rattle.las_header.specs.declared.limits.TheConstants.{HEADER_BLOCK, LAST_FORMAT, MAX_EXTRA}
use Rattle.las_header.specs.Counting.{with_counts}
use Rattle.las_header.specs.Fields.{format_size}
use Rattle.las_points.specs.Tally.{counts_of}
use Rattle.las_make.specs.declared.settings.Settings.{Settings}
use Rattle.las_make.specs.declared.settings.TheConstants.{MAX_POINTS}
use Rattle.las_make.specs.Drawing.{draws_at, draws_each, state_drawn}
use Rattle.las_make.specs.Records.{record_bytes}

-- The settings are in range.
pub record IsInRange (settings : Settings) : Type 0 where
  pub points : settings.points ≤ MAX_POINTS
  pub format : settings.format ≤ LAST_FORMAT
  pub extra : settings.extra ≤ MAX_EXTRA

-- the record of this number, from 0
unfoldable pub made_record : Settings → (k : ℕ) → List ℕ
made_record settings k =
    record_bytes settings.format settings.extra k
    (draws_at settings.format settings.seed (draws_each settings.format * k))

-- the records with numbers from this one on
abbrev pub records_from : Settings → (from count : ℕ) → List (List ℕ)
records_from settings from count = map (made_record settings) (range_with_len from count)

abbrev pub made_records : Settings → List (List ℕ)
made_records settings = records_from settings 0 settings.points

-- The state of the generator is that before the record of this number.
abbrev pub IsBefore : Settings → (k state : ℕ) → Type 0
IsBefore settings k state = state ≡ state_drawn settings.seed (draws_each settings.format * k)

-- a scale of 0.01, as the bytes of its double
abbrev pub scale_bytes : List ℕ
scale_bytes = 0x7b ∷ 0x14 ∷ 0xae ∷ 0x47 ∷ 0xe1 ∷ 0x7a ∷ 0x84 ∷ 0x3f ∷ []

-- the length of a record
abbrev pub made_length : Settings → ℕ
made_length settings = format_size settings.format + settings.extra

-- a header of LAS 1.2 with no VLR, and zero where nothing else is said (LAS specification, "Public Header Block")
unfoldable pub blank_head : Settings → List ℕ
blank_head settings =
    codes "LASF" ++ replicate 20 0 ++ 1 ∷ 2 ∷ [] ++ replicate 68 0 ++ little_bytes 2 HEADER_BLOCK
    ++ little_bytes 4 HEADER_BLOCK ++ little_bytes 4 0 ++ settings.format ∷ [] ++ little_bytes 2 (made_length settings)
    ++ replicate 24 0 ++ scale_bytes ++ scale_bytes ++ scale_bytes ++ replicate 72 0

-- that header with the counts of the records
abbrev pub made_head : Settings → List ℕ
made_head settings = with_counts (counts_of (made_records settings)) (blank_head settings)

abbrev pub made_file : Settings → List ℕ
made_file settings = made_head settings ++ concat (made_records settings)
