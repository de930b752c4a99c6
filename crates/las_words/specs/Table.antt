-- The commands and their options, as data: those of LAStools, and `make`.
use Rattle.std.specs.Prelude.{ℕ, ℤ, pos, ◌^◌, bit_or, List, [], ◌∷◌, ◌++◌, codes, fold, find, take, Option}
use Rattle.std.specs.Prelude.{unwrap_or}
use Rattle.std.specs.Str.{bytes_eq}
use Rattle.las_header.specs.declared.limits.TheConstants.{MAX_CHUNK_POINTS, MIN_CHUNK_POINTS}
use Rattle.las_filter.specs.declared.keep.Keep.{Keep}
use Rattle.las_filter.specs.declared.keep.Keep.TheVariants.{Classes, DropClasses, Returns, DropReturns, First, Last}
use Rattle.las_filter.specs.declared.keep.Keep.TheVariants.{Intensity, NotBelow, NotAbove}
use Rattle.las_filter.specs.declared.change.Change.{Change}
use Rattle.las_filter.specs.declared.change.Change.TheVariants.{Translate, SetClass, SetUser, SetSource}
use Rattle.las_words.specs.declared.table.Tool.{Tool}
use Rattle.las_words.specs.declared.table.Tool.TheVariants.{Laszip, Las2las, Lasinfo, Lassplit, Lasmerge, Make}
use Rattle.las_words.specs.declared.table.Values.{Values}
use Rattle.las_words.specs.declared.table.Values.TheVariants.{Nothing, Name, Number, Bounds, Several, Signed, Tap}
use Rattle.las_words.specs.declared.table.Flag.{Flag}
use Rattle.las_words.specs.declared.table.Flag.TheVariants.{Input, Inputs, Output, ChunkSize, Cores, Olas, Olaz}
use Rattle.las_words.specs.declared.table.Flag.TheVariants.{CopyChunks, StartAtPoint, StopAtPoint, KeepClass, DropClass}
use Rattle.las_words.specs.declared.table.Flag.TheVariants.{KeepReturn, DropReturn, KeepFirst, KeepLast, KeepIntensity}
use Rattle.las_words.specs.declared.table.Flag.TheVariants.{DropIntensityBelow, DropIntensityAbove, TranslateRawXyz}
use Rattle.las_words.specs.declared.table.Flag.TheVariants.{TranslateRawX, TranslateRawY, TranslateRawZ}
use Rattle.las_words.specs.declared.table.Flag.TheVariants.{SetClassification}
use Rattle.las_words.specs.declared.table.Flag.TheVariants.{SetUserData, SetPointSource, ThinRaw, Lowest, Highest}
use Rattle.las_words.specs.declared.table.Flag.TheVariants.{DropRepeated, Tally}
use Rattle.las_words.specs.declared.table.Flag.TheVariants.{Split, ByClassification, ByFlightline, ByReturn}
use Rattle.las_words.specs.declared.table.Flag.TheVariants.{PackedOutput, Points, Seed, Format, Extra}
use Rattle.las_words.specs.Texts.{word_at}
use Rattle.las_words.specs.Numbers.{number_or_zero, signed_in}
use Rattle.las_words.specs.Counts.{values_of}

-- what an option means, of the words that follow it: a setting, which is looked up, a filter, a change, or
-- a tally
pub data OptionMeaning : Type 0 where
  Setting : OptionMeaning
  Filters : (List (List ℕ) → Keep) → OptionMeaning
  Changes : (List (List ℕ) → Change) → OptionMeaning
  TallyNames : OptionMeaning

-- An option: its word, its values, its rivals, itself mostly among them, how many of these may stand before it, and
-- what it means.
pub record OptionRow : Type 0 where
  pub name : List ℕ
  pub values : Values
  pub rivals : List (List ℕ)
  pub before : ℕ
  pub means : OptionMeaning

-- an option that is given once
abbrev pub once : List ℕ → Values → OptionMeaning → OptionRow
once name values means = record { name = name; values = values; rivals = name ∷ []; before = 0; means = means }

-- an option that is given once, and none of its rivals beside it: how the output is written, how a file is split, or
-- which record of a cell stays
abbrev pub one_of : List (List ℕ) → List ℕ → Values → OptionRow
one_of rivals name values = record { name = name; values = values; rivals = rivals; before = 0; means = Setting }

-- how the output is written
abbrev pub forms : List (List ℕ)
forms = codes "-olas" ∷ codes "-olaz" ∷ []

-- that chunks are copied
abbrev pub copying : List (List ℕ)
copying = codes "-copy_chunks" ∷ []

-- which record of a cell stays, other than the first
abbrev pub picks : List (List ℕ)
picks = codes "-lowest" ∷ codes "-highest" ∷ []

-- the ways to split a file
abbrev pub ways : List (List ℕ)
ways = codes "-split" ∷ codes "-by_classification" ∷ codes "-by_flightline" ∷ codes "-by_return" ∷ []

-- the first value, and the second, as numbers up to a bound
abbrev pub first_number : ℕ → List (List ℕ) → ℕ
first_number most words = number_or_zero most (word_at words 0)

abbrev pub second_number : ℕ → List (List ℕ) → ℕ
second_number most words = number_or_zero most (word_at words 1)

-- the value of a place as a signed number
abbrev pub shift_at : ℕ → List (List ℕ) → ℤ
shift_at place words = unwrap_or (signed_in (word_at words place)) (pos 0)

-- the bits of a list of numbers up to a bound
abbrev pub mask_of : ℕ → List (List ℕ) → ℕ
mask_of most words =
    fold (λ mask word. bit_or mask (2 ^ number_or_zero most word)) 0 (take (values_of (Several most) words) words)

-- the options
abbrev pub row_of : Flag → OptionRow
row_of Input = once (codes "-i") Name Setting
row_of Inputs =
    record { name = codes "-i"; values = Name; rivals = codes "-i" ∷ []; before = 31; means = Setting }
row_of Output = once (codes "-o") Name Setting
row_of ChunkSize =
    one_of (codes "-chunk_size" ∷ copying) (codes "-chunk_size") (Number MIN_CHUNK_POINTS MAX_CHUNK_POINTS)
row_of Cores = once (codes "-cores") (Number 1 8) Setting
row_of Olas = one_of (forms ++ copying) (codes "-olas") Nothing
row_of Olaz = one_of forms (codes "-olaz") Nothing
row_of CopyChunks = one_of (copying ++ codes "-olas" ∷ codes "-chunk_size" ∷ []) (codes "-copy_chunks") Nothing
row_of StartAtPoint = once (codes "-start_at_point") (Number 0 4294967295) Setting
row_of StopAtPoint = once (codes "-stop_at_point") (Number 0 4294967295) Setting
row_of KeepClass = once (codes "-keep_class") (Several 31) (Filters (λ words. Classes (mask_of 31 words)))
row_of DropClass = once (codes "-drop_class") (Several 31) (Filters (λ words. DropClasses (mask_of 31 words)))
row_of KeepReturn = once (codes "-keep_return") (Several 7) (Filters (λ words. Returns (mask_of 7 words)))
row_of DropReturn = once (codes "-drop_return") (Several 7) (Filters (λ words. DropReturns (mask_of 7 words)))
row_of KeepFirst = once (codes "-keep_first") Nothing (Filters (λ words. First))
row_of KeepLast = once (codes "-keep_last") Nothing (Filters (λ words. Last))
row_of KeepIntensity =
    once (codes "-keep_intensity") (Bounds 65535)
    (Filters (λ words. Intensity (first_number 65535 words) (second_number 65535 words)))
row_of DropIntensityBelow =
    once (codes "-drop_intensity_below") (Number 0 65535) (Filters (λ words. NotBelow (first_number 65535 words)))
row_of DropIntensityAbove =
    once (codes "-drop_intensity_above") (Number 0 65535) (Filters (λ words. NotAbove (first_number 65535 words)))
row_of TranslateRawXyz =
    once (codes "-translate_raw_xyz") (Signed 3)
    (Changes (λ words. Translate (shift_at 0 words) (shift_at 1 words) (shift_at 2 words)))
row_of TranslateRawX =
    once (codes "-translate_raw_x") (Signed 1) (Changes (λ words. Translate (shift_at 0 words) (pos 0) (pos 0)))
row_of TranslateRawY =
    once (codes "-translate_raw_y") (Signed 1) (Changes (λ words. Translate (pos 0) (shift_at 0 words) (pos 0)))
row_of TranslateRawZ =
    once (codes "-translate_raw_z") (Signed 1) (Changes (λ words. Translate (pos 0) (pos 0) (shift_at 0 words)))
row_of SetClassification =
    once (codes "-set_classification") (Number 0 31) (Changes (λ words. SetClass (first_number 31 words)))
row_of SetUserData = once (codes "-set_user_data") (Number 0 255) (Changes (λ words. SetUser (first_number 255 words)))
row_of SetPointSource =
    once (codes "-set_point_source") (Number 0 65535) (Changes (λ words. SetSource (first_number 65535 words)))
row_of ThinRaw = once (codes "-thin_raw") (Number 1 2147483647) Setting
row_of Lowest = one_of picks (codes "-lowest") Nothing
row_of Highest = one_of picks (codes "-highest") Nothing
row_of DropRepeated = once (codes "-drop_repeated") Nothing Setting
row_of Tally = record { name = codes "-tally"; values = Tap; rivals = []; before = 0; means = TallyNames }
row_of Split = one_of ways (codes "-split") (Number 1 4294967295)
row_of ByClassification = one_of ways (codes "-by_classification") Nothing
row_of ByFlightline = one_of ways (codes "-by_flightline") Nothing
row_of ByReturn = one_of ways (codes "-by_return") Nothing
row_of PackedOutput = once (codes "-z") Name Setting
row_of Points = once (codes "-points") (Number 0 10000000) Setting
row_of Seed = once (codes "-seed") (Number 0 4294967295) Setting
row_of Format = once (codes "-format") (Number 0 3) Setting
row_of Extra = once (codes "-extra") (Number 0 192) Setting

-- A command: its word, its options, and which of them are required, each by its names, of which one has to be given.
pub record CommandRow : Type 0 where
  pub name : List ℕ
  pub options : List Flag
  pub required : List (List (List ℕ))

-- an input and an output are required
abbrev pub input_and_output : List (List (List ℕ))
input_and_output = (codes "-i" ∷ []) ∷ (codes "-o" ∷ []) ∷ []

-- the commands
abbrev pub command_row : Tool → CommandRow
command_row Laszip =
    record { name = codes "laszip"; options = Input ∷ Output ∷ ChunkSize ∷ Cores ∷ []; required = input_and_output }
command_row Las2las = record {
  name = codes "las2las";
  options =
      Input ∷ Output ∷ ChunkSize ∷ Cores ∷ Olas ∷ Olaz ∷ StartAtPoint ∷ StopAtPoint
      ∷ KeepClass ∷ DropClass ∷ KeepReturn ∷ DropReturn ∷ KeepFirst ∷ KeepLast
      ∷ KeepIntensity ∷ DropIntensityBelow ∷ DropIntensityAbove
      ∷ TranslateRawXyz ∷ TranslateRawX ∷ TranslateRawY ∷ TranslateRawZ
      ∷ SetClassification ∷ SetUserData ∷ SetPointSource
      ∷ ThinRaw ∷ Lowest ∷ Highest ∷ DropRepeated ∷ Tally ∷ [];
  required = input_and_output;
}
command_row Lasinfo =
    record { name = codes "lasinfo"; options = Input ∷ Tally ∷ Cores ∷ []; required = (codes "-i" ∷ []) ∷ [] }
command_row Lassplit = record {
  name = codes "lassplit";
  options = Input ∷ Output ∷ Split ∷ ByClassification ∷ ByFlightline ∷ ByReturn ∷ Cores ∷ [];
  required = (codes "-i" ∷ []) ∷ (codes "-o" ∷ []) ∷ ways ∷ [];
}
command_row Lasmerge = record {
  name = codes "lasmerge";
  options = Inputs ∷ Output ∷ Olas ∷ Olaz ∷ CopyChunks ∷ ChunkSize ∷ Cores ∷ [];
  required = input_and_output;
}
command_row Make = record {
  name = codes "make";
  options = Output ∷ PackedOutput ∷ Points ∷ Seed ∷ Format ∷ Extra ∷ ChunkSize ∷ Cores ∷ [];
  required = (codes "-o" ∷ []) ∷ (codes "-z" ∷ []) ∷ (codes "-points" ∷ []) ∷ (codes "-seed" ∷ []) ∷ [];
}

-- the options of a command
abbrev pub options_of : Tool → List Flag
options_of tool = (command_row tool).options

-- the command of a name
abbrev pub tool_named : List ℕ → Option Tool
tool_named word =
    find (λ tool. bytes_eq word (command_row tool).name)
    (Laszip ∷ Las2las ∷ Lasinfo ∷ Lassplit ∷ Lasmerge ∷ Make ∷ [])

-- the option of a command that has a name
abbrev pub flag_named : Tool → List ℕ → Option Flag
flag_named tool word = find (λ flag. bytes_eq word (row_of flag).name) (options_of tool)
