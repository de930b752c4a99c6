-- What converting the range of all places gives, and what it gives without thinning.
use Rattle.std.specs.Prelude.{◌↔◌, ℕ, List, take, Option, Some, None}
use Rattle.las_header.specs.declared.refusal.Refusal.{Refusal}
use Rattle.las_header.specs.declared.refusal.Refusal.TheVariants.{BadChunk, RawRange}
use Rattle.las_header.specs.Fields.{head_of}
use Rattle.las_filter.specs.Kept.{Steps, kept}
use Rattle.las_thin.specs.Kept.{kept_behind}
use Rattle.las_thin.specs.Sieving.{PicksFirst, Settings, all_pass}
use Rattle.laz_range.specs.Span.{IsBytes}
use Rattle.laz_forms.specs.Pieces.{ArePieces, Piece}
use Rattle.laz_forms.specs.Ranges.{Range, whole_range}
use Rattle.laz_forms.specs.Records.{AreRecordsOf, HoldBlocks}
use Rattle.laz_forms.specs.Refusing.{IsAcceptedFile}
use Rattle.las_convert.specs.Converting.{ConvertsOnce, ConvertsTo, Keeps, OnlyConverts}

-- a bad chunk as a refusal
abbrev pub bad_chunk : Option ℕ → Option Refusal
bad_chunk None = None
bad_chunk (Some i) = Some (BadChunk i)

-- a record out of range as a refusal
abbrev pub raw_record : Option ℕ → Option Refusal
raw_record None = None
raw_record (Some k) = Some (RawRange k)

-- If the first record of a cell stays, or all do, what is kept of the records of a file is what converting the range of
-- all places gives.
abbrev pub ConvertsAllRecords : Type 0
ConvertsAllRecords = (plan : Steps) (settings : Settings) (file records : List ℕ) (blocks : List (List ℕ))
    (bad : Option ℕ) → PicksFirst settings.pick → AreRecordsOf file blocks bad
    → Keeps (kept_behind plan settings) file blocks records None
    → ConvertsTo plan settings file (whole_range (head_of file)) records (bad_chunk bad)

-- So is what is kept of the first pieces of the file, if a record of them is refused.
abbrev pub ConvertsFirstRecords : Type 0
ConvertsFirstRecords = (plan : Steps) (settings : Settings) (file records : List ℕ) (pieces : List Piece) (number : ℕ)
    (blocks : List (List ℕ)) (k : ℕ) → PicksFirst settings.pick → ArePieces file pieces
    → HoldBlocks file (take number pieces) blocks → Keeps (kept_behind plan settings) file blocks records (Some k)
    → ConvertsTo plan settings file (whole_range (head_of file)) records (Some (RawRange k))

-- If the lowest or the highest stays, it is what is kept of all records of the file, also if one is refused.
abbrev pub ConvertsWholeFiles : Type 0
ConvertsWholeFiles = (plan : Steps) (settings : Settings) (file records : List ℕ) (blocks : List (List ℕ))
    (raw_range : Option ℕ) → (PicksFirst settings.pick → ⊥) → AreRecordsOf file blocks None
    → Keeps (kept_behind plan settings) file blocks records raw_range
    → ConvertsTo plan settings file (whole_range (head_of file)) records (raw_record raw_range)

-- Without thinning, converting gives what the plan keeps.
abbrev pub ConvertsAsThePlan : Type 0
ConvertsAsThePlan = (plan : Steps) (file : List ℕ) (range : Range) (records : List ℕ) (refusal : Option Refusal)
    → ConvertsTo plan all_pass file range records refusal ↔ ConvertsOnce (kept plan) file range records refusal

-- Whatever the bytes of an accepted file are, what converting a range of its records gives is the only thing that it
-- can give.
abbrev pub ConvertsInOneWay : Type 0
ConvertsInOneWay = (plan : Steps) (settings : Settings) (file : List ℕ) (range : Range) (records : List ℕ)
    (refusal : Option Refusal) → IsAcceptedFile file → IsBytes file
    → ConvertsTo plan settings file range records refusal → OnlyConverts plan settings file range records refusal

-- Converting a range of an accepted file gives something.
abbrev pub ConvertsToSomething : Type 0
ConvertsToSomething = (plan : Steps) (settings : Settings) (file : List ℕ) (range : Range) → IsAcceptedFile file
    → (records : List ℕ) × (refusal : Option Refusal) × ConvertsTo plan settings file range records refusal
