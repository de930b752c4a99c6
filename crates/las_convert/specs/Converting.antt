-- What converting a range of a file's records gives: those that stay of it when it is filtered and thinned, changed,
-- under the plain head with counts of their own.
use Rattle.std.specs.Prelude.{◌≡◌, ℕ, Bool, true, false, if◌then◌else◌, List, [], ◌∷◌, ◌++◌, length, map, take}
use Rattle.std.specs.Prelude.{Option, Some, None, Err}
use Rattle.std.specs.List.{concat}
use Rattle.las_header.specs.declared.refusal.Refusal.{Refusal}
use Rattle.las_header.specs.declared.refusal.Refusal.TheVariants.{BadChunk, RawRange}
use Rattle.las_header.specs.Fields.{head_of, record_length_of}
use Rattle.las_header.specs.Plain.{plain_head, plain_of, cut_all}
use Rattle.las_filter.specs.Kept.{Kept, Steps}
use Rattle.las_info.specs.Tallies.{TapSeen, shown_all}
use Rattle.las_outside.specs.Faults.{Rose}
use Rattle.las_outside.specs.Files.{FileMap, WhereKnown, with_file}
use Rattle.las_outside.specs.Outside.{Outside}
use Rattle.las_thin.specs.declared.pick.Pick.{Pick}
use Rattle.las_thin.specs.declared.pick.Pick.TheVariants.{First, Lowest, Highest}
use Rattle.las_thin.specs.Kept.{kept_behind, passing}
use Rattle.las_thin.specs.Placed.{Placed}
use Rattle.las_thin.specs.Sieving.{Settings, Sieving}
use Rattle.las_thin.specs.Sieving as sieve
use Rattle.laz_forms.specs.declared.fault.Fault.{Fault}
use Rattle.laz_forms.specs.declared.fault.Fault.TheVariants.{Refused, Read, Write, Memory}
use Rattle.laz_file.specs.Copying.{AreOnlyRecordsIn, HoldFirst, LeavesUnfinished, records_read}
use Rattle.laz_file.specs.Endings.{EndsMaking, Product, output_file}
use Rattle.laz_forms.specs.Outputs.{Output, finished, records_after, stopped}
use Rattle.laz_forms.specs.Pieces.{ArePieces, Piece}
use Rattle.laz_reader.specs.Reading.{ReaderSeen}
use Rattle.laz_forms.specs.Ranges.{Range, parts_of}
use Rattle.laz_forms.specs.Records.{AreRecordsIn, HoldBlocks}
use Rattle.las_convert.specs.Adding.{Adds, EndsKeeping, Keeping}

-- the output: under the plain head of the file, and its records are counted
abbrev pub converted_output : (name file : List ℕ) → (chunk : Option ℕ) → Output
converted_output name file chunk = record { name = name; head = plain_head file; chunk = chunk; counted = true }

-- what is kept of the records in some blocks of a file
abbrev pub kept_in : Keeping → (file : List ℕ) → (blocks : List (List ℕ)) → Kept
kept_in keeping file blocks = keeping (records_after (head_of file) (concat blocks))

-- What is kept are these records, one after another, up to the one that is refused, if there is one.
pub record Keeps (keeping : Keeping) (file : List ℕ) (blocks : List (List ℕ)) (records : List ℕ) (raw_range : Option ℕ)
    : Type 0 where
  pub records_are : concat (kept_in keeping file blocks).records ≡ records
  pub raw_range_is : (kept_in keeping file blocks).raw_range ≡ raw_range

-- The first pieces that meet a range of a file hold these blocks of its records.
pub record AreFirstRecords (file : List ℕ) (range : Range) (blocks : List (List ℕ)) : Type 0 where
  pub pieces : List Piece
  pub are : ArePieces file pieces
  pub number : ℕ
  pub hold : HoldBlocks file (take number (parts_of file range pieces)) blocks

-- What is kept of a range of an accepted file that is read once, one record after another, and the refusal that ends
-- them, if there is one: the first bad chunk that meets the range, or the number of the first kept record with a
-- coordinate out of range, whichever comes first.
abbrev pub ConvertsOnce : Keeping → (file : List ℕ) → Range → (records : List ℕ) → Option Refusal → Type 0
ConvertsOnce keeping file range records None =
    (blocks : List (List ℕ)) × AreRecordsIn file range blocks None × Keeps keeping file blocks records None
ConvertsOnce keeping file range records (Some (BadChunk i)) =
    (blocks : List (List ℕ)) × AreRecordsIn file range blocks (Some i) × Keeps keeping file blocks records None
ConvertsOnce keeping file range records (Some (RawRange k)) =
    (blocks : List (List ℕ)) × AreFirstRecords file range blocks × Keeps keeping file blocks records (Some k)
ConvertsOnce keeping file range records (Some cause) = ⊥

-- The same of a range that is read twice: what is kept is said of all of its records, and a bad chunk comes first. Then
-- nothing is kept.
abbrev pub ConvertsTwice : Keeping → (file : List ℕ) → Range → (records : List ℕ) → Option Refusal → Type 0
ConvertsTwice keeping file range records None =
    (blocks : List (List ℕ)) × AreRecordsIn file range blocks None × Keeps keeping file blocks records None
ConvertsTwice keeping file range records (Some (BadChunk i)) =
    (blocks : List (List ℕ)) × AreRecordsIn file range blocks (Some i) × (records ≡ [])
ConvertsTwice keeping file range records (Some (RawRange k)) =
    (blocks : List (List ℕ)) × AreRecordsIn file range blocks None × Keeps keeping file blocks records (Some k)
ConvertsTwice keeping file range records (Some cause) = ⊥

-- the lowest and the highest are known only when all records were read
abbrev pub ConvertsBy : Pick → Keeping → (file : List ℕ) → Range → (records : List ℕ) → Option Refusal → Type 0
ConvertsBy First = ConvertsOnce
ConvertsBy Lowest = ConvertsTwice
ConvertsBy Highest = ConvertsTwice

-- The records that stay of a range of an accepted file when it is filtered and thinned, changed, one after another, and
-- the refusal that ends them, if there is one.
abbrev pub ConvertsTo : Steps → Settings → (file : List ℕ) → Range → (records : List ℕ) → Option Refusal → Type 0
ConvertsTo plan settings = ConvertsBy settings.pick (kept_behind plan settings)

-- These are the records and the refusal, and no others are.
pub record OnlyConverts (plan : Steps) (settings : Settings) (file : List ℕ) (range : Range) (records : List ℕ)
    (refusal : Option Refusal) : Type 0 where
  pub are : ConvertsTo plan settings file range records refusal
  pub only : (others : List ℕ) (other : Option Refusal) → ConvertsTo plan settings file range others other
      → (others ≡ records) × (other ≡ refusal)

-- whether there is an output: not if the first of two readings finds a bad chunk
abbrev pub has_output : Pick → Option Refusal → Bool
has_output First refusal = true
has_output Lowest (Some (BadChunk i)) = false
has_output Lowest refusal = true
has_output Highest (Some (BadChunk i)) = false
has_output Highest refusal = true

-- If the lowest or the highest stay, these are all records of the range that pass the filters.
abbrev pub AreLooked : Pick → Steps → (file : List ℕ) → Range → (looked : List Placed) → Type 0
AreLooked First plan file range looked = Unit {0}
AreLooked pick plan file range looked =
    (blocks : List (List ℕ)) × AreOnlyRecordsIn file range blocks None
    × (looked ≡ passing plan (records_after (head_of file) (concat blocks)))

-- A sieve is ready for the records of a range: it was asked for none, and if the lowest or the highest stay, it has
-- looked at all of them that pass the filters.
abbrev pub IsReady : (held : Option FileMap) → (name : List ℕ) → Steps → Range → Sieving → Type 0
IsReady held name plan range sieving =
    (looked : List Placed) × sieve.HasSifted looked [] sieving
    × WhereKnown held name (λ file. AreLooked sieving.settings.pick plan file range looked)

-- ---- what a conversion makes

-- what a conversion is asked for: a plan, how records are thinned, and a range
pub record Wanted : Type 0 where
  pub plan : Steps
  pub settings : Settings
  pub range : Range

abbrev pub wanted_of : Steps → Settings → Range → Wanted
wanted_of plan settings range = record { plan = plan; settings = settings; range = range }

-- It gives these records of a file, and this refusal or none.
abbrev pub Gives : Wanted → (file : List ℕ) → (records : List ℕ) → Option Refusal → Type 0
Gives wanted file records refusal = ConvertsTo wanted.plan wanted.settings file wanted.range records refusal

abbrev pub GivesOnly : Wanted → (file : List ℕ) → (records : List ℕ) → Option Refusal → Type 0
GivesOnly wanted file records refusal = OnlyConverts wanted.plan wanted.settings file wanted.range records refusal

-- One list of records is given of the file, up to this refusal, if there is one, and no other is.
abbrev pub GivesOne : Wanted → Option Refusal → (file : List ℕ) → Type 0
GivesOne wanted refusal file = (records : List ℕ) × GivesOnly wanted file records refusal

-- what is written of the records that are kept: one output of them, if there is one
abbrev pub writes_kept : Pick → Output → (records : List ℕ) → Option Refusal → Product
writes_kept pick out records refusal = record {
  files = if has_output pick refusal then output_file out records ∷ [] else [];
  refusal = refusal;
}

-- Converting a file writes the records that it gives, up to the refusal that ends them, if there is one.
abbrev pub Converts : Wanted → (output : List ℕ) → (chunk : Option ℕ) → (file : List ℕ) → Product → Type 0
Converts wanted output chunk file product =
    (records : List ℕ) × (refusal : Option Refusal) × Gives wanted file records refusal
    × (product ≡ writes_kept wanted.settings.pick (converted_output output file chunk) records refusal)

-- A first reading of two stops: converting the file then ends so, whatever its output.
abbrev pub StopsLooking : Wanted → (name : List ℕ) → (old now : Outside) → Fault → Type 0
StopsLooking wanted name old now fault = (output : List ℕ) (chunk : Option ℕ)
    → EndsMaking {T = Unit {0}} (Converts wanted output chunk) name old now (Err fault)

-- ---- how converting goes

-- the output of the records of a reader
abbrev pub output_of : ReaderSeen → (name : List ℕ) → (chunk : Option ℕ) → Output
output_of reader name chunk = record { name = name; head = plain_of reader.head.bytes; chunk = chunk; counted = true }

-- All records that a reader has left were converted into an output, it was finished, and the taps saw what is kept.
pub record FinishesKept (known was now : Option FileMap) (keeping : Keeping) (reader : ReaderSeen) (out : Output)
    (bytes : List ℕ) (taps seen : List TapSeen) : Type 0 where
  pub blocks : List (List ℕ)
  pub ones : List (List ℕ)
  pub hold : HoldFirst known reader (length reader.left) blocks
  pub adds : Adds keeping [] (records_read reader blocks) ones false
  pub now_is : now ≡ with_file was out.name (finished out (bytes ++ concat ones))
  pub shown : seen ≡ map (λ tap. shown_all tap (cut_all (record_length_of reader.head.bytes) (concat ones))) taps

-- The records before a refusal were converted into an output, and it was stopped.
pub record RefusesKept (known was now : Option FileMap) (keeping : Keeping) (reader : ReaderSeen) (out : Output)
    (bytes : List ℕ) (cause : Refusal) : Type 0 where
  pub n : ℕ
  pub blocks : List (List ℕ)
  pub ones : List (List ℕ)
  pub refused : Bool
  pub hold : HoldFirst known reader n blocks
  pub adds : Adds keeping [] (records_read reader blocks) ones refused
  pub ends : EndsKeeping known reader n (length ones) refused (Some cause)
  pub now_is : now ≡ with_file was out.name (stopped out (bytes ++ concat ones))

-- The output was left unfinished while these records were converted into it, for all that may be kept after them: none,
-- if they are all.
pub record LeavesConverting (known was now : Option FileMap) (keeping : Keeping) (reader : ReaderSeen) (out : Output)
    (bytes : List ℕ) : Type 0 where
  pub n : ℕ
  pub blocks : List (List ℕ)
  pub first : List (List ℕ)
  pub rest : List (List ℕ)
  pub ones : List (List ℕ)
  pub refused : Bool
  pub hold : HoldFirst known reader n blocks
  pub split : records_read reader blocks ≡ first ++ rest
  pub adds : Adds keeping [] first ones refused
  pub left : (more : List ℕ) → (n ≡ length reader.left → rest ≡ [] → more ≡ [])
      → LeavesUnfinished out (bytes ++ (concat ones ++ more)) was now

-- How converting ends with a fault.
abbrev pub EndsConverting : (known was : Option FileMap) → (old now : Outside) → Keeping → ReaderSeen → Output
    → (bytes : List ℕ) → Fault → Type 0
EndsConverting known was old now keeping reader out bytes (Refused cause) =
    RefusesKept known was now.held keeping reader out bytes cause
EndsConverting known was old now keeping reader out bytes Read =
    Rose old.read_faults now.read_faults × LeavesConverting known was now.held keeping reader out bytes
EndsConverting known was old now keeping reader out bytes Write =
    Rose old.write_faults now.write_faults × LeavesConverting known was now.held keeping reader out bytes
EndsConverting known was old now keeping reader out bytes Memory =
    LeavesConverting known was now.held keeping reader out bytes
