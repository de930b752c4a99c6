-- What merging gives: the records of files, one file after another, under the plain head of the first, with counts of
-- their own.
use Rattle.std.specs.Prelude.{◌≡◌, ◌⊎◌, ℕ, ◌<◌, true, List, [], ◌∷◌, ◌++◌, length, take, Option, Some, None}
use Rattle.std.specs.List.{concat}
use Rattle.las_header.specs.declared.refusal.Refusal.{Refusal}
use Rattle.las_header.specs.declared.refusal.Refusal.TheVariants.{BadChunk}
use Rattle.las_header.specs.Plain.{plain_of}
use Rattle.las_outside.specs.Files.{FileMap, with_file}
use Rattle.laz_forms.specs.declared.fault.Fault.TheVariants as fault
use Rattle.laz_file.specs.Copying.{LeavesUnfinished}
use Rattle.laz_forms.specs.Outputs.{Output, finished, stopped}
use Rattle.laz_forms.specs.Records.{AreRecordsOf}
use Rattle.laz_copied.specs.Copied.{first_head}
use Rattle.las_merge.specs.declared.fault.MergeFault.TheVariants.{At}
use Rattle.las_merge.specs.Inputs.{CanMerge, IsKeptBy, item_at}

-- the output: under the plain head of the first file, and its records are counted
abbrev pub merged_output : (name : List ℕ) → (files : List (List ℕ)) → (chunk : Option ℕ) → Output
merged_output name files chunk =
    record { name = name; head = plain_of (first_head files); chunk = chunk; counted = true }

-- A file has no bad chunk, and these are its records, one after another.
abbrev pub HasRecords : (file records : List ℕ) → Type 0
HasRecords file records = (blocks : List (List ℕ)) × AreRecordsOf file blocks None × (records ≡ concat blocks)

-- each file has its records
abbrev pub HaveRecords : (files parts : List (List ℕ)) → Type 0
HaveRecords [] [] = Unit {0}
HaveRecords [] (part ∷ parts) = ⊥
HaveRecords (file ∷ files) [] = ⊥
HaveRecords (file ∷ files) (part ∷ parts) = HasRecords file part × HaveRecords files parts

-- a chunk that holds no records of its count: the number of the file, and that of the chunk in the file
pub record BadPlace : Type 0 where
  pub file : ℕ
  pub chunk : ℕ

-- The first bad chunk of the first file that has one is here, and these are all records before it.
pub record AreBefore (files : List (List ℕ)) (place : BadPlace) (records : List ℕ) : Type 0 where
  pub parts : List (List ℕ)
  pub blocks : List (List ℕ)
  pub within : place.file < length files
  pub earlier : HaveRecords (take place.file files) parts
  pub bad : AreRecordsOf (item_at files place.file) blocks (Some place.chunk)
  pub records_are : records ≡ concat parts ++ concat blocks

-- The records of accepted files, one after another: all of them, or those before the first bad chunk.
abbrev pub MergesTo : (files : List (List ℕ)) → (records : List ℕ) → Option BadPlace → Type 0
MergesTo files records None = (parts : List (List ℕ)) × HaveRecords files parts × (records ≡ concat parts)
MergesTo files records (Some place) = AreBefore files place records

-- These are the records and the bad chunk, and no others are.
pub record OnlyMerges (files : List (List ℕ)) (records : List ℕ) (bad : Option BadPlace) : Type 0 where
  pub are : MergesTo files records bad
  pub only : (others : List ℕ) (other : Option BadPlace) → MergesTo files others other
      → (others ≡ records) × (other ≡ bad)

-- The files are as before, or the output is unfinished, with the records that merging these files gives.
abbrev pub LeavesMerged : Output → (files : List (List ℕ)) → (old new : Option FileMap) → Type 0
LeavesMerged out files old new =
    (records : List ℕ) (bad : Option BadPlace) → MergesTo files records bad → LeavesUnfinished out records old new

-- ---- what stands after a merge

-- The inputs can be merged; the output has the records of all of them, and was finished.
abbrev pub IsMerged : FileMap → (names : List (List ℕ)) → (name : List ℕ) → (chunk : Option ℕ)
    → (was now : Option FileMap) → Type 0
IsMerged known names name chunk was now =
    (files : List (List ℕ)) × (records : List ℕ) × CanMerge known names files × OnlyMerges files records None
    × (now ≡ with_file was name (finished (merged_output name files chunk) records))

-- An input is refused for this cause: when it is opened, and then no file has changed, or for a bad chunk, and then the
-- output has the records before it, and was stopped.
abbrev pub IsRefusedIn : FileMap → (names : List (List ℕ)) → (name : List ℕ) → (chunk : Option ℕ) → (number : ℕ)
    → Refusal → (was now : Option FileMap) → Type 0
IsRefusedIn known names name chunk number cause was now =
    (IsKeptBy known names (At number (fault.Refused cause)) × (now ≡ was))
    ⊎ ((files : List (List ℕ)) × (records : List ℕ) × (bad : ℕ) × (cause ≡ BadChunk bad) × CanMerge known names files
    × OnlyMerges files records (Some (record { file = number; chunk = bad }))
    × (now ≡ with_file was name (stopped (merged_output name files chunk) records)))

-- The files are as before, or the inputs can be merged and the output is unfinished.
abbrev pub IsLeftIn : FileMap → (names : List (List ℕ)) → (name : List ℕ) → (chunk : Option ℕ)
    → (was now : Option FileMap) → Type 0
IsLeftIn known names name chunk was now =
    (now ≡ was)
    ⊎ ((files : List (List ℕ)) × CanMerge known names files
    × LeavesMerged (merged_output name files chunk) files was now)
