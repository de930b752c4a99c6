-- How records go into parts: the writers of the parts, what they stand for, and what is left if a call fails.
use Rattle.std.specs.Prelude.{◌≡◌, ℕ, ◌+◌, ◌*◌, ◌<◌, ◌≤◌, ◌^◌, ◌==◌, ◌||◌, Bool, true, false, List, []}
use Rattle.std.specs.Prelude.{◌∷◌, ◌++◌, length, map, drop, take, slice_index_or, All, Option, Some, string_bytes}
use Rattle.std.specs.List.{concat}
use Rattle.las_header.specs.declared.refusal.Refusal.{Refusal}
use Rattle.las_header.specs.declared.refusal.Refusal.TheVariants.{TooManyParts}
use Rattle.las_header.specs.declared.limits.TheConstants.{POINT_RECORD}
use Rattle.las_header.specs.Fields.{is_packed, points_of, record_length_of}
use Rattle.las_header.specs.Heads.{HeadView}
use Rattle.las_header.specs.Plain.{plain_of}
use Rattle.las_header.specs.Vlrs.{laszip_vlrs_of}
use Rattle.las_filter.specs.declared.rule.Rule.{Rule}
use Rattle.las_outside.specs.Files.{FileMap}
use Rattle.las_outside.specs.Outside.{Outside, with_bytes}
use Rattle.laz_forms.specs.Outputs.{Output, front}
use Rattle.laz_file.specs.Copying.{EndsAfter, HoldFirst, records_read}
use Rattle.laz_reader.specs.Reading.{ReaderSeen}
use Rattle.laz_writer.specs.Writing.{Stands, WriterSeen}
use Rattle.las_split.specs.declared.limits.TheConstants.{MAX_PARTS}
use Rattle.las_split.specs.declared.part_names.PartNames.{PartNames}
use Rattle.las_split.specs.declared.splitter.Splitter.{Splitter}
use Rattle.las_split.specs.Files.{with_files}
use Rattle.las_split.specs.Outputs.{part_output_under}
use Rattle.las_split.specs.Parts.{numbers_of_parts, part, part_from}
use Rattle.las_split.specs.Splitting.{OpensTooMany}

-- a number is among some
abbrev pub is_among : ℕ → List ℕ → Bool
is_among k [] = false
is_among k (n ∷ ns) = (n == k) || is_among k ns

-- what is fixed while a file is split: how parts are named, their plain head, and the rule
pub record SplitTask : Type 0 where
  pub stem : List ℕ
  pub end : List ℕ
  pub head : List ℕ
  pub rule : Rule

abbrev pub split_task : PartNames → HeadView → Rule → SplitTask
split_task names head rule =
    record { stem = string_bytes names.stem; end = string_bytes names.end; head = head.bytes; rule = rule }

-- that of the records of a block
abbrev pub task_in : Splitter → SplitTask
task_in splitter = split_task splitter.names.now splitter.head.now splitter.rule.now

abbrev pub output_at : SplitTask → (number : ℕ) → Output
output_at task number = part_output_under task.stem task.end task.head number

-- the bytes of the records of a part
abbrev pub bytes_at : SplitTask → (records : List (List ℕ)) → (number : ℕ) → List ℕ
bytes_at task records number = concat (part task.rule records number)

-- the name of a part, and what its output holds with these bytes of records
abbrev pub standing : SplitTask → (bytes : ℕ → List ℕ) → (number : ℕ) → List ℕ × List ℕ
standing task bytes number = ((output_at task number).name, front (output_at task number) ++ bytes number)

-- The writer of a part stands for these bytes of records, wherever its output holds them. It has not failed, and may
-- take all records of the file.
pub record IsWriter (task : SplitTask) (number : ℕ) (writer : WriterSeen) (bytes : List ℕ) : Type 0 where
  pub stands : (outside : Outside)
      → Stands outside
      (with_bytes outside (output_at task number).name (front (output_at task number) ++ bytes)) writer
      (output_at task number) bytes
  pub sound : writer.failed ≡ false
  pub most : writer.most ≡ points_of task.head

-- each part has its writer
abbrev pub AreWriters : SplitTask → (bytes : ℕ → List ℕ) → (numbers : List ℕ) → List WriterSeen → Type 0
AreWriters task bytes [] [] = Unit {0}
AreWriters task bytes [] (w ∷ writers) = ⊥
AreWriters task bytes (n ∷ numbers) [] = ⊥
AreWriters task bytes (n ∷ numbers) (w ∷ writers) =
    IsWriter task n w (bytes n) × AreWriters task bytes numbers writers

-- The parts of some records were opened, and some of the records are in them: the files are as they were but for the
-- parts, and each part and its writer stand for its records.
pub record InParts (task : SplitTask) (was now : Option FileMap) (numbers : List ℕ) (writers : List WriterSeen)
    (opened written : List (List ℕ)) : Type 0 where
  pub numbers_are : numbers ≡ numbers_of_parts task.rule opened
  pub few : length numbers ≤ MAX_PARTS
  pub small : All (λ n. n < 2 ^ 32) numbers
  pub writers_are : AreWriters task (bytes_at task written) numbers writers
  pub held : now ≡ with_files was (map (standing task (bytes_at task written)) numbers)
  pub sized : length (concat written) ≡ record_length_of task.head * length written

-- the bytes of the records that have a number, of those of a block after some records
abbrev pub part_bytes_of : SplitTask → (records block : List (List ℕ)) → (number : ℕ) → List ℕ
part_bytes_of task records block number = concat (part_from task.rule (length records) block number)

-- The records of a block after some records are gathered: for each part, the bytes of those that belong to it.
abbrev pub AreGathered : SplitTask → (numbers : List ℕ) → (texts : List (List ℕ)) → (records block : List (List ℕ)) → Type 0
AreGathered task numbers texts records block = texts ≡ map (part_bytes_of task records block) numbers

-- A record was sorted after others of its block, or it opens one part too many.
abbrev pub SortsPoint : SplitTask → (was now : Option FileMap) → (numbers : List ℕ) → List WriterSeen
    → (texts : List (List ℕ)) → (records block : List (List ℕ)) → (point : List ℕ) → (all : Bool) → Type 0
SortsPoint task was now numbers writers texts records block point true =
    InParts task was now numbers writers (records ++ (block ++ point ∷ [])) records
    × AreGathered task numbers texts records (block ++ point ∷ [])
SortsPoint task was now numbers writers texts records block point false =
    InParts task was now numbers writers (records ++ block) records
    × AreGathered task numbers texts records block × OpensTooMany task.rule (records ++ block) point

-- The first of the records of a block were sorted: all of them, or those before one that opens one part too many.
pub record SortsBlock (task : SplitTask) (was now : Option FileMap) (numbers : List ℕ) (writers : List WriterSeen)
    (texts records block : List (List ℕ)) (taken : ℕ) : Type 0 where
  pub within : taken ≤ length block
  pub parts : InParts task was now numbers writers (records ++ take taken block) records
  pub gathered : AreGathered task numbers texts records (take taken block)
  pub ends : taken < length block → OpensTooMany task.rule (records ++ take taken block) (slice_index_or block taken [])

-- There is room for some records and a block after them, in each part.
pub record PartsHaveRoom (task : SplitTask) (size : ℕ) (index length_of_block : ℕ) : Type 0 where
  pub size_is : size ≡ record_length_of task.head
  pub some : POINT_RECORD ≤ size
  pub room : size * index + length_of_block ≤ size * points_of task.head
  pub few : points_of task.head < 2 ^ 32

-- The records of a block are whole, and there is room for them after some records.
pub record FitAfter (task : SplitTask) (records block : List (List ℕ)) : Type 0 where
  pub whole : All (λ point. length point ≡ record_length_of task.head) block
  pub room : length records + length block ≤ points_of task.head

-- the plain head that the parts have: that of the file without its laszip VLR, or that of the file
pub record IsPlainFor (head plain : HeadView) : Type 0 where
  pub bytes : plain.bytes ≡ plain_of head.bytes
  pub plain_is : is_packed plain.bytes ≡ false
  pub none : laszip_vlrs_of plain.bytes ≡ []
  pub size : record_length_of plain.bytes ≡ record_length_of head.bytes
  pub points : points_of plain.bytes ≡ points_of head.bytes

-- Some records, and those of a block after them, are in parts: all of those, or those before one that opens one part
-- too many.
abbrev pub TakesBlock : SplitTask → (was now : Option FileMap) → (numbers : List ℕ) → List WriterSeen
    → (records block : List (List ℕ)) → (all : Bool) → Type 0
TakesBlock task was now numbers writers records block true =
    InParts task was now numbers writers (records ++ block) (records ++ block)
TakesBlock task was now numbers writers records block false =
    (first : List (List ℕ)) × (point : List ℕ) × (rest : List (List ℕ)) × (block ≡ first ++ point ∷ rest)
    × InParts task was now numbers writers (records ++ first) (records ++ first)
    × OpensTooMany task.rule (records ++ first) point

-- The records of a block were pushed into the first of the parts, and not yet into the others.
pub record PushedSo (task : SplitTask) (was now : Option FileMap) (numbers : List ℕ) (writers : List WriterSeen) (place : ℕ)
    (records block : List (List ℕ)) : Type 0 where
  pub numbers_are : numbers ≡ numbers_of_parts task.rule (records ++ block)
  pub few : length numbers ≤ MAX_PARTS
  pub small : All (λ n. n < 2 ^ 32) numbers
  pub same : length writers ≡ length numbers
  pub before : AreWriters task (bytes_at task (records ++ block)) (take place numbers) (take place writers)
  pub after : AreWriters task (bytes_at task records) (drop place numbers) (drop place writers)
  pub held : now ≡ with_files was (map (standing task (bytes_at task (records ++ block))) (take place numbers)
      ++ map (standing task (bytes_at task records)) (drop place numbers))
  pub sized : length (concat records) ≡ record_length_of task.head * length records

-- the names of these parts with a prefix each of what their outputs hold with all records
abbrev pub ArePrefixes : SplitTask → (bytes : ℕ → List ℕ) → (numbers : List ℕ) → List (List ℕ × List ℕ) → Type 0
ArePrefixes task bytes [] [] = Unit {0}
ArePrefixes task bytes [] (p ∷ ps) = ⊥
ArePrefixes task bytes (n ∷ numbers) [] = ⊥
ArePrefixes task bytes (n ∷ numbers) (p ∷ ps) =
    ((p.0 ≡ (output_at task n).name)
    × ((k : ℕ) × (p.1 ≡ take k (front (output_at task n) ++ bytes n))))
    × ArePrefixes task bytes numbers ps

-- What is left if a call fails while records go into parts: the first of the parts, each a prefix.
pub record LeavesPrefixes (task : SplitTask) (was now : Option FileMap) (records : List (List ℕ)) : Type 0 where
  pub numbers : List ℕ
  pub others : List ℕ
  pub split : numbers_of_parts task.rule records ≡ numbers ++ others
  pub few : length (numbers_of_parts task.rule records) ≤ MAX_PARTS
  pub texts : List (List ℕ × List ℕ)
  pub are : ArePrefixes task (bytes_at task records) numbers texts
  pub held : now ≡ with_files was texts

-- the same after some records, for the first of a block
abbrev pub LeavesBlock : SplitTask → (was now : Option FileMap) → (records block : List (List ℕ)) → Type 0
LeavesBlock task was now records block =
    (first : List (List ℕ)) × (rest : List (List ℕ)) × (block ≡ first ++ rest)
    × LeavesPrefixes task was now (records ++ first)

-- The records end after n pieces: as those of the reader do, or with one part too many.
abbrev pub EndsSplitting : (held : Option FileMap) → ReaderSeen → (n : ℕ) → (all : Bool) → Option Refusal → Type 0
EndsSplitting held reader n true end = EndsAfter held reader n end
EndsSplitting held reader n false end = end ≡ Some TooManyParts

-- ---- all records of a reader, of whose pieces the first n hold these blocks

-- They are taken into parts, which then have these numbers and writers, up to this end.
abbrev pub SplitsAll : SplitTask → ReaderSeen → (held now : Option FileMap) → (numbers : List ℕ) → List WriterSeen
    → Option Refusal → Type 0
SplitsAll task reader held now numbers writers end =
    (n : ℕ) × (blocks : List (List ℕ)) × (all : Bool) × HoldFirst held reader n blocks
    × TakesBlock task held now numbers writers [] (records_read reader blocks) all
    × EndsSplitting held reader n all end

-- What is left if a call fails.
abbrev pub LeavesAll : SplitTask → ReaderSeen → (held now : Option FileMap) → Type 0
LeavesAll task reader held now =
    (n : ℕ) × (blocks : List (List ℕ)) × HoldFirst held reader n blocks
    × LeavesBlock task held now [] (records_read reader blocks)

-- There was a record.
abbrev pub HadRecords : ReaderSeen → (held : Option FileMap) → Type 0
HadRecords reader held =
    (n : ℕ) × (blocks : List (List ℕ)) × HoldFirst held reader n blocks
    × (1 ≤ length (records_read reader blocks))
