-- Whole files: records that go from a reader to a writer, what packs a plain file and what unpacks a packed one, and
-- what such calls leave.
use Rattle.std.specs.Prelude.{◌≡◌, ◌⊎◌, ℕ, ◌+◌, ◌*◌, ◌%◌, ◌≤◌, ◌<◌, false, List, [], ◌++◌, drop, length, take}
use Rattle.std.specs.Prelude.{Option, Some, None}
use Rattle.std.specs.List.{concat}
use Rattle.std.specs.Option.{option_map}
use Rattle.las_header.specs.declared.refusal.Refusal.{Refusal}
use Rattle.las_header.specs.declared.refusal.Refusal.TheVariants.{BadChunk}
use Rattle.las_header.specs.Fields.{point_offset_of, record_length_of}
use Rattle.las_header.specs.Plain.{plain_head, cut_all}
use Rattle.las_outside.specs.Drafts.{IsUnfinished}
use Rattle.las_outside.specs.Faults.{Rose}
use Rattle.las_outside.specs.Files.{FileMap, with_file}
use Rattle.las_outside.specs.Outside.{Outside}
use Rattle.laz_forms.specs.declared.fault.Fault.{Fault}
use Rattle.laz_forms.specs.declared.fault.Fault.TheVariants.{Refused, Read, Write, Memory}
use Rattle.laz_forms.specs.Outputs.{Output, draft_of, finished, patches_of, stopped}
use Rattle.laz_reader.specs.Reading.{ReaderSeen, records_in}
pub use Rattle.laz_reader.specs.Turns.{EndsAfter, HoldFirst}
use Rattle.laz_forms.specs.Ranges.{Range}
use Rattle.laz_forms.specs.Records.{AreRecordsIn, AreRecordsOf}
use Rattle.laz_writer.specs.Writing.{IsBegun, Stands, WriterSeen}
use Rattle.laz_file.specs.Endings.{Product, writes}

-- the packed form of a plain file as an output, and the plain form of a packed one: the records are not counted, since
-- the head has their counts
abbrev pub packed_output : (name file : List ℕ) → (chunk : ℕ) → Output
packed_output name file chunk = record { name = name; head = plain_head file; chunk = Some chunk; counted = false }

abbrev pub plain_output : (name file : List ℕ) → Output
plain_output name file = record { name = name; head = plain_head file; chunk = None; counted = false }

-- Packing a plain file writes its packed form, of all of its records.
abbrev pub Packs : (output : List ℕ) → (chunk : ℕ) → (file : List ℕ) → Product → Type 0
Packs output chunk file product =
    product ≡ writes (packed_output output file chunk) (drop (point_offset_of file) file) None

-- Unpacking a packed file writes its plain form, of its records up to the first bad chunk, if there is one.
abbrev pub Unpacks : (output : List ℕ) → (file : List ℕ) → Product → Type 0
Unpacks output file product =
    (blocks : List (List ℕ)) × (bad : Option ℕ) × AreRecordsOf file blocks bad
    × (product ≡ writes (plain_output output file) (concat blocks) (option_map BadChunk bad))

-- The files are as before, or the output is unfinished, with these records, and every other file is as before.
abbrev pub LeavesUnfinished : Output → (records : List ℕ) → (old new : Option FileMap) → Type 0
LeavesUnfinished out records old new =
    (new ≡ old)
    ⊎ ((left : List ℕ) × IsUnfinished (draft_of out records) (patches_of out records) left
    × (new ≡ with_file old out.name left))

-- The files are as before, or of the output a part of its draft stands, and not all of it, and every other file is as
-- before.
abbrev pub LeavesInPart : Output → (records : List ℕ) → (old new : Option FileMap) → Type 0
LeavesInPart out records old new =
    (new ≡ old)
    ⊎ ((n : ℕ) × (n < length (draft_of out records)) × (new ≡ with_file old out.name (take n (draft_of out records))))

-- The same of the output of a file, for its records up to the first bad chunk, if there is one.
abbrev pub LeavesRecords : Output → (file : List ℕ) → (old new : Option FileMap) → Type 0
LeavesRecords out file old new =
    (blocks : List (List ℕ)) (bad : Option ℕ) → AreRecordsOf file blocks bad
    → LeavesUnfinished out (concat blocks) old new

-- These are the records of a file, up to its first bad chunk if there is one, and no others are.
pub record AreOnlyRecords (file : List ℕ) (blocks : List (List ℕ)) (bad : Option ℕ) : Type 0 where
  pub are : AreRecordsOf file blocks bad
  pub only : (others : List (List ℕ)) (worse : Option ℕ) → AreRecordsOf file others worse
      → (others ≡ blocks) × (worse ≡ bad)

-- The same of the records of a range.
pub record AreOnlyRecordsIn (file : List ℕ) (range : Range) (blocks : List (List ℕ)) (bad : Option ℕ) : Type 0 where
  pub are : AreRecordsIn file range blocks bad
  pub only : (others : List (List ℕ)) (worse : Option ℕ) → AreRecordsIn file range others worse
      → (others ≡ blocks) × (worse ≡ bad)

-- ---- records that go from a reader to a writer

-- the outside as it was, but with the counts of reads that it has now
abbrev pub with_reads : (before now : Outside) → Outside
with_reads before now = record before { read_faults = now.read_faults; asked = now.asked }

-- The writer took these records after those that it stood for, and nothing else was written.
abbrev pub Takes : (old now : Outside) → (writer new : WriterSeen) → (records : List ℕ) → Type 0
Takes old now writer new records =
    (before : Outside) (out : Output) (bytes : List ℕ) → Stands before old writer out bytes
    → Stands (with_reads before now) now new out (bytes ++ records)

-- A call failed while the writer took these records: of the output a prefix is left of what stands if it is stopped
-- after them.
abbrev pub LeavesPart : (old now : Outside) → (writer : WriterSeen) → (records : List ℕ) → Type 0
LeavesPart old now writer records =
    (before : Outside) (out : Output) (bytes : List ℕ) → Stands before old writer out bytes
    → (n : ℕ) × (now.held ≡ with_file before.held out.name (take n (stopped out (bytes ++ records))))

-- A writer has taken these records, and can take more.
pub record HasTaken (writer new : WriterSeen) (old now : Outside) (records : List ℕ) : Type 0 where
  pub begun : IsBegun old writer
  pub sound : new.failed ≡ false
  pub most : new.most ≡ writer.most
  pub takes : Takes old now writer new records

-- A writer has room for a block after these records.
pub record HasRoomFor (writer : WriterSeen) (records block : List ℕ) : Type 0 where
  pub whole : length block % writer.size ≡ 0
  pub room : writer.taken + (length records + length block) ≤ writer.size * writer.most

-- The writer can take all records that a reader has left: it has not failed, records are as long, and there is room.
pub record CanTake (reader : ReaderSeen) (writer : WriterSeen) : Type 0 where
  pub sound : writer.failed ≡ false
  pub size : writer.size ≡ record_length_of reader.head.bytes
  pub room : writer.taken + writer.size * records_in reader.left ≤ writer.size * writer.most

-- All records that a reader has left were copied into an output, after these bytes of records, and it was finished.
abbrev pub Finishes : (known was now : Option FileMap) → ReaderSeen → Output → (bytes : List ℕ) → Type 0
Finishes known was now reader out bytes =
    (blocks : List (List ℕ)) × HoldFirst known reader (length reader.left) blocks
    × (now ≡ with_file was out.name (finished out (bytes ++ concat blocks)))

-- The records before a bad chunk were copied into an output, and it was stopped.
abbrev pub Refuses : (known was now : Option FileMap) → ReaderSeen → Output → (bytes : List ℕ) → Refusal → Type 0
Refuses known was now reader out bytes cause =
    (n : ℕ) × (blocks : List (List ℕ)) × HoldFirst known reader n blocks × EndsAfter known reader n (Some cause)
    × (now ≡ with_file was out.name (stopped out (bytes ++ concat blocks)))

-- The output was left unfinished while these records were copied into it, for all records that may come after them:
-- none, if they are all.
abbrev pub LeavesFirst : (known was now : Option FileMap) → ReaderSeen → Output → (bytes : List ℕ) → Type 0
LeavesFirst known was now reader out bytes =
    (n : ℕ) × (blocks : List (List ℕ)) × HoldFirst known reader n blocks
    × ((more : List ℕ) → (n ≡ length reader.left → more ≡ [])
    → LeavesUnfinished out (bytes ++ (concat blocks ++ more)) was now)

-- The output was left while these records were copied into it: a prefix is left of what stands if it is stopped then.
abbrev pub LeavesStopped : (known was now : Option FileMap) → ReaderSeen → Output → (bytes : List ℕ) → Type 0
LeavesStopped known was now reader out bytes =
    (n : ℕ) × (blocks : List (List ℕ)) × HoldFirst known reader n blocks
    × ((k : ℕ) × (now ≡ with_file was out.name (take k (stopped out (bytes ++ concat blocks)))))

-- How copying ends with a fault. After a read that failed nothing has been done to finish the output.
abbrev pub EndsCopying : (known was : Option FileMap) → (old now : Outside) → ReaderSeen → Output → (bytes : List ℕ)
    → Fault → Type 0
EndsCopying known was old now reader out bytes (Refused cause) = Refuses known was now.held reader out bytes cause
EndsCopying known was old now reader out bytes Read =
    Rose old.read_faults now.read_faults × LeavesStopped known was now.held reader out bytes
EndsCopying known was old now reader out bytes Write =
    Rose old.write_faults now.write_faults × LeavesFirst known was now.held reader out bytes
EndsCopying known was old now reader out bytes Memory = LeavesFirst known was now.held reader out bytes

-- The file of a name is as before, or holds a prefix of a text.
abbrev pub LeavesPrefix : (was now : Option FileMap) → (name text : List ℕ) → Type 0
LeavesPrefix was now name text = (now ≡ was) ⊎ ((n : ℕ) × (now ≡ with_file was name (take n text)))

-- the records in some blocks of a reader, each as its bytes
abbrev pub records_read : ReaderSeen → (blocks : List (List ℕ)) → List (List ℕ)
records_read reader blocks = cut_all (record_length_of reader.head.bytes) (concat blocks)
