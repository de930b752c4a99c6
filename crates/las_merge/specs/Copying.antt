-- How the records of inputs are copied into an output, one input after another.
use Rattle.std.specs.Prelude.{◌≡◌, ◌⊎◌, ◌+◌, ◌*◌, ◌<◌, ◌≤◌, ℕ, true, false, List, [], ◌∷◌, ◌++◌, length, Option, Some}
use Rattle.std.specs.Prelude.{None}
use Rattle.std.specs.List.{concat}
use Rattle.las_header.specs.declared.refusal.Refusal.{Refusal}
use Rattle.las_header.specs.declared.refusal.Refusal.TheVariants.{BadChunk}
use Rattle.las_header.specs.Fields.{points_of, record_length_of}
use Rattle.las_header.specs.Plain.{plain_of}
use Rattle.las_outside.specs.Faults.{Rose}
use Rattle.las_outside.specs.Files.{FileMap, WhereKnown, with_file}
use Rattle.las_outside.specs.Outside.{Outside}
use Rattle.laz_forms.specs.declared.fault.Fault.TheVariants as fault
use Rattle.laz_file.specs.Copying.{AreOnlyRecords, LeavesPart, LeavesUnfinished}
use Rattle.laz_forms.specs.Outputs.{Output, stopped}
use Rattle.laz_forms.specs.Records.{AreRecordsOf}
use Rattle.laz_writer.specs.Writing.{WriterSeen}
use Rattle.las_merge.specs.declared.copying.BadInput.{BadInput}
use Rattle.las_merge.specs.declared.fault.MergeFault.{MergeFault}
use Rattle.las_merge.specs.declared.fault.MergeFault.TheVariants.{At, Unequal, TooManyPoints, TooManyChunks, Write}
use Rattle.las_merge.specs.declared.fault.MergeFault.TheVariants.{Memory}
use Rattle.las_merge.specs.Inputs.{item_at}
use Rattle.las_merge.specs.Opening.{InputSeen}

-- These are the records of a file up to its first bad chunk, if there is one, and no others are.
abbrev pub OnlyRecords : (file records : List ℕ) → (bad : Option ℕ) → Type 0
OnlyRecords file records bad = (blocks : List (List ℕ)) × AreOnlyRecords file blocks bad × (records ≡ concat blocks)

-- The records of a file begin with these.
abbrev pub BeginsWith : (file records : List ℕ) → Type 0
BeginsWith file records =
    (blocks : List (List ℕ)) (bad : Option ℕ) → AreRecordsOf file blocks bad
    → (more : List ℕ) × (concat blocks ≡ records ++ more)

-- What was copied of a file: all of its records, or those before its first bad chunk.
abbrev pub CopiesTo : Option FileMap → (name records : List ℕ) → Option Refusal → Type 0
CopiesTo held name records None = WhereKnown held name (λ file. OnlyRecords file records None)
CopiesTo held name records (Some cause) =
    (chunk : ℕ) × (cause ≡ BadChunk chunk) × WhereKnown held name (λ file. OnlyRecords file records (Some chunk))

-- Of each of the first inputs all records were copied.
abbrev pub AreCopied : Option FileMap → (names parts : List (List ℕ)) → Type 0
AreCopied held names [] = Unit {0}
AreCopied held [] (part ∷ parts) = ⊥
AreCopied held (name ∷ names) (part ∷ parts) = CopiesTo held name part None × AreCopied held names parts

-- All records of the inputs before this one were copied, and these of it.
pub record CopiesInto (held : Option FileMap) (names : List (List ℕ)) (number : ℕ) (records : List ℕ)
    (P : (name part : List ℕ) → Type 0) : Type 0 where
  pub parts : List (List ℕ)
  pub part : List ℕ
  pub copied : AreCopied held names parts
  pub number_is : length parts ≡ number
  pub within : number < length names
  pub here : P (item_at names number) part
  pub records_are : records ≡ concat parts ++ part

-- All records of all inputs were copied.
pub record CopiesAll (held : Option FileMap) (names : List (List ℕ)) (records : List ℕ) : Type 0 where
  pub parts : List (List ℕ)
  pub copied : AreCopied held names parts
  pub all : length parts ≡ length names
  pub records_are : records ≡ concat parts

-- Copying ended: with all records of all inputs, or with those before the first bad chunk.
abbrev pub CopiesUpTo : Option FileMap → (names : List (List ℕ)) → (records : List ℕ) → Option BadInput → Type 0
CopiesUpTo held names records None = CopiesAll held names records
CopiesUpTo held names records (Some bad) =
    CopiesInto held names bad.input records (λ name part. CopiesTo held name part (Some bad.cause))

-- Copying failed after these records, of some input.
abbrev pub CopiesPart : Option FileMap → (names : List (List ℕ)) → (number : ℕ) → (records : List ℕ) → Type 0
CopiesPart held names number records =
    CopiesInto held names number records (λ name part. WhereKnown held name (λ file. BeginsWith file part))

-- A writer has not failed, and has room for the records of an input, which are as long as its own.
pub record HasRoomForInput (input : InputSeen) (writer : WriterSeen) : Type 0 where
  pub sound : writer.failed ≡ false
  pub size : writer.size ≡ record_length_of input.head.bytes
  pub room : writer.taken + writer.size * points_of input.head.bytes ≤ writer.size * writer.most

-- A fault while inputs are copied has its cause, and is of an input that there is or of the output. An input that was
-- opened is refused when it is opened again, or differs then, only if it is not known what the files hold.
abbrev pub IsFaultOf : (old new : Outside) → (number : ℕ) → MergeFault → Type 0
IsFaultOf old new number (At input (fault.Refused cause)) = (input ≡ number) × (old.held ≡ None)
IsFaultOf old new number (At input fault.Read) = (input ≡ number) × Rose old.read_faults new.read_faults
IsFaultOf old new number (At input fault.Write) = ⊥
IsFaultOf old new number (At input fault.Memory) = input ≡ number
IsFaultOf old new number (Unequal input field) = (input ≡ number) × (old.held ≡ None)
IsFaultOf old new number TooManyPoints = ⊥
IsFaultOf old new number TooManyChunks = ⊥
IsFaultOf old new number Write = Rose old.write_faults new.write_faults
IsFaultOf old new number Memory = Unit {0}

-- While copying some input there was a fault: a prefix of the output is left.
abbrev pub FailsCopying : (old new : Outside) → (names : List (List ℕ)) → WriterSeen → MergeFault → Type 0
FailsCopying old new names writer cause =
    (number : ℕ) × (records : List ℕ) × CopiesPart old.held names number records × IsFaultOf old new number cause
    × LeavesPart old new writer records

-- ---- what is left of the output

-- The output was left unfinished after some records: of some input, for all that may come after them, or of all inputs.
abbrev pub LeavesMid : (known was now : Option FileMap) → (names : List (List ℕ)) → Output → Type 0
LeavesMid known was now names out =
    ((number : ℕ) × (records : List ℕ) × CopiesPart known names number records
    × ((more : List ℕ) → LeavesUnfinished out (records ++ more) was now))
    ⊎ ((records : List ℕ) × CopiesAll known names records × LeavesUnfinished out records was now)

-- How merging ends with a fault after the output was begun.
abbrev pub EndsMerging : (known was : Option FileMap) → (old now : Outside) → (names : List (List ℕ)) → Output
    → MergeFault → Type 0
EndsMerging known was old now names out (At number (fault.Refused cause)) =
    ((records : List ℕ) × CopiesInto known names number records (λ name part. CopiesTo known name part (Some cause))
    × (now.held ≡ with_file was out.name (stopped out records)))
    ⊎ ((number < length names) × (known ≡ None) × LeavesMid known was now.held names out)
EndsMerging known was old now names out (At number fault.Read) =
    (number < length names) × Rose old.read_faults now.read_faults × LeavesMid known was now.held names out
EndsMerging known was old now names out (At number fault.Write) = ⊥
EndsMerging known was old now names out (At number fault.Memory) =
    (number < length names) × LeavesMid known was now.held names out
EndsMerging known was old now names out (Unequal number field) =
    (number < length names) × (known ≡ None) × LeavesMid known was now.held names out
EndsMerging known was old now names out TooManyPoints = ⊥
EndsMerging known was old now names out TooManyChunks = ⊥
EndsMerging known was old now names out Write =
    Rose old.write_faults now.write_faults × LeavesMid known was now.held names out
EndsMerging known was old now names out Memory = LeavesMid known was now.held names out

-- ---- how the output is begun

-- an output under a plain head whose records are counted, and one under any head
abbrev pub output_with : (name head : List ℕ) → (chunk : Option ℕ) → Output
output_with name head chunk = record { name = name; head = head; chunk = chunk; counted = true }

abbrev pub output_of_merge : (name head : List ℕ) → (chunk : Option ℕ) → Output
output_of_merge name head chunk = output_with name (plain_of head) chunk

-- Beginning an output failed: it is left unfinished, whatever its records.
abbrev pub FailsBeginning : (old new : Outside) → Output → MergeFault → Type 0
FailsBeginning old new out (At number cause) = ⊥
FailsBeginning old new out (Unequal number field) = ⊥
FailsBeginning old new out TooManyPoints = ⊥
FailsBeginning old new out TooManyChunks = ⊥
FailsBeginning old new out Write =
    Rose old.write_faults new.write_faults × ((records : List ℕ) → LeavesUnfinished out records old.held new.held)
FailsBeginning old new out Memory = (records : List ℕ) → LeavesUnfinished out records old.held new.held
