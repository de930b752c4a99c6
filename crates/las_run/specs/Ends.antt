-- What a run says of the cause for which it ended. Each tool says it of its own endings, and the clauses of the top
-- call follow from it for all tools.
use Rattle.std.specs.Prelude.{◌≡◌, ◌≢◌, ◌⊎◌, ℕ, ◌<◌, List, [], ◌∷◌, length, take, Some, Result, Ok, Err, Contains}
use Rattle.std.specs.Prelude.{slice_index_or}
use Rattle.las_outside.specs.Faults.{Rose}
use Rattle.las_outside.specs.Files.{FileMap, IsMissing, WhereKnown}
use Rattle.las_outside.specs.Outside.{Outside}
use Rattle.las_outside.specs.Sinks.{SinkView, with_fault, with_more}
use Rattle.las_words.specs.declared.command.Command.{Command}
use Rattle.las_words.specs.declared.command.WordFault.{WordFault}
use Rattle.las_words.specs.declared.command.WordFault.TheVariants as fault
use Rattle.las_words.specs.Asked.{Work, asked_by, lasmerge, make, reads, work_by}
use Rattle.las_words.specs.Says.{Said, asks, usage}
use Rattle.laz_forms.specs.declared.fault.Fault.{Fault}
use Rattle.laz_forms.specs.declared.fault.Fault.TheVariants as file
use Rattle.laz_forms.specs.Refusing.{IsRefusal}
use Rattle.las_make.specs.declared.fault.MakeFault.{MakeFault}
use Rattle.las_make.specs.declared.fault.MakeFault.TheVariants as made
use Rattle.las_make.specs.declared.settings.Settings.{Settings}
use Rattle.las_make.specs.Making.{LeavesPackedInPart, with_made}
use Rattle.las_merge.specs.declared.fault.MergeFault.{MergeFault}
use Rattle.las_merge.specs.declared.fault.MergeFault.TheVariants as merge
use Rattle.las_merge.specs.Inputs.{AreFirstInputs, IfKnown, item_at}
use Rattle.las_info.specs.declared.reporting.ReportFault.{ReportFault}
use Rattle.las_info.specs.declared.reporting.ReportFault.TheVariants as report
use Rattle.las_run.specs.declared.stop.Stop.{Stop}
use Rattle.las_run.specs.declared.stop.Stop.TheVariants as stop
use Rattle.las_run.specs.declared.stop.Surplus.TheVariants.{Chunks, Points}
use Rattle.las_run.specs.Endings.{Cause, ComesAtOpening, Done, Memory, Usage, Unread, Unwritten, Refused, Differs}
use Rattle.las_run.specs.Endings.{HasTooMany, Ending, files_of, IsLeft}
use Rattle.las_run.specs.Runs.{RunOf, Task, files_read, files_read_by, inputs_of}
use Rattle.las_run.specs.Tools.{settings_of}

-- The words were read so.
abbrev pub IsRead : Said → Result Command WordFault → Type 0
IsRead said (Ok command) = said ≡ asks (asked_by command)
IsRead said (Err (fault.Usage index)) = said ≡ usage index
IsRead said (Err fault.Memory) = Unit {0}

-- what a fault of the words stands for
abbrev pub stop_of : WordFault → Stop
stop_of (fault.Usage index) = stop.Usage index
stop_of fault.Memory = stop.Memory

-- the names of the files that a command reads, once its words are read
abbrev pub names_read : Result Command WordFault → List (List ℕ)
names_read (Ok command) = files_read (work_by command)
names_read (Err fault) = []

-- the cause that an outcome of the code stands for; a file is given by its number in the names of those that are read
abbrev pub cause_of : (names : List (List ℕ)) → Result (Unit {0}) Stop → Cause
cause_of names (Ok _) = Done
cause_of names (Err stop.Memory) = Memory
cause_of names (Err (stop.Usage index)) = Usage index
cause_of names (Err (stop.Read number)) = Unread (slice_index_or names number [])
cause_of names (Err stop.Write) = Unwritten
cause_of names (Err (stop.Refused number cause)) = Refused (slice_index_or names number []) cause
cause_of names (Err (stop.Differs number field)) = Differs (slice_index_or names number []) field
cause_of names (Err (stop.TooMany surplus)) = HasTooMany surplus

-- the files and standard output, before and after a run
pub record Change : Type 0 where
  pub files : Outside
  pub files_now : Outside
  pub out : SinkView
  pub out_now : SinkView

abbrev pub changes : (files files_now : Outside) → (out out_now : SinkView) → Change
changes files files_now out out_now = record { files = files; files_now = files_now; out = out; out_now = out_now }

-- a change of files alone
abbrev pub quiet : Outside → Outside → SinkView → Change
quiet old now out = record { files = old; files_now = now; out = out; out_now = out }

-- This ending is defined, and no other is.
pub record IsTheEnding (task : Task) (files : FileMap) (ending : Ending) : Type 0 where
  pub defined : RunOf task files ending
  pub only : (other : Ending) → RunOf task files other → other ≡ ending

-- If the files are known, the ending that is defined for them is for this cause, and files and text are its own.
abbrev pub EndsAs : Task → Change → Cause → Type 0
EndsAs task change cause =
    (files : FileMap) → change.files.held ≡ Some files
    → (ending : Ending) × IsTheEnding task files ending × (ending.cause ≡ cause)
    × (change.files_now.held ≡ Some (files_of ending files)) × (change.out_now ≡ with_more change.out ending.text)

-- If the files are known, what stands is left of every ending that is defined for them.
abbrev pub IsLeftBy : Task → Change → Type 0
IsLeftBy task change =
    (files : FileMap) (ending : Ending) → change.files.held ≡ Some files → RunOf task files ending
    → (now : FileMap) × (change.files_now.held ≡ Some now) × IsLeft ending.outputs files now

-- If the files are known, no ending without an output is defined for them.
abbrev pub HasOutput : Task → Change → Type 0
HasOutput task change =
    (files : FileMap) (ending : Ending) → change.files.held ≡ Some files → RunOf task files ending
    → ending.outputs ≢ []

-- Nothing was put on standard output.
abbrev pub IsQuiet : Change → Type 0
IsQuiet change = change.out_now ≡ change.out

-- Standard output failed. If the files are known, the work was done but for this: the ending that is defined for them
-- has a text, of which a prefix was put, and the files are its own.
pub record FailsToPut (task : Task) (change : Change) : Type 0 where
  pub rose : Rose change.out.faults change.out_now.faults
  pub known : (files : FileMap) → change.files.held ≡ Some files
      → (ending : Ending) × IsTheEnding task files ending × (ending.cause ≡ Done) × (ending.text ≢ [])
      × (change.files_now.held ≡ Some (files_of ending files))
      × ((n : ℕ) × (change.out_now ≡ with_fault (with_more change.out (take n ending.text))))

-- A call that writes failed, or standard output did.
abbrev pub FailsToWrite : Task → Change → Type 0
FailsToWrite task change =
    (Rose change.files.write_faults change.files_now.write_faults × HasOutput task change × IsQuiet change)
    ⊎ FailsToPut task change

-- A merge had come to the input of this name: if the files are known, those before it are held, accepted when they are
-- opened, and like the first.
abbrev pub ComesToInput : (inputs : List (List ℕ)) → Change → (name : List ℕ) → Type 0
ComesToInput inputs change name =
    (number : ℕ) × (name ≡ item_at inputs number) × (number < length inputs)
    × IfKnown change.files.held (λ known. (before : List (List ℕ)) × AreFirstInputs known inputs before
    × (length before ≡ number))

-- `make` had come to read the file of this name again: its plain file, which stands whole, and of the packed one no
-- more than a part of its draft; or the packed one, and both stand whole.
abbrev pub ComesToMade : (output packed : List ℕ) → Settings → (chunk : ℕ) → Change → (name : List ℕ) → Type 0
ComesToMade output packed settings chunk change name =
    ((name ≡ output) × LeavesPackedInPart output packed settings chunk change.files.held change.files_now.held)
    ⊎ ((name ≡ packed) × (change.files_now.held ≡ with_made output packed settings chunk change.files.held))

-- The work had come to the file of this name.
abbrev pub WorkComesTo : Work → Change → (name : List ℕ) → Type 0
WorkComesTo (reads input own) change name = Contains (input ∷ []) name
WorkComesTo (lasmerge options) change name = ComesToInput options.inputs change name
WorkComesTo (make options) change name =
    ComesToMade options.output options.packed (settings_of options) options.chunk change name

abbrev pub ComesTo : Said → Change → (name : List ℕ) → Type 0
ComesTo (asks asked) change name = WorkComesTo asked.work change name
ComesTo (usage index) change name = ⊥

-- The file of this name is an input that is not held, or could not be read.
pub record EndsUnread (task : Task) (change : Change) (name : List ℕ) : Type 0 where
  pub reads : Contains (files_read_by task.said) name
  pub comes : ComesTo task.said change name
  pub left : IsLeftBy task change
  pub cause : (Contains (inputs_of task.said) name × IsMissing change.files.held name
      × EndsAs task change (Unread name))
      ⊎ Rose change.files.read_faults change.files_now.read_faults
  pub quiet : IsQuiet change

-- A run of a task ended for this cause, and for this reason. A refusal that comes when an input is opened leaves the
-- files as they were.
abbrev pub Ends : Task → Change → Cause → Type 0
Ends task change Done = EndsAs task change Done × IsLeftBy task change
Ends task change Memory = IsLeftBy task change × IsQuiet change
Ends task change (Usage index) =
    (task.said ≡ usage index) × (change.files_now ≡ change.files) × EndsAs task change (Usage index) × IsQuiet change
Ends task change (Unread name) = EndsUnread task change name
Ends task change Unwritten = FailsToWrite task change × IsLeftBy task change
Ends task change (Refused name refusal) =
    Contains (files_read_by task.said) name × EndsAs task change (Refused name refusal) × IsLeftBy task change
    × (ComesAtOpening refusal → change.files_now.held ≡ change.files.held) × IsQuiet change
Ends task change (Differs name field) =
    Contains (inputs_of task.said) name × EndsAs task change (Differs name field) × IsLeftBy task change
    × (change.files_now.held ≡ change.files.held) × IsQuiet change
Ends task change (HasTooMany surplus) =
    EndsAs task change (HasTooMany surplus) × IsLeftBy task change × (change.files_now.held ≡ change.files.held)
    × IsQuiet change

-- what a fault of a call on the input of this number stands for
abbrev pub stop_by : ℕ → Fault → Stop
stop_by number (file.Refused cause) = stop.Refused number cause
stop_by number file.Read = stop.Read number
stop_by number file.Write = stop.Write
stop_by number file.Memory = stop.Memory

-- an outcome of a call on the input of this number
abbrev pub stopped_by : ℕ → Result (Unit {0}) Fault → Result (Unit {0}) Stop
stopped_by number (Ok done) = Ok done
stopped_by number (Err fault) = Err (stop_by number fault)

-- an outcome of a merge
abbrev pub stopped_merge : Result (Unit {0}) MergeFault → Result (Unit {0}) Stop
stopped_merge (Ok done) = Ok done
stopped_merge (Err (merge.At number fault)) = Err (stop_by number fault)
stopped_merge (Err (merge.Unequal number field)) = Err (stop.Differs number field)
stopped_merge (Err merge.TooManyPoints) = Err (stop.TooMany Points)
stopped_merge (Err merge.TooManyChunks) = Err (stop.TooMany Chunks)
stopped_merge (Err merge.Write) = Err stop.Write
stopped_merge (Err merge.Memory) = Err stop.Memory

-- a fault of making files: the plain one is the first that is read
abbrev pub stop_making : MakeFault → Stop
stop_making made.ReadPlain = stop.Read 0
stop_making made.ReadPacked = stop.Read 1
stop_making (made.Changed cause) = stop.Refused 0 cause
stop_making made.Write = stop.Write
stop_making made.Memory = stop.Memory

-- an outcome of putting a report
abbrev pub stopped_report : Result (Unit {0}) ReportFault → Result (Unit {0}) Stop
stopped_report (Ok done) = Ok done
stopped_report (Err report.Failed) = Err stop.Write
stopped_report (Err report.Memory) = Err stop.Memory

-- How opening the input of this number and this name stops: memory is short; the input is known not to be held, or a
-- read failed; or the input is refused, by its first cause.
abbrev pub StopsOpening : (number : ℕ) → (name : List ℕ) → (old new : Outside) → Stop → Type 0
StopsOpening number name old new stop.Memory = Unit {0}
StopsOpening number name old new (stop.Usage index) = ⊥
StopsOpening number name old new (stop.Read input) =
    (input ≡ number) × (IsMissing old.held name ⊎ Rose old.read_faults new.read_faults)
StopsOpening number name old new stop.Write = ⊥
StopsOpening number name old new (stop.Refused input cause) =
    (input ≡ number) × WhereKnown old.held name (λ file. IsRefusal file (Some cause))
StopsOpening number name old new (stop.Differs input field) = ⊥
StopsOpening number name old new (stop.TooMany surplus) = ⊥

-- This ending is one that a command makes of a file, and no other is.
pub record IsOnlyEnding (Makes : Ending → Type 0) (ending : Ending) : Type 0 where
  pub makes : Makes ending
  pub only : (other : Ending) → Makes other → other ≡ ending

-- If the files are known: of an input, one ending is made and no other, of which P holds, and the files are its own.
abbrev pub MakesOne : (Makes : List ℕ → Ending → Type 0) → (input : List ℕ) → Change → (P : Ending → Type 0) → Type 0
MakesOne Makes input change P = WhereKnown change.files.held input (λ file.
    (ending : Ending) × IsOnlyEnding (Makes file) ending × P ending
    × ((files : FileMap) → change.files.held ≡ Some files → change.files_now.held ≡ Some (files_of ending files)))

-- That ending is for this cause, and its text was put.
abbrev pub MakesEnding : (Makes : List ℕ → Ending → Type 0) → (input : List ℕ) → Change → Cause → Type 0
MakesEnding Makes input change cause =
    MakesOne Makes input change (λ ending. (ending.cause ≡ cause) × (change.out_now ≡ with_more change.out ending.text))

-- It is one of work that is done, and of its text, which is not empty, a prefix was put before standard output failed.
abbrev pub MakesUnput : (Makes : List ℕ → Ending → Type 0) → (input : List ℕ) → Change → Type 0
MakesUnput Makes input change = MakesOne Makes input change (λ ending.
    (ending.cause ≡ Done) × (ending.text ≢ [])
    × ((n : ℕ) × (change.out_now ≡ with_fault (with_more change.out (take n ending.text)))))

-- If the files are known: what stands is left of every ending that is made of the input.
abbrev pub LeavesEnding : (Makes : List ℕ → Ending → Type 0) → (input : List ℕ) → Change → Type 0
LeavesEnding Makes input change = WhereKnown change.files.held input (λ file.
    (files : FileMap) (ending : Ending) → change.files.held ≡ Some files → Makes file ending
    → (now : FileMap) × (change.files_now.held ≡ Some now) × IsLeft ending.outputs files now)

-- If the files are known: every ending that is made of the input has an output.
abbrev pub EndingsHaveOutput : (Makes : List ℕ → Ending → Type 0) → (input : List ℕ) → Change → Type 0
EndingsHaveOutput Makes input change =
    WhereKnown change.files.held input (λ file. (ending : Ending) → Makes file ending → ending.outputs ≢ [])

-- A call that writes failed, and there was something to write; or standard output did.
abbrev pub FailsMaking : (Makes : List ℕ → Ending → Type 0) → (input : List ℕ) → Change → Type 0
FailsMaking Makes input change =
    (Rose change.files.write_faults change.files_now.write_faults × EndingsHaveOutput Makes input change
    × IsQuiet change)
    ⊎ (Rose change.out.faults change.out_now.faults × MakesUnput Makes input change)

-- What a command says of the outcome with which it made something of an accepted input: files, a text, or both.
abbrev pub EndsCommand : (Makes : List ℕ → Ending → Type 0) → (input : List ℕ) → Change → Result (Unit {0}) Stop
    → Type 0
EndsCommand Makes input change (Ok _) = MakesEnding Makes input change Done × LeavesEnding Makes input change
EndsCommand Makes input change (Err stop.Memory) = LeavesEnding Makes input change × IsQuiet change
EndsCommand Makes input change (Err (stop.Usage index)) = ⊥
EndsCommand Makes input change (Err (stop.Read number)) =
    (number ≡ 0) × Rose change.files.read_faults change.files_now.read_faults × LeavesEnding Makes input change
    × IsQuiet change
EndsCommand Makes input change (Err stop.Write) = FailsMaking Makes input change × LeavesEnding Makes input change
EndsCommand Makes input change (Err (stop.Refused number cause)) =
    (number ≡ 0) × MakesEnding Makes input change (Refused input cause) × LeavesEnding Makes input change
    × (ComesAtOpening cause → change.files_now.held ≡ change.files.held) × IsQuiet change
EndsCommand Makes input change (Err (stop.Differs number field)) = ⊥
EndsCommand Makes input change (Err (stop.TooMany surplus)) = ⊥
