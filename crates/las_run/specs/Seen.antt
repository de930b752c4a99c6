-- What is seen of a run, and the ways in which it can have ended.
use Rattle.std.specs.Prelude.{◌≡◌, ◌≢◌, ◌⊎◌, ℕ, List, [], Some}
use Rattle.std.specs.FinMap as finmap
use Rattle.las_outside.specs.Faults.{Rose}
use Rattle.las_outside.specs.Files.{FileMap}
use Rattle.las_outside.specs.Outside.{Outside}
use Rattle.las_outside.specs.Sinks.{SinkView, Puts, with_more}
use Rattle.las_run.specs.Endings.{Cause, Ending, IsLeft, files_of, status_of}
use Rattle.las_run.specs.Ends.{Change}
use Rattle.las_run.specs.Lines.{line_of}
use Rattle.las_run.specs.Runs.{RunOf, Task}

-- What is seen of a run: its task and its status, and the files, standard output and standard error before and after
-- it.
pub record RunSeen : Type 0 where
  pub task : Task
  pub status : ℕ
  pub files : Outside
  pub files_now : Outside
  pub out : SinkView
  pub out_now : SinkView
  pub err : SinkView
  pub err_now : SinkView

-- what is seen of a run with this task, which ended with this status and changed files and streams so
abbrev pub run_of : Task → (status : ℕ) → Change → (err err_now : SinkView) → RunSeen
run_of task status change err err_now = record {
  task = task;
  status = status;
  files = change.files;
  files_now = change.files_now;
  out = change.out;
  out_now = change.out_now;
  err = err;
  err_now = err_now;
}

-- its files and its standard output
abbrev pub change_of : RunSeen → Change
change_of run = record { files = run.files; files_now = run.files_now; out = run.out; out_now = run.out_now }

-- The files are known before the run, and this ending is defined for it.
pub record IsDue (run : RunSeen) (known : FileMap) (ending : Ending) : Type 0 where
  pub known_is : run.files.held ≡ Some known
  pub defined : RunOf run.task known ending

-- The run ended for this cause, which its status and its line tell, left these files, and put this text.
pub record EndsWith (run : RunSeen) (cause : Cause) (files : FileMap) (text : List ℕ) : Type 0 where
  pub status_is : run.status ≡ status_of cause
  pub line_is : Puts (line_of cause) run.err run.err_now
  pub files_are : run.files_now.held ≡ Some files
  pub text_is : run.out_now ≡ with_more run.out text

-- The run ended as this ending says.
abbrev pub EndsAsDefined : RunSeen → FileMap → Ending → Type 0
EndsAsDefined run known ending = EndsWith run ending.cause (files_of ending known) ending.text

-- What can keep a run from its ending: memory is short, or a read, a write, or standard output failed.
pub data Excuse : Type 0 where
  NoMemory : Excuse
  FailedRead : Excuse
  FailedWrite : Excuse
  FailedOut : Excuse

-- what is then seen of the run: its status and, of a failure, the count that rose
abbrev pub IsShown : RunSeen → Excuse → Type 0
IsShown run NoMemory = run.status ≡ 1
IsShown run FailedRead = (run.status ≡ 3) × Rose run.files.read_faults run.files_now.read_faults
IsShown run FailedWrite = (run.status ≡ 4) × Rose run.files.write_faults run.files_now.write_faults
IsShown run FailedOut = (run.status ≡ 4) × Rose run.out.faults run.out_now.faults

-- The run has an excuse of these.
pub record IsExcused (run : RunSeen) (CanBe : Excuse → Type 0) : Type 0 where
  pub excuse : Excuse
  pub can_be : CanBe excuse
  pub shown : IsShown run excuse

-- the excuses of a run with this ending: a write that failed needs an output, and standard output that failed a text
abbrev pub CanMiss : Ending → Excuse → Type 0
CanMiss ending NoMemory = Unit {0}
CanMiss ending FailedRead = Unit {0}
CanMiss ending FailedWrite = ending.outputs ≢ []
CanMiss ending FailedOut = ending.text ≢ []

-- The run ended as this ending says, unless it has an excuse.
abbrev pub EndsUnlessExcused : RunSeen → FileMap → Ending → Type 0
EndsUnlessExcused run known ending = EndsAsDefined run known ending ⊎ IsExcused run (CanMiss ending)

-- Of the outputs of this ending some were created, each is unfinished, and every other name is as before.
abbrev pub Leaves : RunSeen → FileMap → Ending → Type 0
Leaves run known ending =
    (now : FileMap) × (run.files_now.held ≡ Some now) × IsLeft ending.outputs known now

-- The files are known, and what they have of this name is what they had.
abbrev pub IsAsBefore : RunSeen → FileMap → (name : List ℕ) → Type 0
IsAsBefore run known name =
    (now : FileMap) × (run.files_now.held ≡ Some now) × (finmap.get now name ≡ finmap.get known name)

-- Neither memory nor a failure ended a run with this status.
abbrev pub IsDecided : (status : ℕ) → Type 0
IsDecided status = (status ≢ 1) × (status ≢ 3) × (status ≢ 4)
