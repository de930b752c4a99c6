-- How a run ends, from the words, the taps and the files alone: the definition of the whole program. No definition here
-- cites the number of workers.
use Rattle.std.specs.Prelude.{◌≡◌, ◌⊎◌, ℕ, List, [], ◌∷◌, map, Option, Some, None}
use Rattle.std.specs.FinMap as finmap
use Rattle.las_header.specs.declared.refusal.Refusal.{Refusal}
use Rattle.las_filter.specs.Parts.{part_name}
use Rattle.las_info.specs.Tallies.{TapSeen}
use Rattle.las_outside.specs.Files.{FileMap}
use Rattle.las_words.specs.Asked.{Asked, OneInput, Work, laszip, las2las, lasinfo, lassplit, lasmerge, make, reads}
use Rattle.las_words.specs.Says.{Said, asks, says, usage}
use Rattle.laz_forms.specs.Refusing.{IsAcceptedFile, IsRefusal}
use Rattle.las_run.specs.Endings.{Usage, Unread, Refused, Ending, ends_at_once}
use Rattle.las_run.specs.Tools.{Zips, Converts, Reports, Splits, Merges, makes, settings_of}

-- what is to be done: what the words say, and the taps that are there
pub record Task : Type 0 where
  pub said : Said
  pub taps : List TapSeen

-- the task of a command
abbrev pub task_with : List TapSeen → Asked → Task
task_with taps asked = record { said = asks asked; taps = taps }

-- the task of a command's work
abbrev pub task_for : List TapSeen → Work → (workers : ℕ) → Task
task_for taps work workers = task_with taps (record { work = work; workers = workers })

-- the task of some words, with these taps
abbrev pub task_of : (words : List (List ℕ)) → List TapSeen → Task
task_of words taps = record { said = says words (map (λ tap. tap.name) taps); taps = taps }

-- the names of the inputs of a command, in the order in which they are opened
abbrev pub inputs_asked : Work → List (List ℕ)
inputs_asked (reads input own) = input ∷ []
inputs_asked (lasmerge options) = options.inputs
inputs_asked (make options) = []

abbrev pub inputs_of : Said → List (List ℕ)
inputs_of (asks asked) = inputs_asked asked.work
inputs_of (usage index) = []

-- the names of the files that a command reads, in the order of their first reading: its inputs, and those that `make`
-- has written
abbrev pub files_read : Work → List (List ℕ)
files_read (reads input own) = input ∷ []
files_read (lasmerge options) = options.inputs
files_read (make options) = options.output ∷ options.packed ∷ []

abbrev pub files_read_by : Said → List (List ℕ)
files_read_by (asks asked) = files_read asked.work
files_read_by (usage index) = []

-- A command writes a file of this name, if it creates its outputs.
abbrev pub IsWrittenBy : Work → (name : List ℕ) → Type 0
IsWrittenBy (reads input (laszip options)) name = name ≡ options.output
IsWrittenBy (reads input (las2las options)) name = name ≡ options.output
IsWrittenBy (reads input (lasinfo options)) name = ⊥
IsWrittenBy (reads input (lassplit options)) name =
    (number : ℕ) × (name ≡ part_name options.stem options.end number)
IsWrittenBy (lasmerge options) name = name ≡ options.output
IsWrittenBy (make options) name = (name ≡ options.output) ⊎ (name ≡ options.packed)

abbrev pub IsWritten : Said → (name : List ℕ) → Type 0
IsWritten (asks asked) name = IsWrittenBy asked.work name
IsWritten (usage index) name = ⊥

-- A file is refused by its first cause, or accepted, and then a command makes something of it.
abbrev pub Accepts : (name file : List ℕ) → (Makes : Ending → Type 0) → Ending → Type 0
Accepts name file Makes ending =
    ((refusal : Refusal) × IsRefusal file (Some refusal) × (ending ≡ ends_at_once (Refused name refusal)))
    ⊎ (IsAcceptedFile file × Makes ending)

-- An input is opened: it is not held, or refused, or accepted.
abbrev pub Opens : (name : List ℕ) → Option (List ℕ) → (Makes : List ℕ → Ending → Type 0) → Ending → Type 0
Opens name None Makes ending = ending ≡ ends_at_once (Unread name)
Opens name (Some file) Makes ending = Accepts name file (Makes file) ending

-- A command with one input opens it, and makes something of it if it is accepted.
abbrev pub OpensIn : FileMap → (name : List ℕ) → (Makes : List ℕ → Ending → Type 0) → Ending → Type 0
OpensIn files name Makes ending = Opens name (finmap.get files name) Makes ending

-- What a command makes of its one input, if that is accepted.
abbrev pub Makes : List TapSeen → (input : List ℕ) → OneInput → (file : List ℕ) → Ending → Type 0
Makes taps input (laszip options) file ending = Zips input options.output options.chunk file ending
Makes taps input (las2las options) file ending = Converts taps input options file ending
Makes taps input (lasinfo options) file ending = Reports taps input options.tallies file ending
Makes taps input (lassplit options) file ending = Splits input options.stem options.end options.rule file ending

-- What a command does.
abbrev pub Does : List TapSeen → Work → FileMap → Ending → Type 0
Does taps (reads input own) files ending = OpensIn files input (Makes taps input own) ending
Does taps (lasmerge options) files ending = Merges options files ending
Does taps (make options) files ending =
    ending ≡ makes options.output options.packed (settings_of options) options.chunk

-- wrong words, or those of a command
abbrev pub RunsAs : List TapSeen → Said → FileMap → Ending → Type 0
RunsAs taps (usage index) files ending = ending ≡ ends_at_once (Usage index)
RunsAs taps (asks asked) files ending = Does taps asked.work files ending

-- A run of this task over these files ends so, if nothing fails and memory suffices.
abbrev pub RunOf : Task → FileMap → Ending → Type 0
RunOf task files ending = RunsAs task.taps task.said files ending
