-- The words in which the top call says what `laszip` makes of every file.
use Rattle.std.specs.Prelude.{◌≡◌, ◌⊎◌, ◌++◌, ℕ, true, List, [], Option, Some}
use Rattle.std.specs.FinMap as finmap
use Rattle.std.specs.List.{concat}
use Rattle.las_header.specs.declared.refusal.Refusal.{Refusal}
use Rattle.las_header.specs.Fields.{head_of, is_packed}
use Rattle.las_header.specs.Plain.{plain_head}
use Rattle.las_outside.specs.Files.{FileMap}
use Rattle.las_words.specs.Asked.{laszip, reads}
use Rattle.las_words.specs.Says.{asks}
use Rattle.laz_forms.specs.Records.{AreRecordsOf}
use Rattle.laz_forms.specs.Refusing.{IsAcceptedFile}
use Rattle.las_run.specs.Endings.{Cause, Refused}
use Rattle.las_run.specs.Seen.{EndsWith, Excuse, NoMemory, FailedRead, FailedWrite, FailedOut, IsExcused, RunSeen}

-- The run is `laszip` over known files, and its input is this file.
pub record IsLaszip (run : RunSeen) : Type 0 where
  pub input : List ℕ
  pub output : List ℕ
  pub chunk : ℕ
  pub workers : ℕ
  pub said : run.task.said ≡ asks (record {
    work = reads input (laszip (record { output = output; chunk = chunk }));
    workers = workers;
  })
  pub known : FileMap
  pub known_is : run.files.held ≡ Some known
  pub file : List ℕ
  pub held : finmap.get known input ≡ Some file

-- An accepted packed file holds these blocks of records, up to its first bad chunk if there is one.
pub record IsPackedOf (file : List ℕ) (blocks : List (List ℕ)) (bad : Option ℕ) : Type 0 where
  pub accepted : IsAcceptedFile file
  pub packed : is_packed (head_of file) ≡ true
  pub records : AreRecordsOf file blocks bad

-- a file unpacked: its head as a plain one, and these blocks of its records
abbrev pub unpacked : (file : List ℕ) → (blocks : List (List ℕ)) → List ℕ
unpacked file blocks = plain_head file ++ concat blocks

-- What can keep `laszip` from writing its output; it puts no text.
abbrev pub CanMissOutput : Excuse → Type 0
CanMissOutput NoMemory = Unit {0}
CanMissOutput FailedRead = Unit {0}
CanMissOutput FailedWrite = Unit {0}
CanMissOutput FailedOut = ⊥

-- What can keep it from refusing its input; it writes nothing before.
abbrev pub CanMissRefusal : Excuse → Type 0
CanMissRefusal NoMemory = Unit {0}
CanMissRefusal FailedRead = Unit {0}
CanMissRefusal FailedWrite = ⊥
CanMissRefusal FailedOut = ⊥

-- No file but the output has changed.
abbrev pub ChangesOutput : (run : RunSeen) → IsLaszip run → Type 0
ChangesOutput run zip =
    (run.files_now.held ≡ Some zip.known)
    ⊎ ((bytes : List ℕ) × (run.files_now.held ≡ Some (finmap.insert zip.known zip.output bytes)))

-- The run ended for this cause with these bytes as its output, and every other file is as before. If it has an excuse,
-- it may have ended in another way, but every other file is as before all the same.
abbrev pub Writes : (run : RunSeen) → IsLaszip run → Cause → (bytes : List ℕ) → Type 0
Writes run zip cause bytes =
    EndsWith run cause (finmap.insert zip.known zip.output bytes) []
    ⊎ (IsExcused run CanMissOutput × ChangesOutput run zip)

-- The run refused its input for this cause, or has an excuse; and every file is as before.
abbrev pub Refuses : (run : RunSeen) → IsLaszip run → Refusal → Type 0
Refuses run zip refusal =
    EndsWith run (Refused zip.input refusal) zip.known []
    ⊎ (IsExcused run CanMissRefusal × (run.files_now.held ≡ Some zip.known))
