-- How the inputs are opened, one after another.
use Rattle.std.specs.Prelude.{◌≡◌, ◌⊎◌, ℕ, ◌^◌, ◌<◌, ◌≤◌, List, [], ◌∷◌, length, map, take, sum_by, Option, Some, None}
use Rattle.std.specs.Prelude.{All, true, false}
use Rattle.las_header.specs.Fields.{head_of, is_packed, points_of, record_length_of}
use Rattle.las_header.specs.Heads.{HeadView}
use Rattle.las_header.specs.Vlrs.{laszip_vlrs_of}
use Rattle.las_outside.specs.Faults.{Rose}
use Rattle.las_outside.specs.Files.{FileMap, IsMissing, WhereKnown}
use Rattle.las_outside.specs.Outside.{Outside}
use Rattle.laz_forms.specs.declared.fault.Fault.{Fault}
use Rattle.laz_forms.specs.declared.fault.Fault.TheVariants as fault
use Rattle.laz_reader.specs.Reading.{IsNewReader, ReaderSeen, StandsFor, records_in}
use Rattle.laz_forms.specs.Refusing.{IsAcceptedFile, IsRefusal}
use Rattle.las_merge.specs.declared.fault.MergeFault.{MergeFault}
use Rattle.las_merge.specs.declared.fault.MergeFault.TheVariants.{At, Unequal, TooManyPoints, TooManyChunks, Write}
use Rattle.las_merge.specs.declared.fault.MergeFault.TheVariants.{Memory}
use Rattle.las_merge.specs.Fields.{first_difference}
use Rattle.las_merge.specs.Inputs.{item_at}

-- what a fault of a call on the input of this number stands for: it is that input's, unless the output could not be
-- written
abbrev pub merge_fault : (number : ℕ) → Fault → MergeFault
merge_fault number (fault.Refused cause) = At number (fault.Refused cause)
merge_fault number fault.Read = At number fault.Read
merge_fault number fault.Write = Write
merge_fault number fault.Memory = At number fault.Memory

-- What contracts see of an input that was opened: its name and its head.
pub record InputSeen : Type 0 where
  pub name : List ℕ
  pub head : HeadView

-- The file is accepted, and its head is the input's.
pub record IsItsFile (input : InputSeen) (file : List ℕ) : Type 0 where
  pub accepted : IsAcceptedFile file
  pub head : input.head ≡ record { bytes = head_of file; size = length file }

-- An input that was opened: its head has one laszip VLR if the file is packed, and none if it is plain; and it is the
-- head of its file, which is accepted.
pub record IsOpen (held : Option FileMap) (input : InputSeen) : Type 0 where
  pub one : is_packed input.head.bytes ≡ true → length (laszip_vlrs_of input.head.bytes) ≡ 1
  pub none : is_packed input.head.bytes ≡ false → laszip_vlrs_of input.head.bytes ≡ []
  pub stands : WhereKnown held input.name (IsItsFile input)

-- A reader that was opened again for an input: it is new, and stands for the file of the input's name; its records are
-- as long and as many as the input's.
pub record IsAgain (held : Option FileMap) (input : InputSeen) (reader : ReaderSeen) : Type 0 where
  pub fresh : IsNewReader input.name reader
  pub stands : WhereKnown held input.name (StandsFor reader)
  pub size : record_length_of reader.head.bytes ≡ record_length_of input.head.bytes
  pub records : records_in reader.left ≡ points_of input.head.bytes

-- the names of inputs
abbrev pub input_names : List InputSeen → List (List ℕ)
input_names inputs = map (λ input. input.name) inputs

-- the head of the first input
abbrev pub first_read : List InputSeen → List ℕ
first_read [] = []
first_read (input ∷ inputs) = input.head.bytes

-- how many point records inputs have, by their heads
abbrev pub points_read : List InputSeen → ℕ
points_read inputs = sum_by (λ input. points_of input.head.bytes) inputs

-- These are the first inputs, opened, and no head differs from the first.
pub record AreOpen (held : Option FileMap) (names : List (List ℕ)) (inputs : List InputSeen) : Type 0 where
  pub within : length inputs ≤ length names
  pub named : input_names inputs ≡ take (length inputs) names
  pub opened : All (IsOpen held) inputs
  pub alike : All (λ input. first_difference (first_read inputs) input.head.bytes ≡ None) inputs

-- How opening an input fails.
abbrev pub FailsOpening : (name : List ℕ) → (old new : Outside) → Fault → Type 0
FailsOpening name old new (fault.Refused cause) = WhereKnown old.held name (λ file. IsRefusal file (Some cause))
FailsOpening name old new fault.Read = IsMissing old.held name ⊎ Rose old.read_faults new.read_faults
FailsOpening name old new fault.Write = ⊥
FailsOpening name old new fault.Memory = Unit {0}

-- How one input is not opened.
abbrev pub FailsAt : (number : ℕ) → (name : List ℕ) → (old new : Outside) → MergeFault → Type 0
FailsAt number name old new fault =
    (cause : Fault) × (fault ≡ At number cause) × FailsOpening name old new cause

-- The next input is opened, and its head does not differ from the first.
pub record IsNextInput (held : Option FileMap) (name : List ℕ) (inputs : List InputSeen) (input : InputSeen) : Type 0 where
  pub named : input.name ≡ name
  pub opened : IsOpen held input
  pub alike : 1 ≤ length inputs → first_difference (first_read inputs) input.head.bytes ≡ None

-- How the next input is not opened, or differs.
abbrev pub FailsNext : (name : List ℕ) → List InputSeen → (old new : Outside) → MergeFault → Type 0
FailsNext name inputs old new (At number cause) = (number ≡ length inputs) × FailsOpening name old new cause
FailsNext name inputs old new (Unequal number field) =
    (number ≡ length inputs) × (1 ≤ length inputs)
    × ((input : InputSeen) × (input.name ≡ name) × IsOpen old.held input
    × (first_difference (first_read inputs) input.head.bytes ≡ Some field))
FailsNext name inputs old new TooManyPoints = ⊥
FailsNext name inputs old new TooManyChunks = ⊥
FailsNext name inputs old new Write = ⊥
FailsNext name inputs old new Memory = ⊥

-- The inputs before this one were opened.
pub record OpensTo (held : Option FileMap) (names : List (List ℕ)) (number : ℕ) (inputs : List InputSeen) : Type 0
  where
    pub opened : AreOpen held names inputs
    pub number_is : length inputs ≡ number
    pub within : number < length names

-- How opening the inputs ends with a fault.
abbrev pub EndsOpening : (names : List (List ℕ)) → (old new : Outside) → MergeFault → Type 0
EndsOpening names old new (At number cause) =
    (inputs : List InputSeen) × OpensTo old.held names number inputs
    × FailsOpening (item_at names number) old new cause
EndsOpening names old new (Unequal number field) =
    (inputs : List InputSeen) × (input : InputSeen) × OpensTo old.held names number inputs × (1 ≤ number)
    × (input.name ≡ item_at names number) × IsOpen old.held input
    × (first_difference (first_read inputs) input.head.bytes ≡ Some field)
EndsOpening names old new TooManyPoints =
    (inputs : List InputSeen) × AreOpen old.held names inputs × (length inputs ≡ length names)
    × (2 ^ 32 ≤ points_read inputs)
EndsOpening names old new TooManyChunks = ⊥
EndsOpening names old new Write = ⊥
EndsOpening names old new Memory = Unit {0}
