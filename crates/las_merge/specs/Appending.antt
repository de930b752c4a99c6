-- Bytes that are appended to an output: parts of other files, one after another.
use Rattle.std.specs.Prelude.{ℕ, ◌+◌, ◌≤◌, List, length, take, drop, Option}
use Rattle.las_outside.specs.Faults.{Rose}
use Rattle.las_outside.specs.Files.{FileMap, WhereKnown, bytes_of}
use Rattle.las_outside.specs.Outside.{Outside}
use Rattle.laz_forms.specs.declared.fault.Fault.TheVariants as fault
use Rattle.las_merge.specs.declared.fault.MergeFault.{MergeFault}
use Rattle.las_merge.specs.declared.fault.MergeFault.TheVariants.{At, Unequal, TooManyPoints, TooManyChunks, Write}
use Rattle.las_merge.specs.declared.fault.MergeFault.TheVariants.{Memory}

-- the bytes of a file that stand from a place on, if the files are known
abbrev pub source_bytes : Option FileMap → (name : List ℕ) → (place size : ℕ) → List ℕ
source_bytes held name place size = take size (drop place (bytes_of held name))

-- What contracts see of a part of a file: the file's name, where the part begins, and how many bytes it has.
pub record SourceSeen : Type 0 where
  pub name : List ℕ
  pub place : ℕ
  pub size : ℕ

abbrev pub part_of : Option FileMap → SourceSeen → List ℕ
part_of held source = source_bytes held source.name source.place source.size

-- The part lies in its file.
abbrev pub PartLiesIn : Option FileMap → SourceSeen → Type 0
PartLiesIn held source = WhereKnown held source.name (λ file. source.place + source.size ≤ length file)

-- A fault while inputs are copied has its cause: a read of an input failed, or a write of the output.
abbrev pub IsCopyFault : (IsInput : ℕ → Type 0) → (old new : Outside) → MergeFault → Type 0
IsCopyFault IsInput old new (At number (fault.Refused cause)) = ⊥
IsCopyFault IsInput old new (At number fault.Read) = IsInput number × Rose old.read_faults new.read_faults
IsCopyFault IsInput old new (At number fault.Write) = ⊥
IsCopyFault IsInput old new (At number fault.Memory) = ⊥
IsCopyFault IsInput old new (Unequal number field) = ⊥
IsCopyFault IsInput old new TooManyPoints = ⊥
IsCopyFault IsInput old new TooManyChunks = ⊥
IsCopyFault IsInput old new Write = Rose old.write_faults new.write_faults
IsCopyFault IsInput old new Memory = ⊥
