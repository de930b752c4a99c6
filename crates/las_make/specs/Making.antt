-- What `make` writes, and what it leaves after a fault.
use Rattle.std.specs.Prelude.{◌≡◌, ◌⊎◌, ℕ, false, List, Option, None}
use Rattle.std.specs.List.{concat}
use Rattle.las_outside.specs.Faults.{Rose}
use Rattle.las_outside.specs.Files.{FileMap, with_file}
use Rattle.las_outside.specs.Outside.{Outside}
use Rattle.laz_forms.specs.declared.fault.Fault.{Fault}
use Rattle.laz_forms.specs.declared.fault.Fault.TheVariants as file
use Rattle.laz_file.specs.Copying.{LeavesInPart, LeavesUnfinished, packed_output}
use Rattle.laz_forms.specs.Outputs.{Output}
use Rattle.laz_forms.specs.Packing.{packed_file}
use Rattle.las_make.specs.declared.fault.MakeFault.{MakeFault}
use Rattle.las_make.specs.declared.fault.MakeFault.TheVariants.{ReadPlain, Changed, ReadPacked, Write, Memory}
use Rattle.las_make.specs.declared.settings.Settings.{Settings}
use Rattle.las_make.specs.Made.{made_file, made_head, made_records}

-- the plain output, whose head has the counts of the records from the start
abbrev pub made_output : (name : List ℕ) → Settings → Output
made_output name settings = record { name = name; head = made_head settings; chunk = None; counted = false }

-- the files with the plain file under one name and its packed form under the other
abbrev pub with_made : (plain packed : List ℕ) → Settings → (chunk : ℕ) → Option FileMap → Option FileMap
with_made plain packed settings chunk files =
    with_file (with_file files plain (made_file settings)) packed (packed_file (made_file settings) chunk)

-- The files are as before, or the plain output is unfinished.
abbrev pub LeavesPlain : (plain : List ℕ) → Settings → (old new : Option FileMap) → Type 0
LeavesPlain plain settings old new =
    LeavesUnfinished (made_output plain settings) (concat (made_records settings)) old new

-- The plain output stands whole, and of the packed one nothing has changed, or it is unfinished.
abbrev pub LeavesPacked : (plain packed : List ℕ) → Settings → (chunk : ℕ) → (old new : Option FileMap) → Type 0
LeavesPacked plain packed settings chunk old new =
    LeavesUnfinished (packed_output packed (made_file settings) chunk) (concat (made_records settings))
    (with_file old plain (made_file settings)) new

-- The same, but of the packed one not all of its draft stands: it was not begun to be finished.
abbrev pub LeavesPackedInPart : (plain packed : List ℕ) → Settings → (chunk : ℕ) → (old new : Option FileMap) → Type 0
LeavesPackedInPart plain packed settings chunk old new =
    LeavesInPart (packed_output packed (made_file settings) chunk) (concat (made_records settings))
    (with_file old plain (made_file settings)) new

-- The plain output is unfinished, or it stands whole and the packed one is unfinished.
abbrev pub LeavesMade : (plain packed : List ℕ) → Settings → (chunk : ℕ) → (old new : Option FileMap) → Type 0
LeavesMade plain packed settings chunk old new =
    LeavesPlain plain settings old new ⊎ LeavesPacked plain packed settings chunk old new

-- ---- how it goes

-- what a fault stands for while the plain file is written or read again
abbrev pub make_fault : Fault → MakeFault
make_fault (file.Refused cause) = Changed cause
make_fault file.Read = ReadPlain
make_fault file.Write = Write
make_fault file.Memory = Memory

-- A fault of a call that only writes: with a failed write more, or out of memory.
abbrev pub FailsWriting : (old new : Outside) → Fault → Type 0
FailsWriting old new (file.Refused cause) = ⊥
FailsWriting old new file.Read = ⊥
FailsWriting old new file.Write = Rose old.write_faults new.write_faults
FailsWriting old new file.Memory = Unit {0}

-- How making ends with a fault.
abbrev pub FailsMaking : (plain packed : List ℕ) → Settings → (chunk : ℕ) → (old new : Outside) → MakeFault → Type 0
FailsMaking plain packed settings chunk old new ReadPlain =
    Rose old.read_faults new.read_faults × LeavesPackedInPart plain packed settings chunk old.held new.held
FailsMaking plain packed settings chunk old new (Changed cause) = (old.held ≡ None) × (new.held ≡ None)
FailsMaking plain packed settings chunk old new ReadPacked =
    Rose old.read_faults new.read_faults × (new.held ≡ with_made plain packed settings chunk old.held)
FailsMaking plain packed settings chunk old new Write =
    Rose old.write_faults new.write_faults × LeavesMade plain packed settings chunk old.held new.held
FailsMaking plain packed settings chunk old new Memory = LeavesMade plain packed settings chunk old.held new.held
