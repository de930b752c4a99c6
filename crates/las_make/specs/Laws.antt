-- Laws of made files.
use Rattle.std.specs.Prelude.{ℕ, List}
use Rattle.las_header.specs.Limits.{IsChunkSize}
use Rattle.las_outside.specs.Outside.{Outside}
use Rattle.laz_forms.specs.Laws.{CanBePacked}
use Rattle.laz_forms.specs.Packing.{packed_file}
use Rattle.laz_forms.specs.Records.{Unpacks}
use Rattle.laz_forms.specs.Refusing.{IsAcceptedFile}
use Rattle.las_make.specs.declared.settings.Settings.{Settings}
use Rattle.las_make.specs.declared.fault.MakeFault.{MakeFault}
use Rattle.las_make.specs.Made.{IsInRange, made_file}
use Rattle.las_make.specs.Making.{FailsMaking, LeavesMade}

-- A made file is an accepted plain file that can be packed.
abbrev pub CanPackMade : Type 0
CanPackMade = (settings : Settings) (chunk : ℕ) → IsInRange settings → IsChunkSize chunk
    → CanBePacked (made_file settings) chunk

-- Its packed form is accepted, and its plain form is the made file again.
abbrev pub UnpacksMade : Type 0
UnpacksMade = (settings : Settings) (chunk : ℕ) → IsInRange settings → IsChunkSize chunk
    → IsAcceptedFile (packed_file (made_file settings) chunk)
    × Unpacks (packed_file (made_file settings) chunk) (made_file settings)

-- After every fault the first outputs were created, each is unfinished, and nothing else has changed.
abbrev pub LeavesUnfinishedOutputs : Type 0
LeavesUnfinishedOutputs = (settings : Settings) (plain packed : List ℕ) (chunk : ℕ) (old new : Outside)
    (fault : MakeFault) → IsInRange settings → FailsMaking plain packed settings chunk old new fault
    → LeavesMade plain packed settings chunk old.held new.held
