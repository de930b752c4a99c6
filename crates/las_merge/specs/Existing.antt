-- That something comes of a merge, whatever the inputs are: a cause that keeps them from being merged, or their
-- records.
use Rattle.std.specs.Prelude.{◌≡◌, ◌⊎◌, ℕ, All, List, Option, Some}
use Rattle.std.specs.FinMap as finmap
use Rattle.las_outside.specs.Files.{FileMap}
use Rattle.laz_range.specs.Span.{IsBytes}
use Rattle.laz_copied.specs.Copied.{Chunk}
use Rattle.laz_forms.specs.Refusing.{IsAcceptedFile}
use Rattle.las_merge.specs.declared.fault.MergeFault.{MergeFault}
use Rattle.las_merge.specs.Inputs.{CanMerge, IsKeptBy}
use Rattle.las_merge.specs.Merging.{BadPlace, MergesTo}
use Rattle.las_merge.specs.Packed.{CanCopyFrom, IsKeptFromCopying}

-- Every file that is known holds bytes.
abbrev pub HoldBytes : FileMap → Type 0
HoldBytes files = (name file : List ℕ) → finmap.get files name ≡ Some file → IsBytes file

-- Inputs can be merged, or something keeps them from it.
abbrev pub AreKeptOrMerged : Type 0
AreKeptOrMerged = (known : FileMap) (names : List (List ℕ))
    → ((cause : MergeFault) × IsKeptBy known names cause) ⊎ ((files : List (List ℕ)) × CanMerge known names files)

-- Merging accepted files gives records.
abbrev pub MergesToSomething : Type 0
MergesToSomething = (files : List (List ℕ)) → All IsAcceptedFile files
    → (records : List ℕ) × (bad : Option BadPlace) × MergesTo files records bad

-- Chunks of inputs can be copied, or something keeps the inputs from it.
abbrev pub AreKeptOrCopied : Type 0
AreKeptOrCopied = (known : FileMap) (names : List (List ℕ))
    → ((cause : MergeFault) × IsKeptFromCopying known names cause)
    ⊎ ((files : List (List ℕ)) × (parts : List (List Chunk)) × CanCopyFrom known names files parts)
