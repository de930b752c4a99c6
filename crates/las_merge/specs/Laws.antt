-- Laws of merging.
use Rattle.std.specs.Prelude.{◌≡◌, ℕ, All, List, Option}
use Rattle.las_outside.specs.Files.{FileMap}
use Rattle.laz_range.specs.Span.{IsBytes}
use Rattle.las_merge.specs.declared.fault.MergeFault.{MergeFault}
use Rattle.las_merge.specs.Inputs.{CanMerge, IsKeptBy}
use Rattle.las_merge.specs.Merging.{BadPlace, MergesTo, OnlyMerges}

-- Inputs are kept from being merged by at most one cause,
abbrev pub IsKeptByOne : Type 0
IsKeptByOne = (known : FileMap) (names : List (List ℕ)) (one other : MergeFault) → IsKeptBy known names one
    → IsKeptBy known names other → other ≡ one

-- and by none if they can be merged.
abbrev pub IsKeptOrMerged : Type 0
IsKeptOrMerged = (known : FileMap) (names files : List (List ℕ)) (cause : MergeFault) → IsKeptBy known names cause
    → CanMerge known names files → ⊥

-- They can be merged as one list of files.
abbrev pub AreMergedOnce : Type 0
AreMergedOnce = (known : FileMap) (names one other : List (List ℕ)) → CanMerge known names one
    → CanMerge known names other → other ≡ one

-- Whatever the bytes of files are, what merging them gives is the only thing that it can give.
abbrev pub MergesInOneWay : Type 0
MergesInOneWay = (files : List (List ℕ)) (records : List ℕ) (bad : Option BadPlace) → All IsBytes files
    → MergesTo files records bad → OnlyMerges files records bad
