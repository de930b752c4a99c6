-- Laws of copied inputs.
use Rattle.std.specs.Prelude.{◌≡◌, ℕ, ◌≤◌, List, length, None, All}
use Rattle.las_header.specs.Fields.{head_of}
use Rattle.las_outside.specs.Files.{FileMap}
use Rattle.laz_range.specs.Span.{IsBytes}
use Rattle.laz_forms.specs.Outputs.{finished}
use Rattle.laz_forms.specs.Records.{Unpacks}
use Rattle.laz_forms.specs.Refusing.{IsAcceptedFile}
use Rattle.laz_copied.specs.Copied.{Chunk, all_of, copied_file}
use Rattle.laz_copied.specs.Laws.{HasRightCounts, HaveBothSets}
use Rattle.las_merge.specs.declared.fault.MergeFault.{MergeFault}
use Rattle.las_merge.specs.Merging.{HasRecords, MergesTo, merged_output}
use Rattle.las_merge.specs.Packed.{CanCopyFrom, IsKeptFromCopying}

-- Inputs are kept from being copied by at most one cause,
abbrev pub IsKeptFromCopyingByOne : Type 0
IsKeptFromCopyingByOne = (known : FileMap) (names : List (List ℕ)) (one other : MergeFault)
    → IsKeptFromCopying known names one → IsKeptFromCopying known names other → other ≡ one

-- and by none if they can be copied.
abbrev pub IsKeptOrCopied : Type 0
IsKeptOrCopied = (known : FileMap) (names files : List (List ℕ)) (parts : List (List Chunk)) (cause : MergeFault)
    → IsKeptFromCopying known names cause → CanCopyFrom known names files parts → ⊥

-- They can be copied as one list of files, with one list of chunks each.
abbrev pub AreCopiedOnce : Type 0
AreCopiedOnce = (known : FileMap) (names one other : List (List ℕ)) (parts others : List (List Chunk))
    → CanCopyFrom known names one parts → CanCopyFrom known names other others → (other ≡ one) × (others ≡ parts)

-- inputs that can be copied, and are made of bytes
pub record AreCopied (known : FileMap) (names files : List (List ℕ)) (parts : List (List Chunk)) : Type 0 where
  pub some : 1 ≤ length names
  pub can : CanCopyFrom known names files parts
  pub bytes : All IsBytes files

-- They are accepted as one file, whether or not the chunks hold records.
abbrev pub AreAcceptedAsOne : Type 0
AreAcceptedAsOne = (known : FileMap) (names files : List (List ℕ)) (parts : List (List Chunk))
    → AreCopied known names files parts → IsAcceptedFile (copied_file files (all_of parts))

-- If no chunk is bad, the one file has the records that merging gives.
abbrev pub HaveMergedRecords : Type 0
HaveMergedRecords = (known : FileMap) (names files : List (List ℕ)) (parts : List (List Chunk)) (records : List ℕ)
    → AreCopied known names files parts → MergesTo files records None
    → HasRecords (copied_file files (all_of parts)) records

-- A file's head has the right numbers by return, in each set that it has.
abbrev pub HasRightHead : (file : List ℕ) → Type 0
HasRightHead file = (records : List ℕ) → HasRecords file records → HasRightCounts (head_of file) records

-- If moreover each head has them, and each has a second set if the first one does, the one file unpacks to the merged
-- file.
abbrev pub UnpackToMerged : Type 0
UnpackToMerged = (known : FileMap) (names files : List (List ℕ)) (parts : List (List Chunk)) (records name : List ℕ)
    → AreCopied known names files parts → MergesTo files records None → All HasRightHead files → HaveBothSets files
    → Unpacks (copied_file files (all_of parts)) (finished (merged_output name files None) records)
