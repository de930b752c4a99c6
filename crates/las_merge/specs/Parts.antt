-- Parts of the records of a file, each a file of its own under one plain head.
use Rattle.std.specs.Prelude.{◌≡◌, ℕ, ◌*◌, ◌^◌, ◌<◌, ◌≤◌, false, List, [], length, map, Option, Some, None, All}
use Rattle.std.specs.FinMap as finmap
use Rattle.std.specs.List.{concat}
use Rattle.las_header.specs.declared.limits.TheConstants.{MAX_PLAIN_OFFSET}
use Rattle.las_header.specs.Fields.{is_packed, record_length_of}
use Rattle.las_header.specs.Heads.{IsHead}
use Rattle.las_header.specs.Vlrs.{laszip_vlrs_of}
use Rattle.las_outside.specs.Files.{FileMap}
use Rattle.laz_range.specs.Span.{IsBytes}
use Rattle.laz_forms.specs.Outputs.{finished}
use Rattle.las_merge.specs.Copying.{output_with}
use Rattle.las_merge.specs.Inputs.{CanMerge, item_at}
use Rattle.las_merge.specs.Merging.{MergesTo, merged_output}

-- the file of some records: under the head with their counts
abbrev pub part_file : (head records : List ℕ) → List ℕ
part_file head records = finished (output_with [] head None) records

abbrev pub part_packed_files : (head : List ℕ) → (parts : List (List ℕ)) → List (List ℕ)
part_packed_files head parts = map (part_file head) parts

-- whole records of a head, as bytes
pub record IsPart (head part : List ℕ) : Type 0 where
  pub count : ℕ
  pub whole : length part ≡ record_length_of head * count
  pub bytes : IsBytes part

-- Parts of the records of a file with this plain head: fewer than 2^32 records in all.
pub record AreParts (head : List ℕ) (parts : List (List ℕ)) : Type 0 where
  pub head_is : IsHead head
  pub plain : is_packed head ≡ false
  pub none : laszip_vlrs_of head ≡ []
  pub near : length head ≤ MAX_PLAIN_OFFSET
  pub head_bytes : IsBytes head
  pub each : All (IsPart head) parts
  pub few : length (concat parts) < record_length_of head * 2 ^ 32

-- The files of these parts stand under these names, in order.
abbrev pub StandUnder : FileMap → (names : List (List ℕ)) → (head : List ℕ) → (parts : List (List ℕ)) → Type 0
StandUnder known names head parts =
    (k : ℕ) → k < length parts → finmap.get known (item_at names k) ≡ Some (part_file head (item_at parts k))

-- Such files can be merged, and merging them gives the records of all parts, in order, under the head with their
-- counts.
abbrev pub PartsMerge : Type 0
PartsMerge = (known : FileMap) (names : List (List ℕ)) (head : List ℕ) (parts : List (List ℕ)) → AreParts head parts
    → 1 ≤ length parts → length parts ≡ length names → StandUnder known names head parts
    → CanMerge known names (part_packed_files head parts) × MergesTo (part_packed_files head parts) (concat parts) None
    × ((name : List ℕ) (chunk : Option ℕ)
    → finished (merged_output name (part_packed_files head parts) chunk) (concat parts)
    ≡ finished (output_with name head chunk) (concat parts))
