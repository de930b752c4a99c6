-- Laws of copied files.
use Rattle.std.specs.Prelude.{◌≡◌, ℕ, ◌^◌, ◌<◌, ◌≤◌, true, List, [], ◌∷◌, length, take, None}
use Rattle.std.specs.List.{AllByRecursion, concat}
use Rattle.las_header.specs.Counting.{long_returns}
use Rattle.las_header.specs.Fields.{format_of, has_long_counts, head_of, is_packed, long_returns_of, record_length_of}
use Rattle.las_header.specs.Fields.{returns_of}
use Rattle.las_header.specs.Plain.{plain_of}
use Rattle.las_points.specs.Tally.{counted_file, counts_of}
use Rattle.laz_range.specs.Span.{IsBytes}
use Rattle.laz_table.specs.declared.limits.TheConstants.{MAX_CHUNKS}
use Rattle.laz_forms.specs.Outputs.{records_after}
use Rattle.laz_forms.specs.Records.{AreRecordsOf, Unpacks}
use Rattle.laz_forms.specs.Refusing.{IsAcceptedFile}
use Rattle.laz_copied.specs.Copied.{Chunk, HaveChunks, all_of, copied_file, first_head, points_of_files}

-- a packed file that is accepted, with records as the first file has them
pub record CanBeCopied (first file : List ℕ) : Type 0 where
  pub accepted : IsAcceptedFile file
  pub packed : is_packed (head_of file) ≡ true
  pub bytes : IsBytes file
  pub format : format_of (head_of file) ≡ format_of first
  pub record_length : record_length_of (head_of file) ≡ record_length_of first

-- Files whose chunks can be copied into one: there is one at least, and they have fewer than 2^32 records and at most
-- 2^24 chunks in all.
pub record CanCopy (files : List (List ℕ)) (parts : List (List Chunk)) : Type 0 where
  pub some : 1 ≤ length files
  pub each : AllByRecursion (CanBeCopied (first_head files)) files
  pub few : points_of_files files < 2 ^ 32
  pub have : HaveChunks files parts
  pub chunks : length (all_of parts) ≤ MAX_CHUNKS

-- each file has its blocks of records, one for each chunk, and no bad chunk
abbrev pub HaveBlocks : (files : List (List ℕ)) → (blocks : List (List (List ℕ))) → Type 0
HaveBlocks [] [] = Unit {0}
HaveBlocks [] (part ∷ parts) = ⊥
HaveBlocks (file ∷ files) [] = ⊥
HaveBlocks (file ∷ files) (part ∷ parts) = AreRecordsOf file part None × HaveBlocks files parts

-- They are accepted as one, whether their chunks hold records or not.
abbrev pub IsCopiedAccepted : Type 0
IsCopiedAccepted = (files : List (List ℕ)) (parts : List (List Chunk)) → CanCopy files parts
    → IsAcceptedFile (copied_file files (all_of parts))

-- If no chunk is bad, the one file has their records, one file after another.
abbrev pub HasTheirRecords : Type 0
HasTheirRecords = (files : List (List ℕ)) (parts : List (List Chunk)) (blocks : List (List (List ℕ)))
    → CanCopy files parts → HaveBlocks files blocks
    → AreRecordsOf (copied_file files (all_of parts)) (all_of blocks) None

-- The numbers by return that a head has are those of these records, in each set that it has.
abbrev pub HasRightCounts : (head records : List ℕ) → Type 0
HasRightCounts head records =
    (returns_of head ≡ take 5 (counts_of (records_after head records)).returns)
    × (has_long_counts head ≡ true → long_returns_of head ≡ long_returns (counts_of (records_after head records)))

abbrev pub AreRight : (files : List (List ℕ)) → (blocks : List (List (List ℕ))) → Type 0
AreRight [] [] = Unit {0}
AreRight [] (part ∷ parts) = ⊥
AreRight (file ∷ files) [] = ⊥
AreRight (file ∷ files) (part ∷ parts) = HasRightCounts (head_of file) (concat part) × AreRight files parts

-- All files have a second set of counts, if the first one has.
abbrev pub HaveBothSets : (files : List (List ℕ)) → Type 0
HaveBothSets files = has_long_counts (first_head files) ≡ true
    → AllByRecursion (λ file. has_long_counts (head_of file) ≡ true) files

-- Then, if all heads have the right counts, the one file unpacks to what merging gives: the first file's plain head
-- with the counts of all records, and the records.
abbrev pub UnpacksToMerged : Type 0
UnpacksToMerged = (files : List (List ℕ)) (parts : List (List Chunk)) (blocks : List (List (List ℕ)))
    → CanCopy files parts → HaveBlocks files blocks → AreRight files blocks → HaveBothSets files
    → let head = plain_of (first_head files) in
    Unpacks (copied_file files (all_of parts)) (counted_file head (records_after head (concat (all_of blocks))))
