-- What splitting a file gives: its records in parts, up to the first bad chunk or the first record that would open one
-- part too many.
use Rattle.std.specs.Prelude.{◌≡◌, ℕ, ◌+◌, ◌≤◌, List, [], ◌∷◌, ◌++◌, length, take, Option, Some, None}
use Rattle.std.specs.List.{concat}
use Rattle.las_header.specs.declared.refusal.Refusal.{Refusal}
use Rattle.las_header.specs.declared.refusal.Refusal.TheVariants.{BadChunk, TooManyParts}
use Rattle.las_header.specs.Fields.{head_of}
use Rattle.las_filter.specs.declared.rule.Rule.{Rule}
use Rattle.laz_forms.specs.Outputs.{records_after}
use Rattle.laz_forms.specs.Pieces.{ArePieces, Piece}
use Rattle.laz_forms.specs.Records.{AreRecordsOf, HoldBlocks}
use Rattle.las_split.specs.declared.limits.TheConstants.{MAX_PARTS}
use Rattle.las_split.specs.Parts.{numbers_of_parts}

-- the records in some blocks of a file, each as its bytes
abbrev pub records_in_blocks : (file : List ℕ) → (blocks : List (List ℕ)) → List (List ℕ)
records_in_blocks file blocks = records_after (head_of file) (concat blocks)

-- These are the records in some blocks of a file, and no more parts than there may be.
pub record HaveParts (rule : Rule) (file : List ℕ) (blocks records : List (List ℕ)) : Type 0 where
  pub records_are : records_in_blocks file blocks ≡ records
  pub few : length (numbers_of_parts rule records) ≤ MAX_PARTS

-- A record opens one part too many after these records.
pub record OpensTooMany (rule : Rule) (records : List (List ℕ)) (point : List ℕ) : Type 0 where
  pub full : length (numbers_of_parts rule records) ≡ MAX_PARTS
  pub more : length (numbers_of_parts rule (records ++ point ∷ [])) ≡ MAX_PARTS + 1

-- The first pieces of a file hold these records, and after them one that opens one part too many.
pub record EndsTooMany (rule : Rule) (file : List ℕ) (records : List (List ℕ)) : Type 0 where
  pub pieces : List Piece
  pub are : ArePieces file pieces
  pub number : ℕ
  pub blocks : List (List ℕ)
  pub hold : HoldBlocks file (take number pieces) blocks
  pub point : List ℕ
  pub rest : List (List ℕ)
  pub records_are : records_in_blocks file blocks ≡ records ++ point ∷ rest
  pub opens : OpensTooMany rule records point

-- The records of an accepted file that go into parts, and the refusal that ends them, if there is one: the first bad
-- chunk, or that there are too many parts, whichever comes first.
abbrev pub SplitsTo : Rule → (file : List ℕ) → (records : List (List ℕ)) → Option Refusal → Type 0
SplitsTo rule file records None =
    (blocks : List (List ℕ)) × AreRecordsOf file blocks None × HaveParts rule file blocks records
SplitsTo rule file records (Some (BadChunk i)) =
    (blocks : List (List ℕ)) × AreRecordsOf file blocks (Some i) × HaveParts rule file blocks records
SplitsTo rule file records (Some TooManyParts) = EndsTooMany rule file records
SplitsTo rule file records (Some cause) = ⊥

-- These are the records and the refusal, and no others are.
pub record OnlySplits (rule : Rule) (file : List ℕ) (records : List (List ℕ)) (refusal : Option Refusal) : Type 0 where
  pub are : SplitsTo rule file records refusal
  pub only : (others : List (List ℕ)) (other : Option Refusal) → SplitsTo rule file others other
      → (others ≡ records) × (other ≡ refusal)

-- These are the numbers of the parts of a file that is split whole, in the order of their first records.
abbrev pub AreNumbersOf : Rule → (numbers file : List ℕ) → Type 0
AreNumbersOf rule numbers file =
    (records : List (List ℕ)) × OnlySplits rule file records None × (numbers ≡ numbers_of_parts rule records)
