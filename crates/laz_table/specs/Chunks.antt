-- The chunks that the header and the laszip VLR of a file let a table have, and what a table is refused for.
use Rattle.std.specs.Prelude.{◌≡◌, ◌≢◌, ℕ, ◌-◌, ◌*◌, ◌<◌, ◌≤◌, min, sum, map, All, Bool, true}
use Rattle.std.specs.Prelude.{false, Some, None, List, [], ◌∷◌, length}
use Rattle.std.specs.List.{range_with_len}
use Rattle.las_header.specs.declared.refusal.Refusal.TheVariants as cause
use Rattle.las_header.specs.Conditions.{Condition, IsFirst}
use Rattle.las_header.specs.declared.limits.TheConstants.{MAX_CHUNK_POINTS}
use Rattle.laz_table.specs.declared.limits.TheConstants.{MAX_CHUNKS}
use Rattle.laz_table.specs.declared.chunks.Blocks.{Blocks}
use Rattle.laz_table.specs.declared.chunks.Blocks.TheVariants.{Fixed, Counted}
use Rattle.laz_table.specs.declared.chunks.TableFault.{TableFault}
use Rattle.laz_table.specs.declared.chunks.TableFault.TheVariants.{Table, ChunkSum, PointSum, Memory}
use Rattle.laz_table.specs.VlrCauses.{chunk_count}
use Rattle.laz_table.specs.Table.{TableHolds}

-- whether chunks have a number of points of their own
abbrev pub are_counted : Blocks → Bool
are_counted (Fixed chunk points) = false
are_counted (Counted points) = true

-- how many chunks there may be: as many as the points make, or at most one for each point and at most 2^24
abbrev pub IsChunkCount : Blocks → ℕ → Type 0
IsChunkCount (Fixed chunk points) n = n ≡ chunk_count points chunk
IsChunkCount (Counted points) n = n ≤ min points MAX_CHUNKS

-- bytes begin with a table of such chunks
pub record BeginsTable (bytes : List ℕ) (blocks : Blocks) (sizes counts : List ℕ) : Type 0 where
  pub count : IsChunkCount blocks (length counts)
  pub holds : TableHolds bytes (length counts) (are_counted blocks) sizes counts

-- And with no other one: numbers of 256 and more, which are no bytes, can spell two.
pub record HasTable (bytes : List ℕ) (blocks : Blocks) (sizes counts : List ℕ) : Type 0 where
  pub begins : BeginsTable bytes blocks sizes counts
  pub only : (others more : List ℕ) → BeginsTable bytes blocks others more → (others ≡ sizes) × (more ≡ counts)

-- Table: the bytes begin with no such table.
abbrev pub LacksTable : List ℕ → Blocks → Type 0
LacksTable bytes blocks = (sizes counts : List ℕ) → HasTable bytes blocks sizes counts → ⊥

-- ChunkSum: the chunks' numbers of bytes do not add up to those before the table.
abbrev pub HasOtherBytes : List ℕ → Blocks → (total : ℕ) → Type 0
HasOtherBytes bytes blocks total =
    (sizes : List ℕ) × (counts : List ℕ) × HasTable bytes blocks sizes counts × (sum counts ≢ total)

-- a chunk has points, and not too many
abbrev pub IsCountedSize : ℕ → Type 0
IsCountedSize size = (0 < size) × (size ≤ MAX_CHUNK_POINTS)

-- the chunks' own numbers of points are in range and add up
abbrev pub AreSizes : (points : ℕ) → (sizes : List ℕ) → Type 0
AreSizes points sizes = All IsCountedSize sizes × (sum sizes ≡ points)

abbrev pub AllowsSizes : Blocks → (sizes : List ℕ) → Type 0
AllowsSizes (Fixed chunk points) sizes = Unit {0}
AllowsSizes (Counted points) sizes = AreSizes points sizes

-- PointSum: they are not.
abbrev pub HasOtherPoints : List ℕ → Blocks → Type 0
HasOtherPoints bytes (Fixed chunk points) = ⊥
HasOtherPoints bytes (Counted points) =
    (sizes : List ℕ) × (counts : List ℕ) × HasTable bytes (Counted points) sizes counts × (¬ AreSizes points sizes)

-- the conditions of a packed file that its table decides, in order
abbrev pub table_causes : List ℕ → Blocks → (total : ℕ) → List Condition
table_causes bytes blocks total =
    record { holds = LacksTable bytes blocks; cause = cause.Table }
    ∷ record { holds = HasOtherBytes bytes blocks total; cause = cause.ChunkSum }
    ∷ record { holds = HasOtherPoints bytes blocks; cause = cause.PointSum } ∷ []

-- the numbers of points of the chunks of a fixed size: each the size, the last one the rest
abbrev pub fixed_sizes : (chunk points : ℕ) → List ℕ
fixed_sizes chunk points = map (λ i. min chunk (points - chunk * i)) (range_with_len 0 (chunk_count points chunk))

-- the number of points of each chunk, by the numbers that the table has
abbrev pub sizes_of : Blocks → (coded : List ℕ) → List ℕ
sizes_of (Fixed chunk points) coded = fixed_sizes chunk points
sizes_of (Counted points) coded = coded

-- a fixed chunk size is at least 1
abbrev pub HasChunkSize : Blocks → Type 0
HasChunkSize (Fixed chunk points) = 0 < chunk
HasChunkSize (Counted points) = Unit {0}

-- What is read of a table that is not refused: the lists that the bytes hold, and the number of points of each chunk.
pub record IsAccepted (bytes : List ℕ) (blocks : Blocks) (total : ℕ) (sizes counts : List ℕ) : Type 0 where
  pub coded : List ℕ
  pub table : HasTable bytes blocks coded counts
  pub sizes_are : sizes ≡ sizes_of blocks coded
  pub fine : IsFirst (table_causes bytes blocks total) None

-- a fault is the first cause of the table, or memory ran out
abbrev pub IsFirstFault : List ℕ → Blocks → (total : ℕ) → TableFault → Type 0
IsFirstFault bytes blocks total Table = IsFirst (table_causes bytes blocks total) (Some cause.Table)
IsFirstFault bytes blocks total ChunkSum = IsFirst (table_causes bytes blocks total) (Some cause.ChunkSum)
IsFirstFault bytes blocks total PointSum = IsFirst (table_causes bytes blocks total) (Some cause.PointSum)
IsFirstFault bytes blocks total Memory = Unit {0}
