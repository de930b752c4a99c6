-- What is read of a chunk table.
use Rattle.std.specs.Prelude.{◌≡◌, ℕ, nat_le, nat_lt, min, ◌&&◌, if◌then◌else◌, List, length, Option, Some, None}
use Rattle.las_header.specs.declared.refusal.Refusal.{Refusal}
use Rattle.las_header.specs.declared.refusal.Refusal.TheVariants as cause
use Rattle.las_header.specs.Causes.{cause_number}
use Rattle.las_header.specs.Conditions.{IsFirst}
use Rattle.las_header.specs.Numbers.{number_at}
use Rattle.laz_table.specs.declared.limits.TheConstants.{MAX_CHUNKS, TABLE_START}
use Rattle.laz_table.specs.declared.chunks.Blocks.{Blocks}
use Rattle.laz_table.specs.declared.chunks.Blocks.TheVariants.{Fixed, Counted}
use Rattle.laz_table.specs.declared.chunks.TableFault.{TableFault}
use Rattle.laz_table.specs.declared.chunks.TableFault.TheVariants.{Table, ChunkSum, PointSum, Memory}
use Rattle.laz_table.specs.Chunks.{table_causes}
use Rattle.laz_table.specs.VlrCauses.{chunk_count, is_counted}

-- the chunks of a file, by the chunk size in its laszip VLR and its number of points
abbrev pub table_blocks : (chunk points : ℕ) → Blocks
table_blocks chunk points = if is_counted chunk then Counted points else Fixed chunk points

-- How many chunks a table has that begins with these bytes, if chunks have a number of points of their own: the number
-- in the table, or 0 if the table is refused for it or has none.
abbrev pub chunks_counted : (bytes : List ℕ) → (points : ℕ) → ℕ
chunks_counted bytes points =
    if nat_le TABLE_START (length bytes)
    && nat_le (number_at 4 4 bytes) (min points MAX_CHUNKS) then number_at 4 4 bytes else 0

-- How many chunks a table can have that begins with these bytes: that number, or as many as the points make.
abbrev pub chunks_at_most : (bytes : List ℕ) → (chunk points : ℕ) → ℕ
chunks_at_most bytes chunk points =
    if is_counted chunk then chunks_counted bytes points else (if nat_lt 0 chunk then chunk_count points chunk else 0)

-- the cause of a fault
abbrev pub fault_cause : TableFault → Option Refusal
fault_cause Table = Some cause.Table
fault_cause ChunkSum = Some cause.ChunkSum
fault_cause PointSum = Some cause.PointSum
fault_cause Memory = None

-- A table is refused by a cause, which is the first one that holds, and this is its number.
pub record IsRefused (bytes : List ℕ) (blocks : Blocks) (total number : ℕ) : Type 0 where
  pub cause : Refusal
  pub first : IsFirst (table_causes bytes blocks total) (Some cause)
  pub number_is : number ≡ cause_number cause
