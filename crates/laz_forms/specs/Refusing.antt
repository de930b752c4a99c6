-- Which files are refused when they are opened, and by which cause: the first condition that holds, in one list.
use Rattle.std.specs.Prelude.{ℕ, ◌+◌, ◌-◌, ◌^◌, ◌==◌, nat_lt, ◌&&◌, ◌||◌, Bool, true, false, if◌then◌else◌, List, []}
use Rattle.std.specs.Prelude.{◌∷◌, ◌++◌, length, take, drop, Option, None}
use Rattle.las_header.specs.declared.refusal.Refusal.{Refusal}
use Rattle.las_header.specs.declared.refusal.Refusal.TheVariants as cause
use Rattle.las_header.specs.Numbers.{number_at}
use Rattle.las_header.specs.Fields.{head_of, is_packed, point_offset_of, points_of}
use Rattle.las_header.specs.Refusals.{causes_of}
use Rattle.las_header.specs.Conditions.{Condition, IsFirst, conditions}
use Rattle.laz_table.specs.declared.chunks.Blocks.{Blocks}
use Rattle.laz_table.specs.declared.chunks.Blocks.TheVariants.{Fixed, Counted}
use Rattle.laz_table.specs.Chunks.{table_causes}
use Rattle.laz_table.specs.VlrCauses.{chunk_size_of, is_counted, vlr_causes}

-- where the chunks of a packed file begin: after the eight bytes of the pointer
abbrev pub chunks_place : (file : List ℕ) → ℕ
chunks_place file = point_offset_of file + 8

-- The pointer is eight bytes 255: a writer that could not go back has put it at the end of the file.
abbrev pub has_last_pointer : (file : List ℕ) → Bool
has_last_pointer file = number_at 8 (point_offset_of file) file == 2 ^ 64 - 1

-- where the chunk table begins
abbrev pub table_place : (file : List ℕ) → ℕ
table_place file =
    if has_last_pointer file then number_at 8 (length file - 8) file else number_at 8 (point_offset_of file) file

-- the end of what the table may take
abbrev pub table_end : (file : List ℕ) → ℕ
table_end file = if has_last_pointer file then length file - 8 else length file

-- TablePointer: the pointer is not there, or the table would not lie between the pointer and the end.
abbrev pub has_bad_pointer : (file : List ℕ) → Bool
has_bad_pointer file =
    nat_lt (length file) (chunks_place file)
    || (has_last_pointer file && nat_lt (length file) (chunks_place file + 8))
    || nat_lt (table_place file) (chunks_place file) || nat_lt (table_end file) (table_place file)

-- the bytes that the table is read from
abbrev pub table_part : (file : List ℕ) → List ℕ
table_part file = drop (table_place file) (take (table_end file) file)

-- the chunks that the head of a packed file lets its table have
abbrev pub blocks_in : (head : List ℕ) → Blocks
blocks_in head =
    if is_counted (chunk_size_of head) then Counted (points_of head) else Fixed (chunk_size_of head) (points_of head)

-- the conditions that tests decide: of the front, the head, and of a packed file the laszip VLR and the pointer
abbrev pub tested_causes : (file : List ℕ) → List (Bool × Refusal)
tested_causes file =
    causes_of file
    ++ (if is_packed (head_of file)
    then vlr_causes (head_of file) ++ (has_bad_pointer file, cause.TablePointer) ∷ [] else [])

-- the conditions of the table of a packed file
abbrev pub chunk_causes : (packed : Bool) → (file : List ℕ) → List Condition
chunk_causes true file =
    table_causes (table_part file) (blocks_in (head_of file)) (table_place file - chunks_place file)
chunk_causes false file = []

-- The file is refused for this cause, or for none: the first of the tested conditions that holds, and if there is none,
-- the first of those of the table.
abbrev pub IsRefusal : (file : List ℕ) → Option Refusal → Type 0
IsRefusal file answer =
    IsFirst (conditions (tested_causes file) ++ chunk_causes (is_packed (head_of file)) file) answer

-- The file is refused for no cause.
abbrev pub IsAcceptedFile : (file : List ℕ) → Type 0
IsAcceptedFile file = IsRefusal file None
