-- An output of point records, plain or packed: its draft, in the order in which it is written, and the patches that
-- finish it.
use Rattle.std.specs.Prelude.{ℕ, ◌/◌, ◌*◌, Bool, if◌then◌else◌, List, [], ◌∷◌, ◌++◌, length, Option, Some}
use Rattle.std.specs.Prelude.{None}
use Rattle.std.specs.List.{concat}
use Rattle.byteorder.specs.Endian.{little_bytes}
use Rattle.las_header.specs.declared.counts.Counts.{Counts}
use Rattle.las_header.specs.declared.limits.TheConstants.{COUNTS_AT, LONG_COUNTS_AT}
use Rattle.las_header.specs.Counting.{counts_bytes, long_counts_bytes, with_counts}
use Rattle.las_header.specs.Fields.{has_long_counts, record_length_of}
use Rattle.las_header.specs.Plain.{cut_records}
use Rattle.las_points.specs.Tally.{counts_of}
use Rattle.las_outside.specs.Drafts.{Patch, with_patches}
use Rattle.laz_forms.specs.Packing.{chunk_blocks, chunks_of, packed_front, packed_head, packed_points, table_after}

-- What is fixed of an output when it is created: its name; the plain head; the chunk size, if it is packed; and whether
-- the counts of its head are those of its records.
pub record Output : Type 0 where
  pub name : List ℕ
  pub head : List ℕ
  pub chunk : Option ℕ
  pub counted : Bool

-- the head as it is first written: with counts of zero, if the records are counted
abbrev pub unfinished_head : Output → List ℕ
unfinished_head out = if out.counted then with_counts (counts_of []) out.head else out.head

-- what is written before the records: the head, and the place of the points in the place of the pointer
abbrev pub front_written : Option ℕ → (head : List ℕ) → List ℕ
front_written None head = head
front_written (Some chunk) head = packed_front head chunk (length (packed_head head chunk))

abbrev pub front : Output → List ℕ
front out = front_written out.chunk (unfinished_head out)

-- what is written for the records
abbrev pub points_written : Option ℕ → (head records : List ℕ) → List ℕ
points_written None head records = records
points_written (Some chunk) head records = packed_points (chunks_of head (chunk_blocks head records chunk))

-- the draft of an output of these records, one after another
abbrev pub draft_of : Output → (records : List ℕ) → List ℕ
draft_of out records = front out ++ points_written out.chunk out.head records

-- the point records of a head, each as its bytes
abbrev pub records_after : (head records : List ℕ) → List (List ℕ)
records_after head records = cut_records (record_length_of head) (length records / record_length_of head) records

-- the patches that set the counts of a head: the 24 bytes at 107, and for LAS 1.4 then the 128 bytes at 247
abbrev pub counts_patches : (head : List ℕ) → Counts → List Patch
counts_patches head counts =
    (COUNTS_AT, counts_bytes counts)
    ∷ (if has_long_counts head then (LONG_COUNTS_AT, long_counts_bytes counts) ∷ [] else [])

-- the patch that sets the pointer to the chunk table
abbrev pub pointer_patches : Option ℕ → (head records : List ℕ) → List Patch
pointer_patches None head records = []
pointer_patches (Some chunk) head records = (
  length (packed_head head chunk),
  little_bytes 8 (table_after head chunk (chunks_of head (chunk_blocks head records chunk))),
) ∷ []

-- the patches of an output of these records: the counts, and then the pointer
abbrev pub patches_of : Output → (records : List ℕ) → List Patch
patches_of out records =
    (if out.counted then counts_patches out.head (counts_of (records_after out.head records)) else [])
    ++ pointer_patches out.chunk out.head records

-- the output when it is finished
abbrev pub finished : Output → (records : List ℕ) → List ℕ
finished out records = with_patches (draft_of out records) (patches_of out records)

-- the records that stand in full chunks; all of them, if the output is plain
abbrev pub full_points : Option ℕ → (head records : List ℕ) → List ℕ
full_points None head records = records
full_points (Some chunk) head records =
    concat (chunks_of head (cut_records (record_length_of head * chunk)
    (length records / (record_length_of head * chunk)) records))

-- what stands of an output after it is stopped: the front, and the records, or the full chunks of them
abbrev pub stopped : Output → (records : List ℕ) → List ℕ
stopped out records = front out ++ full_points out.chunk out.head records
